-- A text with a line end after every 60 characters, line by line.
-- Assumes nothing.
use Rattle.std.specs.Prelude.{◌≡◌, List, ◌++◌, ℕ, zero, suc, ◌+◌, ◌*◌, take, drop}
use Rattle.std.proofs.Common.{sym, ap, ◌∙◌, append-nil, append_assoc, add-one, arith, drop-drop}
use Rattle.base.specs.Text.{ascii}
use Rattle.benchpage.specs.Printed.{lined}

-- one line more
pub lined-more : (i : ℕ) (text : List ℕ) → lined i text ++ (take 60 (drop (60 * i) text) ++ ascii "\n") ≡ lined (i + 1) text
unfolding lined
lined-more i text = go i text ∙ ap (λ (n : ℕ). lined n text) (sym (add-one i))
  where
    go : (i : ℕ) (text : List ℕ) → lined i text ++ (take 60 (drop (60 * i) text) ++ ascii "\n") ≡ lined (suc i) text
    go zero text = sym (append-nil (take 60 text ++ ascii "\n"))
    go (suc i) text =
        let e : 60 * suc i ≡ 60 + 60 * i = omega arith in
        append_assoc (take 60 text ++ ascii "\n") (lined i (drop 60 text)) _
        ∙ ap (λ (l : List ℕ). take 60 text ++ ascii "\n" ++ l)
        (ap (λ (l : List ℕ). lined i (drop 60 text) ++ (take 60 l ++ ascii "\n"))
        (ap (λ (k : ℕ). drop k text) e ∙ sym (drop-drop (60 * i) 60 text))
        ∙ go i (drop 60 text))
