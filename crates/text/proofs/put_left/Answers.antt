-- `text::put_left` meets its contract: the text and then its blanks stand in `out`.
-- Assumes nothing.
use Rattle.std.proofs.Common.{◌≡◌, ℕ, List, ◌++◌, ◌+◌, ◌-◌, ◌≤◌, ◌∙◌, sym, ap, ap₂, arith, length, take, drop, replicate, refl, append_assoc, length-append}
use Rattle.std.proofs.lemmas.List.{drop-drop, length-drop, length-replicate, length-take-le}
use Rattle.std.proofs.lemmas.List.Edits.{paste_all}
use Rattle.std.proofs.lemmas.Slice.{take-put_mid, drop-put_mid}
use Rattle.std.proofs.Math.Seq.{paste}
use borrow.Rule.Slice.PartMut.{put_mid}
use Rattle.base.specs.Text.{blanks, left}
use Rattle.text.specs.Laws.Left.{left-length}
use Rattle.text.specs.Laws.Put.{put_whole, put-not}
use Rattle.text.proofs.put_left.Goals as goal

-- one text written behind another
both : (at i k j n : ℕ) (t u b : List ℕ) → i ≡ at + length t → k ≡ length t → j ≡ length u → n ≡ length t + length u → at + n ≤ length b
    → put_mid i j (put_mid at k b t) u ≡ paste b at (t ++ u) n
both at i k j n t u b ei ek ej en h =
    ap₂ (λ x y. x ++ (u ++ y)) front back ∙ append_assoc (take at b) t (u ++ drop (at + n) b)
    ∙ ap (λ x. take at b ++ x) (sym (append_assoc t u (drop (at + n) b)))
    ∙ sym (paste_all b at (t ++ u) n (omega (arith, length-append t u)))
  where
    front : take i (put_mid at k b t) ≡ take at b ++ t
    front = take-put_mid at k b t i ei (omega arith)

    back : drop j (drop i (put_mid at k b t)) ≡ drop (at + n) b
    back = drop-drop j i (put_mid at k b t) ∙ drop-put_mid at k b t (i + j) (omega arith) (omega arith) (omega arith)
        ∙ ap (λ x. drop x b) (omega arith)

-- bytes keep their number, so a part that was inside is as long as before
room : (at k i j : ℕ) (b t : List ℕ) → length t ≡ k → at + k ≤ length b → i + j ≤ length b → length (take j (drop i (put_mid at k b t))) ≡ j
room at k i j b t e h l =
    length-take-le j (drop i (put_mid at k b t))
    (omega (arith, length-drop i (put_mid at k b t), length-append (take at b) (t ++ drop k (drop at b)), length-append t (drop k (drop at b)), length-take-le at b (omega arith), length-drop k (drop at b), length-drop at b))

-- the text, and then as many blanks as fill the width
filled : (at w n : ℕ) (t b y z : List ℕ) → n ≡ length t + (w - length t) → at + n ≤ length b → y ≡ t
    → z ≡ replicate (length (take (at + n - (at + length t)) (drop (at + length t) (put_mid at (at + length t - at) b y)))) 0x20
    → put_mid (at + length t) (at + n - (at + length t)) (put_mid at (at + length t - at) b y) z ≡ paste b at (left w t) n
filled at w n t b y z e h p f =
    ap₂ (λ u v. put_mid (at + length t) (at + n - (at + length t)) (put_mid at (at + length t - at) b u) v) p (f ∙ ap (λ m. replicate m 0x20) some)
    ∙ both at (at + length t) (at + length t - at) (at + n - (at + length t)) n t (blanks (w - length t)) b
    refl (omega arith) (omega (arith, count)) (omega (arith, count)) h
  where
    count : length (blanks (w - length t)) ≡ w - length t
    count = length-replicate {A = ℕ} (w - length t) 0x20

    some : length (take (at + n - (at + length t)) (drop (at + length t) (put_mid at (at + length t - at) b y))) ≡ w - length t
    some = room at (at + length t - at) (at + length t) (at + n - (at + length t)) b y (omega (arith, ap length p)) (omega arith) (omega arith) ∙ omega arith

pub returns-then-out-at : goal.returns-then-out-at
returns-then-out-at c = let a = c.args in put-not _ _ _ (grind (arith, left-length a.width a.part.now))

pub returns : goal.returns
returns c =
    let a = c.args in
    let h = left-length a.width a.part.now in
    put_whole _ _ _ _ _ (omega arith) (omega arith)
    (filled a.at a.width _ a.part.now a.out.now _ _ (omega arith) (omega arith) c.copy_from_slice.ensures.after (c.fill.ensures.after (λ y e. e)))
