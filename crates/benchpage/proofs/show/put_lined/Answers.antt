-- `benchpage::show::put_lined` meets its contract: as far as the loop has come, the lines stand one behind the other, each with its end.
-- Assumes nothing.
use Rattle.std.proofs.Common.{◌≡◌, refl, sym, ap, ◌∙◌, ℕ, ◌+◌, ◌*◌, ◌/◌, ◌≤◌, List, [], ◌∷◌, ◌++◌, length, take, drop, length-append, length-drop, arith}
use Rattle.std.proofs.lemmas.List.{drop_at, take_at}
use lib.Seq.{drop-drop}
use Rattle.base.specs.Text.{ascii}
use Rattle.text.specs.Laws.Put.{placed-then, placed-as, placed-none}
use Rattle.benchpage.specs.Printed.{lined}
use Rattle.benchpage.specs.Laws.Lined.{lined-more}
use Rattle.benchpage.proofs.show.put_lined.Goals as goal

-- the line that is taken from the front of what is left, and what is left behind it
turn : (i : ℕ) (text line rest : List ℕ) → drop (60 * i) text ≡ line ++ rest → length line ≡ 60
    → (line ≡ take 60 (drop (60 * i) text)) × (rest ≡ drop (60 * (i + 1)) text) × (60 * i + 60 ≤ length text)
turn i text line rest e n = (
  sym (take_at line rest 60 n) ∙ ap (take 60) (sym e),
  sym (drop_at line rest 60 n) ∙ ap (drop 60) (sym e) ∙ drop-drop 60 (60 * i) text ∙ ap (λ (k : ℕ). drop k text) (omega arith),
  omega (arith, ap length e, length-drop (60 * i) text, length-append line rest),
)

pub loop-line-init : goal.loop-line-init
unfolding lined
loop-line-init c =
    let from = c.chunks_exact-line-items.ensures in let e = c.into_iter-line-iterator.ensures.into_iter_gives in
    rw e (from.size, from.rest, omega arith, refl, placed-none _ _)

pub put_line-at-requires : goal.put_line-at-requires
put_line-at-requires c =
    let v = c.loop-line.invariant in let s = c.in-Some.ensures.steps.1 in let i = length c.loop-line.yielded in
    let t = turn i c.args.text.now c.in-Some.line.now _ (sym v.1 ∙ s.0) (s.1 ∙ v.0) in omega (arith, s.1, v.0, t.2)

pub loop-line-preserved : goal.loop-line-preserved
loop-line-preserved c =
    let v = c.loop-line.invariant in let s = c.in-Some.ensures.steps in
    let i = length c.loop-line.yielded in let text = c.args.text.now in let line = c.in-Some.line.now in
    let t = turn i text line _ (sym v.1 ∙ s.1.0) (s.1.1 ∙ v.0) in let put = c.put_line-at.ensures in
    let n : length (c.loop-line.yielded ++ c.in-Some.line ∷ []) ≡ i + 1 = length-append _ _ in
    rw n (
      s.0 ∙ v.0,
      t.1,
      omega (arith, t.2),
      omega (arith, put.answer-is, v.3, v.0, s.1.1, length-append line (ascii "\n")),
      placed-as _ _ _ _ _ _ (ap (λ (l : List ℕ). lined i text ++ (l ++ ascii "\n")) t.0 ∙ lined-more i text) (placed-then (omega arith) v.4 put),
    )

pub returns : goal.returns
returns c =
    let v = c.loop-line.invariant in let s = c.in-None.ensures.steps.1 in let text = c.args.text.now in let i = length c.loop-line.yielded in
    let all : i ≡ length text / 60 = omega (arith, s.0, v.0, v.2, ap length v.1, length-drop (60 * i) text) in
    placed-as _ _ _ _ _ _ (ap (λ (n : ℕ). lined n text) all) v.4
