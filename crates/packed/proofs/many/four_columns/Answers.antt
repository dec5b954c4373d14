-- `packed::many::four_columns` meets its contract: the cycles passed have their four columns below what stood there, and were seen.
-- Assumes nothing.
use Rattle.std.proofs.Common.{◌≡◌, ℕ, refl, slice_index, ◌+◌, ◌*◌, ap, ◌∙◌, arith}
use Rattle.std.proofs.Math.Path.{subst}
use Rattle.packed.specs.Columns.{pushed_at, seen_at}
use Rattle.packed.specs.Laws.Columns.{FourTurn, next-turn, last_turn}
use Rattle.packed.proofs.many.four_columns.Goals as goal

pub loop-d-preserved : goal.loop-d-preserved
loop-d-preserved c =
    let l = c.loop-d in let a = c.args in let b = a.batch.now in let i = a.at + 2 * l.d in
    let place : a.at + a.step * l.d ≡ i = ap (λ (k : ℕ). a.at + k * l.d) c.requires.two in
    let next = next-turn b a.at a.s a.acc.now l.acc l.low l.high l.d i 2
    (omega (arith, l.invariant.1.lengths, c.loop-d-test.true)) refl l.invariant.1
    (c.put_four.ensures ∙ ap (λ (j : ℕ). pushed_at b j a.s (slice_index l.acc l.d)) place)
    (c.seen_four-low.ensures ∙ ap (λ (j : ℕ). seen_at b j a.s l.low) place)
    (c.seen_four-high.ensures ∙ ap (λ (j : ℕ). seen_at b (j + 1) a.s l.high) place) in (
      omega (arith, c.loop-d-test.true),
      subst (FourTurn b a.at a.s a.acc.now _ _ _ (l.d + 1)) (omega arith) next,
    )

pub returns : goal.returns
returns c =
    let l = c.loop-d in let a = c.args in
    last_turn a.batch.now a.at a.s a.acc.now l.acc l.low l.high l.d (a.at + 2 * l.d)
    (omega (arith, l.invariant.0, l.invariant.1.lengths, c.loop-d-test.false)) l.invariant.1
