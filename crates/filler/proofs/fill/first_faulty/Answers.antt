-- `filler::fill::first_faulty` meets its contract: the search from here finds what the whole search does, at every turn.
-- Assumes nothing.
use Rattle.std.proofs.Common.{◌≡◌, ℕ, ◌*◌, ◌^◌, sym, ap, ◌∙◌, arith}
use native.Mathlib.Nat.{sub-zero}
use Rattle.base.specs.Laws.First.{first_stops, first_goes, first_ends}
use Rattle.layout.specs.Laws.Exponent.{exponent-power, exponent-below}
use Rattle.step.specs.Fill.{faulty}
use Rattle.filler.proofs.fill.first_faulty.Goals as goal

pub loop-i-init : goal.loop-i-init
loop-i-init c =
    let e = c.exponent-k.ensures in
    (omega (arith, e, exponent-below _ c.requires.0), ap (λ (k : ℕ). 2 ^ k) e ∙ exponent-power _ c.requires.0, rw sub-zero)

pub returns-then-is_faulty : goal.returns-then-is_faulty
returns-then-is_faulty c =
    let t = c.loop-i in
    let size = ap (λ (n : ℕ). faulty n c.args.batch.now t.i) (sym t.invariant.1) in
    sym (first_stops _ t.i _ c.loop-i-test.true (size ∙ sym c.is_faulty.ensures ∙ c.if-is_faulty.true)) ∙ t.invariant.2

pub loop-i-preserved : goal.loop-i-preserved
loop-i-preserved c =
    let t = c.loop-i in
    let size = ap (λ (n : ℕ). faulty n c.args.batch.now t.i) (sym t.invariant.1) in (
      t.invariant.0,
      t.invariant.1,
      sym (first_goes _ t.i _ c.loop-i-test.true (size ∙ sym c.is_faulty.ensures ∙ c.if-is_faulty.false)) ∙ t.invariant.2,
    )

pub returns : goal.returns
returns c =
    let t = c.loop-i in let e : 2048 * c.args.cpi ≡ t.i = omega arith in
    e ∙ sym (first_ends _ t.i _ c.loop-i-test.false) ∙ t.invariant.2
