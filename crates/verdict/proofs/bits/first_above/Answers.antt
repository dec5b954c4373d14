-- `verdict::bits::first_above` meets its contract: the search from here finds what the whole search does, at every turn.
-- Assumes nothing.
use mathlib.Core.Path.{◌≡◌, sym, ap, ◌∙◌}
use mathlib.Core.Bool.{not}
use native.Mathlib.Omega.{arith}
use Rattle.base.specs.Laws.First.{first_stops, first_goes, first_ends}
use Rattle.verdict.proofs.bits.first_above.Goals as goal

pub returns-then-not-is_bit_at : goal.returns-then-not-is_bit_at
returns-then-not-is_bit_at c =
    let t = c.loop-i in
    sym (first_stops _ t.i _ c.loop-i-test.true (ap not (sym c.is_bit_at.ensures ∙ c.if-not-is_bit_at.true))) ∙ t.invariant

pub loop-i-preserved : goal.loop-i-preserved
loop-i-preserved c =
    let t = c.loop-i in
    sym (first_goes _ t.i _ c.loop-i-test.true (ap not (sym c.is_bit_at.ensures ∙ c.if-not-is_bit_at.false))) ∙ t.invariant

pub returns : goal.returns
returns c =
    let t = c.loop-i in let n = c.args.columns in let all : n ≡ t.i = omega arith in
    all ∙ sym (first_ends _ t.i n c.loop-i-test.false) ∙ t.invariant
