-- `merge::first_differing` meets its contract: the search from here finds what the whole search does, at every turn.
-- Assumes nothing.
use Rattle.std.proofs.Common.{◌≡◌, sym, ◌∙◌, arith}
use Rattle.base.specs.Laws.First.{first_stops, first_goes, first_ends}
use Rattle.merge.proofs.first_differing.Goals as goal

pub returns-then-differ_at : goal.returns-then-differ_at
returns-then-differ_at c =
    let t = c.loop-i in
    sym (first_stops _ t.i _ c.loop-i-test.true (sym c.differ_at.ensures ∙ c.if-differ_at.true)) ∙ t.invariant

pub loop-i-preserved : goal.loop-i-preserved
loop-i-preserved c =
    let t = c.loop-i in
    sym (first_goes _ t.i _ c.loop-i-test.true (sym c.differ_at.ensures ∙ c.if-differ_at.false)) ∙ t.invariant

pub returns : goal.returns
returns c =
    let t = c.loop-i in let e : c.args.end ≡ t.i = omega arith in
    e ∙ sym (first_ends _ t.i _ c.loop-i-test.false) ∙ t.invariant
