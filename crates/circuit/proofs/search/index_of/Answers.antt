-- `circuit::search::index_of` meets its contract: the count from here is the count asked for, at every turn.
-- Assumes nothing.
use native.Mathlib.Nat.{zero-add}
use Rattle.std.proofs.Common.{◌≡◌, ◌∙◌, sym, length, arith, rules}
use Rattle.circuit.specs.Found.{is_word}
use Rattle.circuit.specs.Laws.Search.{stops, goes, ends}
use Rattle.base.specs.Laws.WaysOut.{waysOut}
use Rattle.circuit.proofs.search.index_of.Goals as goal

pub loop-i-init : goal.loop-i-init
loop-i-init c = search (zero-add, rules)

pub returns-then-listing-i : goal.returns-then-listing-i
returns-then-listing-i c = search (stops, waysOut)

pub loop-i-preserved : goal.loop-i-preserved
loop-i-preserved c = search (goes, waysOut, rules)

pub returns : goal.returns
returns c =
    let t = c.loop-i in let n = length c.args.listing.now in let all : n ≡ t.i = omega arith in
    all ∙ sym (ends (is_word c.args.w) _ t.i c.loop-i-test.false) ∙ t.invariant
