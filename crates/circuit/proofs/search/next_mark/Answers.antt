-- `circuit::search::next_mark` meets its contract: the count from here is the count asked for, at every turn.
-- Assumes nothing.
use Rattle.std.proofs.Common.{◌≡◌, ◌∙◌, sym, length, arith, rules}
use Rattle.circuit.specs.Words.{is_mark}
use Rattle.circuit.specs.Laws.Search.{stops, goes, ends}
use Rattle.base.specs.Laws.WaysOut.{waysOut}
use Rattle.circuit.proofs.search.next_mark.Goals as goal

pub loop-k-init : goal.loop-k-init
loop-k-init c = search waysOut

pub returns-then-listing-k-gt2 : goal.returns-then-listing-k-gt2
returns-then-listing-k-gt2 c = search (stops, waysOut)

pub loop-k-preserved : goal.loop-k-preserved
loop-k-preserved c = search (goes, waysOut, rules)

pub returns : goal.returns
returns c =
    let t = c.loop-k in let n = length c.args.listing.now in let all : n ≡ t.k = omega arith in
    all ∙ sym (ends (is_mark) _ t.k c.loop-k-test.false) ∙ t.invariant
