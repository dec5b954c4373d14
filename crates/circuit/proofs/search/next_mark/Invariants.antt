-- `circuit::search::next_mark` meets its contract: the count from here is the count asked for, at every turn.
-- Assumes nothing.
use Rattle.std.proofs.Common.{◌≡◌, ◌+◌, drop}
use Rattle.circuit.specs.Words.{is_mark}
use Rattle.circuit.specs.Found.{until}
use Rattle.circuit.proofs.search.next_mark.Given as goal

abbrev pub invariant-loop-k : goal.invariant-loop-k
invariant-loop-k l = l.k + until is_mark (drop l.k l.listing) ≡ l.i + until is_mark (drop l.i l.listing)
