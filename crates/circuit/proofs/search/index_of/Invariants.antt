-- `circuit::search::index_of` meets its contract: the count from here is the count asked for, at every turn.
-- Assumes nothing.
use Rattle.std.proofs.Common.{◌≡◌, ◌+◌, drop}
use Rattle.circuit.specs.Found.{until, is_word}
use Rattle.circuit.proofs.search.index_of.Given as goal

abbrev pub invariant-loop-i : goal.invariant-loop-i
invariant-loop-i l = l.i + until (is_word l.w) (drop l.i l.listing) ≡ until (is_word l.w) l.listing
