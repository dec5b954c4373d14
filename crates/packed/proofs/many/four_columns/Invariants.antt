-- `packed::many::four_columns` meets its contract: the cycles passed have their four columns below what stood there, and were seen.
-- Assumes nothing.
use Rattle.std.proofs.Common.{◌+◌, ◌*◌, ◌≤◌, length}
use Rattle.packed.specs.Laws.Columns.{FourTurn}
use Rattle.packed.proofs.many.four_columns.Given as goal

abbrev pub invariant-loop-d : goal.invariant-loop-d
invariant-loop-d l =
    (l.d ≤ length l.initial.acc) × FourTurn l.batch l.at l.s l.initial.acc l.acc l.low l.high l.d (l.at + 2 * l.d)
