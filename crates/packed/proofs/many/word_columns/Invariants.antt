-- `packed::many::word_columns` meets its contract: after each turn acc has the stack of the columns passed.
-- Assumes nothing.
use Rattle.std.proofs.Common.{◌≤◌}
use Rattle.packed.specs.Columns.{WordTurn}
use Rattle.packed.proofs.many.word_columns.Given as goal

abbrev pub invariant-loop-j : goal.invariant-loop-j
invariant-loop-j l = (l.j ≤ 16) × WordTurn l.cpi l.batch l.k l.acc l.bad l.j
