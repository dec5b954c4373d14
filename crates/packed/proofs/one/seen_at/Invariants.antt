-- `packed::one::seen_at` meets its contract: the or of what was passed tells of each of them.
-- Assumes nothing.
use Rattle.std.proofs.Common.{◌≤◌}
use Rattle.packed.specs.Laws.One.{SeenFrom}
use Rattle.packed.proofs.one.seen_at.Given as goal

abbrev pub invariant-loop-j : goal.invariant-loop-j
invariant-loop-j g l = (l.j ≤ 64) × SeenFrom (g.W.Words.words l.batch) l.i l.j l.low l.high
