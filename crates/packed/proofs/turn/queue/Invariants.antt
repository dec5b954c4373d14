-- `packed::turn::queue` meets its contract: the pairs passed stand side by side, exchanged.
-- Assumes nothing.
use Rattle.packed.specs.Turn.{halves, neighbours}
use Rattle.packed.specs.Laws.Queue.{Pairs}
use Rattle.packed.proofs.turn.queue.Given as goal

abbrev pub invariant-loop-k : goal.invariant-loop-k
invariant-loop-k l = Pairs l.j (halves l.h) neighbours l.h l.a l.b l.k
