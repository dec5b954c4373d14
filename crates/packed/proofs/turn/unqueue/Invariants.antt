-- `packed::turn::unqueue` meets its contract: the pairs passed stand in the two halves, exchanged back.
-- Assumes nothing.
use Rattle.packed.specs.Turn.{halves, neighbours}
use Rattle.packed.specs.Laws.Queue.{Pairs}
use Rattle.packed.proofs.turn.unqueue.Given as goal

abbrev pub invariant-loop-k : goal.invariant-loop-k
invariant-loop-k l = Pairs l.j neighbours (halves l.h) l.h l.b l.a l.k
