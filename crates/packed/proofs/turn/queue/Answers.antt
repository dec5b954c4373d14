-- `packed::turn::queue` meets its contract: the pairs passed stand side by side, exchanged.
-- Assumes nothing.
use Rattle.packed.specs.Turn.{halves, neighbours}
use Rattle.packed.specs.Laws.Queue.{neighbours-apart, next-pairs}
use Rattle.packed.proofs.turn.queue.Goals as goal

pub loop-k-preserved : goal.loop-k-preserved
loop-k-preserved c =
    let l = c.loop-k in let a = c.args in
    next-pairs a.j (halves a.h) neighbours a.h a.a.now l.b l.k _ _ (neighbours-apart a.h)
    c.loop-k-test.true l.invariant c.exchange-t.ensures
