-- `packed::turn::unqueue` meets its contract: the pairs passed stand in the two halves, exchanged back.
-- Assumes nothing.
use Rattle.packed.specs.Turn.{halves, neighbours}
use Rattle.packed.specs.Laws.Queue.{halves-apart, next-pairs}
use Rattle.packed.proofs.turn.unqueue.Goals as goal

pub loop-k-preserved : goal.loop-k-preserved
loop-k-preserved c =
    let l = c.loop-k in let a = c.args in
    next-pairs a.j neighbours (halves a.h) a.h a.b.now l.a l.k _ _ (halves-apart a.h)
    c.loop-k-test.true l.invariant c.exchange-t.ensures
