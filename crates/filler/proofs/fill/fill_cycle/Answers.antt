-- `filler::fill::fill_cycle` meets its contract: the given words are read before any is written, and the blocks are written in order.
-- Assumes nothing.
use Rattle.filler.specs.Laws.Loops.{cycle-is}
use Rattle.filler.proofs.fill.fill_cycle.Goals as goal

pub returns : goal.returns
returns c =
    let a = c.args in
    cycle-is a.cpi a.cycle a.batch.now {b₁ = c.put_word-4.new.batch} {b₂ = c.put_word-6.new.batch} c.read_given-g.ensures
    c.derive-w.ensures (cc) (cc) (cc)
