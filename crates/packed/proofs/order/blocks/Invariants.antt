-- `packed::order::blocks` meets its contract: the blocks passed stand in the order that is asked for.
-- Assumes nothing.
use Rattle.packed.specs.Laws.Order.{Going, batch_of, cycles_of}
use Rattle.packed.proofs.order.blocks.Given as goal

abbrev pub invariant-loop-q : goal.invariant-loop-q
invariant-loop-q l = Going l.cpi (batch_of l.order l.words l.out) (cycles_of l.order l.words l.out) l.a l.b l.out l.q
