-- `packed::order::put_into` meets its contract: one cycle is copied, and more are put block after block by two lent blocks.
-- Assumes nothing.
use Rattle.std.proofs.Common.{sym, ◌∙◌, arith, length-take-le}
use Rattle.base.specs.Laws.Written.{copied-whole}
use Rattle.layout.specs.Laws.Sizes.{allowed-range}
use Rattle.packed.specs.Laws.Order.{one-cycle, lent-blocks}
use Rattle.packed.proofs.order.put_into.Goals as goal

pub returns-then-cpi-eq1 : goal.returns-then-cpi-eq1
returns-then-cpi-eq1 c =
    copied-whole _ _ _ (c.requires.room ∙ sym c.requires.read) c.copy_at.ensures
    ∙ one-cycle c.args.order _ _ c.if-cpi-eq1.true c.requires.read (λ k l. omega (arith, c.shared_slice_known-1.given k))

pub slice_bounds-a-end : goal.slice_bounds-a-end
slice_bounds-a-end c = omega (arith, (allowed-range _ c.requires.size).1)

pub slice_bounds-blocks-end : goal.slice_bounds-blocks-end
slice_bounds-blocks-end c = sym (length-take-le _ _ (omega (arith, (allowed-range _ c.requires.size).1)))

pub slice_bounds-b-end : goal.slice_bounds-b-end
slice_bounds-b-end c = omega (arith, (allowed-range _ c.requires.size).1)

pub slice_bounds-blocks-end-2 : goal.slice_bounds-blocks-end-2
slice_bounds-blocks-end-2 c = sym (length-take-le _ _ (omega (arith, (allowed-range _ c.requires.size).1)))

pub blocks-requires : goal.blocks-requires
blocks-requires c =
    lent-blocks _ _ _ _ _ c.requires c.if-cpi-eq1.false (length-take-le _ _ (omega (arith, (allowed-range _ c.requires.size).1)))
    (length-take-le _ _ (omega (arith, (allowed-range _ c.requires.size).1)))
