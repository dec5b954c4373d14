-- `layout::unmap_col` meets its contract: `shift-and-mask` is the last way out's.
-- Assumes nothing.
use mathlib.Core.Path.{sym, ap, ap₂, ◌∙◌}
use Prim.Native.Nat.{ℕ, ◌/◌, ◌^◌}
use borrow.Author.Tests.{lt-ltb}
use native.Mathlib.Omega.{arith}
use Rattle.layout.specs.Batch.{unmapped, cycle_column}
use Rattle.layout.specs.Laws.Sizes.{allowed-range}
use Rattle.layout.specs.Laws.Exponent.{exponent-below, shift-and-mask}
use Rattle.base.specs.Laws.Tests.{passed}
use Rattle.layout.proofs.unmap_col.Goals as goal

pub overflow_mul-cpi : goal.overflow_mul-cpi
overflow_mul-cpi c = omega (arith, allowed-range _ (sym c.is_allowed.ensures ∙ c.if-not-is_allowed.false))

pub overflow_shr-result : goal.overflow_shr-result
overflow_shr-result c =
    omega (arith, c.exponent.ensures, exponent-below _ (sym c.is_allowed.ensures ∙ c.if-not-is_allowed.false))

pub returns : goal.returns
unfolding unmapped
returns c =
    let ok = sym c.is_allowed.ensures ∙ c.if-not-is_allowed.false in
    let q = shift-and-mask c.args.cpi c.args.batch_column ok in
    ap₂ cycle_column (ap (λ (k : ℕ). c.args.batch_column / 2 ^ k) c.exponent.ensures ∙ q.0) q.1
    ∙ passed _ _ _ (lt-ltb _ _ c.if-cpi-batch_column.false) ∙ passed _ _ _ ok
