-- `layout::geometry` meets its contract: products of an allowed size fit.
-- Assumes nothing.
use mathlib.Core.Path.{sym, ◌∙◌}
use native.Mathlib.Omega.{arith}
use Rattle.layout.specs.Laws.Sizes.{allowed-range}
use Rattle.layout.proofs.geometry.Goals as goal

pub overflow_mul-w_cols : goal.overflow_mul-w_cols
overflow_mul-w_cols c = omega (arith, allowed-range _ (sym c.is_allowed.ensures ∙ c.if-not-is_allowed.false))

pub overflow_mul-result : goal.overflow_mul-result
overflow_mul-result c = omega (arith, allowed-range _ (sym c.is_allowed.ensures ∙ c.if-not-is_allowed.false))
