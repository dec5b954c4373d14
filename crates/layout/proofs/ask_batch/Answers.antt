-- `layout::ask_batch` meets its contract: the words of a batch whose size is allowed fit.
-- Assumes nothing.
use mathlib.Core.Path.{sym, ◌∙◌}
use native.Mathlib.Omega.{arith}
use Rattle.layout.specs.Laws.Sizes.{allowed-range}
use Rattle.layout.proofs.ask_batch.Goals as goal

pub overflow_mul-cpi : goal.overflow_mul-cpi
overflow_mul-cpi c = omega (arith, allowed-range _ (sym c.is_allowed.ensures ∙ c.if-not-is_allowed.false))
