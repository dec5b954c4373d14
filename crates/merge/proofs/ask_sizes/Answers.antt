-- `merge::ask_sizes` meets its contract: an allowed size is small.
-- Assumes nothing.
use Rattle.std.proofs.Common.{arith}
use Rattle.base.specs.Laws.WaysOut.{told}
use Rattle.layout.specs.Laws.Sizes.{allowed-range}
use Rattle.merge.proofs.ask_sizes.Goals as goal

pub overflow_mul-first_cpi : goal.overflow_mul-first_cpi
overflow_mul-first_cpi c = omega (arith, allowed-range _ (told _ _ _ c.is_allowed.ensures c.if-not-is_allowed.false))
