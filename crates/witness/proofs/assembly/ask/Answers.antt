-- `witness::assembly::ask` meets its contract: where questions 1 to 3 are passed, the size is allowed.
-- Assumes nothing.
use Rattle.std.proofs.Common.{sym, ◌∙◌, arith}
use Rattle.layout.specs.Laws.Sizes.{allowed-range}
use Rattle.witness.specs.Laws.Upper.{public-yes}
use Rattle.witness.proofs.assembly.ask.Goals as goal

pub overflow_mul-cpi : goal.overflow_mul-cpi
overflow_mul-cpi c = omega (arith, allowed-range _ (public-yes _ _ _ (sym c.ask_public.ensures ∙ c.in_ok-ask_public.was)).0)
