-- `witness::upper::ask_public` meets its contract: where the batch passes its questions, the size is allowed.
-- Assumes nothing.
use Rattle.std.proofs.Common.{sym, ◌∙◌, arith}
use Rattle.layout.specs.Laws.Questions.{batch-yes}
use Rattle.layout.specs.Laws.Sizes.{allowed-range}
use Rattle.witness.proofs.upper.ask_public.Goals as goal

pub overflow_mul-cpi : goal.overflow_mul-cpi
overflow_mul-cpi c = omega (arith, allowed-range _ (batch-yes _ _ (sym c.ask_batch.ensures ∙ c.in_ok-ask_batch.was)).0)

pub overflow_sub-cpi : goal.overflow_sub-cpi
overflow_sub-cpi c = omega (arith, allowed-range _ (batch-yes _ _ (sym c.ask_batch.ensures ∙ c.in_ok-ask_batch.was)).0)
