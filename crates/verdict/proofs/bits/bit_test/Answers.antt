-- `verdict::bits::bit_test` meets its contract: a batch that questions 1 and 2 pass has every column below one_col.
-- Assumes nothing.
use mathlib.Core.Path.{sym, ◌∙◌}
use native.Mathlib.Omega.{arith}
use Rattle.layout.specs.Laws.Questions.{batch-yes}
use Rattle.layout.specs.Laws.Sizes.{allowed-range}
use Rattle.verdict.proofs.bits.bit_test.Goals as goal

pub overflow_mul-columns : goal.overflow_mul-columns
overflow_mul-columns c = omega (arith, allowed-range _ (batch-yes _ _ (sym c.ask_batch.ensures ∙ c.in_ok-ask_batch.was)).0)

pub first_above-at-requires : goal.first_above-at-requires
first_above-at-requires c = omega (arith, (batch-yes _ _ (sym c.ask_batch.ensures ∙ c.in_ok-ask_batch.was)).1)
