-- `merge::ask` meets its contract: where the questions on the sizes are passed, both batches have the columns that are compared.
-- Assumes nothing.
use Rattle.std.proofs.Common.{sym, ◌∙◌, arith}
use Rattle.merge.specs.Laws.Answers.{sized}
use Rattle.merge.proofs.ask.Goals as goal

pub overflow_mul-end : goal.overflow_mul-end
overflow_mul-end c = omega (arith, (sized _ _ _ _ _ (sym c.ask_sizes.ensures ∙ c.in_ok-ask_sizes.was)).few)

pub overflow_mul-first_cpi : goal.overflow_mul-first_cpi
overflow_mul-first_cpi c = omega (arith, (sized _ _ _ _ _ (sym c.ask_sizes.ensures ∙ c.in_ok-ask_sizes.was)).few)

pub first_differing-place-requires : goal.first_differing-place-requires
first_differing-place-requires c =
    let s = sized _ _ _ _ _ (sym c.ask_sizes.ensures ∙ c.in_ok-ask_sizes.was) in (omega arith, (omega arith, omega arith))
