-- `verdict::apply` meets its contract: what questions 1 and 2 show of the batch is what the rest asks of it.
-- Assumes nothing.
use mathlib.Core.Path.{sym, ◌∙◌}
use Rattle.layout.specs.Laws.Questions.{batch-yes}
use Rattle.layout.specs.Laws.Sizes.{allowed-range}
use Rattle.verdict.proofs.apply.Goals as goal

pub apply_listed-requires : goal.apply_listed-requires
apply_listed-requires c =
    let yes = batch-yes _ _ (sym c.ask_batch.ensures ∙ c.in_ok-ask_batch.was) in ((allowed-range _ yes.0).1, yes.1)
