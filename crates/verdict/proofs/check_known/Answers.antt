-- `verdict::check_known` meets its contract: what questions 1 and 2 show of the batch is what the loops ask of it.
-- Assumes nothing.
use mathlib.Core.Path.{sym, ◌∙◌}
use Rattle.layout.specs.Laws.Questions.{batch-yes}
use Rattle.verdict.proofs.check_known.Goals as goal

pub walk_known-requires : goal.walk_known-requires
walk_known-requires c = batch-yes _ _ (sym c.ask_batch.ensures ∙ c.in_ok-ask_batch.was)
