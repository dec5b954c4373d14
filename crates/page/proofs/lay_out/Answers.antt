-- `page::lay_out` meets its contract: what questions 1 and 2 show of the batch is what the rest asks of it.
-- Assumes nothing.
use mathlib.Core.Path.{sym, ◌∙◌}
use Rattle.layout.specs.Laws.Questions.{batch-yes}
use Rattle.page.proofs.lay_out.Goals as goal

pub lay_row-requires : goal.lay_row-requires
lay_row-requires c = batch-yes _ _ (sym c.ask_batch.ensures ∙ c.in_ok-ask_batch.was)
