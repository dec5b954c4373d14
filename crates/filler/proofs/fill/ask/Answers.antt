-- `filler::fill::ask` meets its contract: where the batch passes its questions, the size is allowed and its words are there.
-- Assumes nothing.
use Rattle.std.proofs.Common.{sym, ◌∙◌}
use Rattle.layout.specs.Laws.Questions.{batch-yes}
use Rattle.filler.proofs.fill.ask.Goals as goal

pub ask_columns-requires : goal.ask_columns-requires
ask_columns-requires c = batch-yes _ _ (sym c.ask_batch.ensures ∙ c.in_ok-ask_batch.was)
