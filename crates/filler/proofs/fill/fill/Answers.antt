-- `filler::fill::fill` meets its contract: where the questions are passed, there is what the filling needs.
-- Assumes nothing.
use Rattle.std.proofs.Common.{sym, ◌∙◌}
use Rattle.step.proofs.Laws.FillAnswers.{all-passed}
use Rattle.filler.proofs.fill.fill.Goals as goal

pub fill_cycles-requires : goal.fill_cycles-requires
fill_cycles-requires c = all-passed _ _ (sym c.ask.ensures ∙ c.in_ok-ask.was)
