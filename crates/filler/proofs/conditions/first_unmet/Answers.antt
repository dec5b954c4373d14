-- `filler::conditions::first_unmet` meets its contract: where the questions are passed, the cycle lies within the batch.
-- Assumes nothing.
use Rattle.std.proofs.Common.{sym, ◌∙◌}
use Rattle.layout.specs.Laws.Sizes.{allowed-range}
use Rattle.step.proofs.Laws.FillAnswers.{all-passed}
use Rattle.filler.proofs.conditions.first_unmet.Goals as goal

pub unmet_in-requires : goal.unmet_in-requires
unmet_in-requires c =
    let p = all-passed _ _ (sym c.ask.ensures ∙ c.in_ok-ask.was) in
    record { few = (allowed-range _ p.size).1; inside = c.if-cpi-cycle.false; words = p.words }
