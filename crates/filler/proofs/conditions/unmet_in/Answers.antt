-- `filler::conditions::unmet_in` meets its contract: what is read are the words, the flags and the public element of this cycle.
-- Assumes nothing.
use Rattle.std.proofs.Common.{ap, ◌∙◌, ap₂}
use Rattle.layout.specs.Batch.{column_at}
use Rattle.verdict.specs.Row.{cycle_of, bits_of}
use Rattle.filler.specs.declared.conditions.StepWords.{StepWords}
use Rattle.filler.specs.declared.conditions.StepFlags.{StepFlags}
use Rattle.filler.specs.Met.{words_of, flags_of, conditions, first_false, first_unmet}
use Rattle.filler.specs.Laws.MetRead.{words_are, flags-are}
use Rattle.filler.proofs.conditions.unmet_in.Goals as goal

pub returns : goal.returns
unfolding first_unmet cycle_of column_at
returns c =
    let a = c.args in let batch = a.batch.now in let b = bits_of a.cpi batch a.cycle in
    let words = words_are a.cpi a.cycle batch c.read_given-g.ensures c.read_word-rd.ensures
    c.read_word.ensures c.step_words-w.ensures in
    let flags = flags-are a.cpi a.cycle batch c.read_given-g.ensures c.flags_in-f.ensures in
    c.first_false.ensures
    ∙ ap first_false (c.conditions.ensures ∙ ap₂ (λ (w : StepWords) (f : StepFlags). conditions w f c.element.result) words flags
    ∙ ap (conditions (words_of b) (flags_of b)) c.element.ensures)
