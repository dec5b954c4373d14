-- `merge::merge` meets its contract: where the questions are passed, the parts are what the merged batch is made of.
-- Assumes nothing.
use mathlib.Core.Path.{sym, ◌∙◌}
use Rattle.merge.specs.Laws.Answers.{all-passed, parts}
use Rattle.merge.proofs.merge.Goals as goal

pub write_batch-requires : goal.write_batch-requires
write_batch-requires c =
    let a = c.args in
    let s = (all-passed _ a.first.now _ a.second.now _ (sym c.ask.ensures ∙ c.in_ok-ask.was)).sizes-passed in
    (parts _ a.first.now _ a.second.now _ s, s.room-words)
