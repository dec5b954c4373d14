-- `page::line::place` meets its contract: a text that fits is placed.
-- Assumes nothing.
use borrow.Author.Rules.{rules}
use Rattle.text.specs.Laws.Put.{put-fits}
use Rattle.page.proofs.line.place.Goals as goal

pub returns : goal.returns
returns c = search (put-fits, rules)
