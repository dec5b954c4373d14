-- `benchpage::show::put_laid` meets its contract: the bytes are as many as the pages take, so the row is laid out.
-- Assumes nothing.
use mathlib.Core.Path.{ap}
use Rattle.text.specs.Laws.Put.{placed-as}
use Rattle.benchpage.specs.Printed.{with_line_ends}
use Rattle.benchpage.specs.Laws.Laid.{pages-laid}
use Rattle.benchpage.proofs.show.put_laid.Goals as goal

pub returns : goal.returns
returns c =
    let a = c.args in
    let is = pages-laid a.words.now a.relation a.row a.listing.now a.pages.now c.requires.1.0 c.requires.1.1.0
    c.requires.1.1.1 _ c.lay_out.ensures in
    placed-as _ _ _ _ _ _ (ap with_line_ends is) c.put_lined.ensures
