-- `page::lines::put_in` meets its contract: there is room for the width, which the text takes.
-- Assumes nothing.
use Rattle.text.specs.Laws.Left.{left_in}
use Rattle.text.specs.Laws.Put.{put-here}
use Rattle.page.proofs.lines.put_in.Goals as goal

pub returns : goal.returns
returns c =
    put-here _ c.args.width _ _ _ _ (left_in c.args.width c.args.part.now c.requires.1) c.requires.0 c.put_left.ensures
