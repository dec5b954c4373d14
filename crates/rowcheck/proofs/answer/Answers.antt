-- `rowcheck::answer` meets its contract: there is room for the line.
-- Assumes nothing.
use Rattle.std.proofs.Common.{ap, arith}
use Rattle.text.specs.Laws.Put.{put-fits, placed-as}
use Rattle.page.specs.Line.{answer_line}
use Rattle.page.proofs.Laws.Line.{line-short}
use Rattle.rowcheck.proofs.answer.Goals as goal

pub returns : goal.returns
returns c =
    placed-as _ _ _ _ _ _ (ap answer_line c.check_bytes.ensures)
    (put-fits _ _ _ _ _ (omega (arith, line-short c.check_bytes.result)) c.put_answer.ensures)
