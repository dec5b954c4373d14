-- `benchpage::show::put_line` meets its contract: there is room for both, and they stand one behind the other.
-- Assumes nothing.
use native.Mathlib.Omega.{arith}
use Rattle.text.specs.Laws.Put.{put-fits, placed-then}
use Rattle.benchpage.proofs.show.put_line.Goals as goal

pub returns : goal.returns
returns c =
    let line = put-fits _ _ _ _ _ (omega arith) c.put-end.ensures in let end = line.answer-is in
    placed-then (omega arith) line (put-fits _ _ _ _ _ (omega arith) c.put.ensures)
