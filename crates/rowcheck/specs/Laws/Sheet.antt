-- The lines that are printed for the bench sheet's verdicts, by computation.
-- Assumes nothing.
use Rattle.std.proofs.Common.{ap}
use Rattle.cellprism.specs.Laws.Sheet.{other_length, zero-bytes, one-column}
use Rattle.text.specs.Digits.{decimal_in}
use Rattle.page.specs.Line.{answer_line}
use Rattle.rowcheck.specs.Sheet.{Lines}

pub lines : Lines
unfolding decimal_in
lines = record { other = λ bytes h. ap answer_line (other_length bytes h); zeros = ap answer_line zero-bytes; one = ap answer_line one-column }
