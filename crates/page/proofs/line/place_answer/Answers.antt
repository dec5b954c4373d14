-- `page::line::place_answer` meets its contract: each arm places the texts of its case, one behind the other.
-- Assumes nothing.
use Rattle.std.proofs.Common.{sym}
use native.Mathlib.Omega.{arith}
use Rattle.text.specs.Laws.Put.{placed-then}
use Rattle.page.proofs.line.place_answer.Goals as goal

pub returns-in-Err : goal.returns-in-Err
returns-in-Err c =
    rw (c.in-Err.is, sym c.number.ensures)
    (placed-then (omega arith) (placed-then (omega arith) c.place-number.ensures c.place_decimal-end.ensures.0) c.place.ensures)
