-- `page::line::place_verdict` meets its contract: each arm places the texts of its case, one behind the other.
-- Assumes nothing.
use native.Mathlib.Omega.{arith}
use Rattle.text.specs.Laws.Put.{placed-then}
use Rattle.page.proofs.line.place_verdict.Goals as goal

pub returns-in-Accepted : goal.returns-in-Accepted
returns-in-Accepted c = rw c.in-Accepted.is (placed-then (omega arith) c.place-at.ensures c.place_counts.ensures)

pub returns-in-Failed : goal.returns-in-Failed
returns-in-Failed c =
    rw c.in-Failed.is
    (placed-then (omega arith)
    (placed-then (omega arith) (placed-then (omega arith) c.place_failed-number.ensures.0 c.place_decimal-end.ensures.0)
    c.place-at-in-Failed.ensures)
    c.place_counts-in-Failed.ensures)
