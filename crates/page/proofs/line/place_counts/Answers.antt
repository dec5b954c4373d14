-- `page::line::place_counts` meets its contract: five texts, one behind the other, each number behind its name.
-- Assumes nothing.
use native.Mathlib.Omega.{arith}
use Rattle.text.specs.Laws.Put.{placed-then}
use Rattle.page.proofs.line.place_counts.Goals as goal

pub returns : goal.returns
returns c =
    placed-then (omega arith)
    (placed-then (omega arith)
    (placed-then (omega arith) (placed-then (omega arith) c.place-bin.ensures c.place_decimal-between.ensures.0) c.place-fld.ensures)
    c.place_decimal-end.ensures.0)
    c.place.ensures
