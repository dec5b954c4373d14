-- `verdict::rows::side_sum` meets its contract: what the terms so far add up to, and the sum of the rest of the run, is the sum of the run.
-- Assumes nothing.
use mathlib.Core.Path.{◌≡◌}
use Prim.Native.Nat.{◌+◌}
use lib.ListN.{drop}
use Rattle.field.specs.Gf.{added}
use Rattle.verdict.specs.Row.{cycle_of, sum_of}
use Rattle.verdict.specs.RowParts.{run_length, run_terms}
use Rattle.verdict.proofs.rows.side_sum.Given as goal

abbrev pub invariant-loop-i : goal.invariant-loop-i
invariant-loop-i l = (l.i + run_length l.side (drop l.i l.listing) ≡ l.from + run_length l.side (drop l.from l.listing))
    × (added l.sum (sum_of (cycle_of l.cycle.cpi l.cycle.batch.now l.cycle.number) (run_terms l.side (drop l.i l.listing)))
    ≡ sum_of (cycle_of l.cycle.cpi l.cycle.batch.now l.cycle.number) (run_terms l.side (drop l.from l.listing)))
