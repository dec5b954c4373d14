-- What the functions inside the check give: records that name each fact.
-- Assumes nothing.
use Rattle.std.specs.Prelude.{◌≡◌, true, List, ℕ, ◌+◌, ◌≤◌, ◌<◌, length, drop}
use Rattle.field.specs.declared.Gf128.{Gf128}
use Rattle.layout.specs.Batch.{batch_words}
use Rattle.circuit.specs.declared.Side.{Side}
use Rattle.circuit.specs.Parse.{parse, rows_of}
use Rattle.verdict.specs.declared.rows.SideSum.{SideSum}
use Rattle.verdict.specs.declared.rows.RowSums.{RowSums}
use Rattle.verdict.specs.declared.rows.Tested.{Tested}
use Rattle.verdict.specs.Row.{sum_of, sums_of, holds}
use Rattle.verdict.specs.RowParts.{run_length, run_terms, sorted}

-- a cycle of a batch whose size is allowed
pub record Cycle (cpi d : ℕ) (batch : List ℕ) : Type 0 where
  pub few : cpi ≤ 256
  pub inside : d < cpi
  pub words : length batch ≡ batch_words cpi

-- a side that starts at `from`
pub record SideSummed (z : ℕ → Gf128) (ws : List ℕ) (from : ℕ) (side : Side) (r : SideSum) : Type 0 where
  pub end_is : r.end ≡ from + run_length side (drop from ws)
  pub sum_is : r.sum ≡ sum_of z (run_terms side (drop from ws))
  pub fits : r.end ≤ length ws

-- the row whose terms start at `from`, and the words behind it
pub record RowEnds (ws : List ℕ) (from end : ℕ) : Type 0 where
  pub rows_left : rows_of (drop end ws) ≡ (parse (drop from ws)).rows
  pub in_rows : sorted 3 (drop end ws) ≡ true
  pub onward : from ≤ end
  pub fits : end ≤ length ws

pub record RowSummed (z : ℕ → Gf128) (ws : List ℕ) (from : ℕ) (r : RowSums) : Type 0 where
  pub sums-are : r.sums ≡ sums_of z (parse (drop from ws)).before
  pub ends : RowEnds ws from r.end

pub record RowTested (z : ℕ → Gf128) (ws : List ℕ) (from : ℕ) (r : Tested) : Type 0 where
  pub holds-is : r.holds ≡ holds z (parse (drop from ws)).before
  pub ends : RowEnds ws from r.end
