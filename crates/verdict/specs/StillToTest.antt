-- What is left of the check at each of its loops. The verdict from there on, with the counts so far, is the whole verdict.
-- Assumes nothing.
use Rattle.std.specs.Prelude.{cond, List, ◌++◌, map, ℕ, ◌+◌, ◌-◌, eqb, get_or, drop}
use Rattle.base.specs.Lists.{from_each}
use Rattle.circuit.specs.Rows.{Row}
use Rattle.circuit.specs.Parse.{rows_of}
use Rattle.verdict.specs.RowParts.{row_of}
use Rattle.verdict.specs.Check.{Constraint, in_cycle, in_cycles}

-- the words of the bin rows for relation 0, else those of the fld rows
abbrev pub part_at : List ℕ → List ℕ → ℕ → List ℕ
part_at bin fld relation = cond (eqb relation 0) bin fld

-- the row whose mark stands at an index
abbrev pub row_at : List ℕ → ℕ → Row
row_at part at = row_of (get_or part at 0) (drop (at + 1) part)

-- ---- what is left

module _ (cpi : ℕ) (bin fld : List ℕ) where
  abbrev pub in_part : ℕ → List Constraint
  in_part r = in_cycles 0 cpi (rows_of (part_at bin fld r))

  -- left at the relation loop, at the cycle loop, and at the row loop
  unfoldable pub all_parts : ℕ → List Constraint
  all_parts r = from_each r (2 - r) in_part

  unfoldable pub left_cycles : ℕ → ℕ → List Constraint
  left_cycles r d = in_cycles d (cpi - d) (rows_of (part_at bin fld r)) ++ all_parts (r + 1)

  unfoldable pub left_rows : List ℕ → ℕ → ℕ → ℕ → List Constraint
  left_rows part r d at = map (in_cycle d) (rows_of (drop at part)) ++ left_cycles r (d + 1)
