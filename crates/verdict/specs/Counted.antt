-- Bin and fld counted apart (document 02, request 7), of a verdict on a batch. Laws/Counted proves it of every verdict that the check gives,
-- whatever the size, the listing and the batch.
-- Assumes nothing.
use Rattle.std.specs.Prelude.{◌≡◌, Bool, cond, List, [], ◌∷◌, ℕ, suc, ◌*◌, length}
use Rattle.circuit.specs.declared.Relation.{Relation}
use Rattle.circuit.specs.declared.Relation.TheVariants.{Bin, Fld}
use Rattle.circuit.specs.Rows.{of_relation}
use Rattle.circuit.specs.Parse.{rows_of}
use Rattle.verdict.specs.declared.Counts.{Counts}
use Rattle.verdict.specs.declared.Verdict.{Verdict}
use Rattle.verdict.specs.declared.Verdict.TheVariants.{Accepted, Failed}
use Rattle.verdict.specs.Row.{cycle_of}
use Rattle.verdict.specs.Counts.{rows, counts_of}
use Rattle.verdict.specs.Check.{Constraint, in_cycles, constraints, met}

-- how many of some constraints are tested: up to and with the first that does not hold. Of all that there are, this is document 01's `rows`:
-- cycle-and-mark pairs tested, the failing one included
module _ (test : Constraint → Bool) where
  unfoldable pub tested : List Constraint → ℕ
  tested [] = 0
  tested (k ∷ ks) = cond (test k) (suc (tested ks)) 1

-- how many rows a listing has of a relation, and their constraints in a batch
abbrev pub rows_in : List ℕ → Relation → ℕ
rows_in listing rel = length (of_relation rel (rows_of listing))

abbrev pub in_relation : ℕ → List ℕ → Relation → List Constraint
in_relation cpi listing rel = in_cycles 0 cpi (of_relation rel (rows_of listing))

-- how many of them are tested in a batch
abbrev pub tested_in : ℕ → List ℕ → List Constraint → ℕ
tested_in cpi batch ks = tested (met (cycle_of cpi batch)) ks

pub record CountedApart (cpi : ℕ) (listing batch : List ℕ) (v : Verdict) : Type 0 where
  -- the sum is what `rows` was
  pub sum : rows (counts_of v) ≡ tested_in cpi batch (constraints cpi (rows_of listing))
  -- bin counts what is tested in bin
  pub bin : (counts_of v).bin ≡ tested_in cpi batch (in_relation cpi listing Bin)
  -- fld is 0 until bin has passed
  pub in-bin : (row : ℕ) (n : Counts) → v ≡ Failed Bin row n → n.fld ≡ 0
  -- then bin has counted every row in every cycle, and fld counts what is tested in fld
  pub in-fld : (row : ℕ) (n : Counts) → v ≡ Failed Fld row n
      → (n.bin ≡ cpi * rows_in listing Bin) × (n.fld ≡ tested_in cpi batch (in_relation cpi listing Fld))
  -- accepted: every row in every cycle, in both; together they are all rows of the listing
  pub accepted : (n : Counts) → v ≡ Accepted n → (n.bin ≡ cpi * rows_in listing Bin) × (n.fld ≡ cpi * rows_in listing Fld)
  pub accepted-sum : (n : Counts) → v ≡ Accepted n → rows n ≡ cpi * length (rows_of listing)
