-- The batch row of a cycle's row and the way back undo each other, for every size and both relations.
-- Assumes nothing.
use Rattle.std.specs.Prelude.{◌≡◌, refl, true, ℕ, ◌+◌, ◌*◌, ◌/◌, ◌%◌, ◌≤◌, ◌<◌, Err}
use Rattle.std.proofs.Math.Path.{sym, ap}
use Rattle.std.proofs.Common.{ap₂, ◌∙◌, mul_comm, mul-le-mul, mod-lt, div-lt_iff_lt-mul, arith, lt-ltb}
use Rattle.std.proofs.Math.Nat.{div-add-mod'}
use Rattle.std.proofs.Math.Arith.{digits_lt, digits_div, digits_mod}
use Rattle.base.specs.Laws.Tests.{passed}
use Rattle.layout.specs.Batch.{allowed}
use Rattle.layout.specs.Questions.{no}
use Rattle.layout.specs.Laws.Sizes.{allowed-range}
use Rattle.circuit.specs.declared.Relation.{Relation}
use Rattle.circuit.specs.declared.Relation.TheVariants.{Bin, Fld}
use Rattle.circuit.specs.declared.batch.BatchWord.TheVariants.{Row}
use Rattle.std.specs.Prelude.{Ok}
use Rattle.circuit.specs.Found.{rows_a_cycle}
use Rattle.circuit.specs.Batched.{batch_row, row_in, unmapped_row, cycle_row}
use Rattle.circuit.specs.Laws.Search.{rows-at-most, rows-some}
use Rattle.layout.specs.declared.questions.Question.TheVariants.{BatchSize, ColumnRange}

-- a batch row by its digits: the cycle, and then the row
row-digits : (rel : Relation) (d r : ℕ) → batch_row rel d r ≡ d * rows_a_cycle rel + r
row-digits rel d r = ap (λ (n : ℕ). n + r) (mul_comm (rows_a_cycle rel) d)

module _ (cpi : ℕ) (ok : allowed cpi ≡ true) (rel : Relation) where
  -- what stands at a batch row that the batch has
  pub row_of : (b : ℕ) → b < rows_a_cycle rel * cpi → unmapped_row cpi rel b ≡ cycle_row (b / rows_a_cycle rel) (b % rows_a_cycle rel)
  unfolding unmapped_row
  row_of b h = sym (passed _ _ _ (lt-ltb b (rows_a_cycle rel * cpi) h) ∙ passed _ _ _ ok)

  -- a row of a cycle of the batch has its batch row in the batch
  pub batch-row-below : (d r : ℕ) → d < cpi → r < rows_a_cycle rel → batch_row rel d r < rows_a_cycle rel * cpi
  batch-row-below d r hd hr = rw (row-digits rel d r, mul_comm (rows_a_cycle rel) cpi) (digits_lt hd hr)

  -- a batch has at most 512 · 256 rows of a relation
  pub batch-rows-at-most : rows_a_cycle rel * cpi ≤ 131072
  batch-rows-at-most = omega (arith, mul-le-mul {m₂ = 256} (rows-at-most rel) (allowed-range cpi ok).1)

  -- there and back
  pub back-of-row : (d r : ℕ) → d < cpi → r < rows_a_cycle rel → unmapped_row cpi rel (batch_row rel d r) ≡ cycle_row d r
  back-of-row d r hd hr =
      row_of (batch_row rel d r) (batch-row-below d r hd hr)
      ∙ ap₂ cycle_row
      (ap (λ (b : ℕ). b / rows_a_cycle rel) (row-digits rel d r) ∙ digits_div d hr)
      (ap (λ (b : ℕ). b % rows_a_cycle rel) (row-digits rel d r) ∙ digits_mod d hr)

  -- back and there: the cycle and the row that are answered are the batch's, and their batch row is the one that was asked
  pub row-of-back : (b : ℕ) → b < rows_a_cycle rel * cpi → row_in cpi (b / rows_a_cycle rel) rel (b % rows_a_cycle rel) ≡ Ok (Row rel b)
  unfolding row_in
  row-of-back b h =
      let n = rows_a_cycle rel in let hd : b / n < cpi = (div-lt_iff_lt-mul (rows-some rel)).1 (rw (mul_comm cpi n) h) in
      sym (passed _ _ _ (lt-ltb (b / n) cpi hd) ∙ passed _ _ _ (lt-ltb (b % n) n (mod-lt b (rows-some rel))))
      ∙ ap (λ (k : ℕ). Ok (Row rel k)) (row-digits rel (b / n) (b % n) ∙ div-add-mod' b n)

-- in a batch of four cycles: bin row 263 of the last, fld row 1 of cycle 2, and the first batch row that each relation does not have
pub record Four : Type 0 where
  pub bin : unmapped_row 4 Bin 1799 ≡ cycle_row 3 263
  pub fld : unmapped_row 4 Fld 65 ≡ cycle_row 2 1
  pub bin-end : unmapped_row 4 Bin 2048 ≡ Err (no ColumnRange 0)
  pub fld-end : unmapped_row 4 Fld 128 ≡ Err (no ColumnRange 0)
  -- three cycles are no batch
  pub no_size : unmapped_row 3 Bin 0 ≡ Err (no BatchSize 0)

pub four : Four
unfolding allowed unmapped_row
four = record { bin = refl; fld = refl; bin-end = refl; fld-end = refl; no_size = refl }
