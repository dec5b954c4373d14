-- A batch: its sizes and their exponents, questions 1, 2 and 5, its geometry, and where the columns of its cycles stand (document 01,
-- "Columns").
-- Assumes nothing.
use Rattle.std.specs.Prelude.{Bool, false, cond, ◌&&◌, ◌||◌, List, [], ◌∷◌, ℕ, ◌+◌, ◌-◌, ◌*◌, ◌/◌, ◌%◌, ◌^◌, eqb, leb, ltb, Err, Ok}
use Rattle.base.specs.Tests.{first_from}
use Rattle.layout.specs.Columns.{W-COLS, ONE-COL}
use Rattle.layout.specs.Questions.{no, Answer, Asked}
use Rattle.layout.specs.declared.questions.Question.TheVariants.{BatchLength, BatchSize, ColumnRange, CycleRange}
use Rattle.layout.specs.declared.InstanceGeometry.{InstanceGeometry}
use Rattle.layout.specs.declared.CycleColumn.{CycleColumn}

-- the powers of two from 1 to 256
abbrev pub sizes : List ℕ
sizes = 1 ∷ 2 ∷ 4 ∷ 8 ∷ 16 ∷ 32 ∷ 64 ∷ 128 ∷ 256 ∷ []

abbrev pub among : ℕ → List ℕ → Bool
among n [] = false
among n (x ∷ xs) = eqb n x || among n xs

-- question 1
unfoldable pub allowed : ℕ → Bool
allowed cpi = among cpi sizes

-- the exponent of a size: the first k below 9 with 2 ^ k equal to cpi. A number that is no size has none of these, and gets 9
unfoldable pub exponent_of : ℕ → ℕ
exponent_of cpi = first_from (λ k. eqb (2 ^ k) cpi) 0 9

-- the words of a row, which is a batch of one cycle: 4,096 elements, of two words each; and those of a batch
abbrev pub ROW-WORDS : ℕ
ROW-WORDS = 8192

abbrev pub batch_words : ℕ → ℕ
batch_words cpi = ROW-WORDS * cpi

-- questions 1 and 2, of the number of a batch's words
unfoldable pub batch_asked : ℕ → ℕ → Asked
batch_asked cpi words = cond (allowed cpi) (cond (eqb words (batch_words cpi)) (Ok tt) (Err (no BatchLength 0))) (Err (no BatchSize 0))

-- question 5, of the number of words of the check's scratch: a multiple of 6, from 6 to 3,072
abbrev pub SCRATCH-STEP : ℕ
SCRATCH-STEP = 6

abbrev pub SCRATCH-MOST : ℕ
SCRATCH-MOST = 3072

unfoldable pub scratch_fits : ℕ → Bool
scratch_fits words = eqb (words % SCRATCH-STEP) 0 && (leb SCRATCH-STEP words && leb words SCRATCH-MOST)

-- cycles of a batch where nobody chooses: the constant of src/lib.rt, which `default_cpi` ties to it
abbrev pub DEFAULT-CPI : ℕ
DEFAULT-CPI = 1

unfoldable pub geometry_of : ℕ → Answer InstanceGeometry
geometry_of cpi =
    cond (allowed cpi)
    (Ok (record { cpi = cpi; w_cols = 2048 * cpi; m = 4096 * cpi; one_col = 2048 * cpi; w128 = 2048 * cpi / 128 }))
    (Err (no BatchSize 0))

-- witness column c of cycle d stands at c * cpi + d; a public column after all of these, whatever d
unfoldable pub column_at : ℕ → ℕ → ℕ → ℕ
column_at cpi c d = cond (ltb c W-COLS) (c * cpi + d) (W-COLS * cpi + (c - ONE-COL))

-- the batch column of a column below the limit: questions 1, 14, 15
unfoldable pub mapped : ℕ → ℕ → ℕ → ℕ → Answer ℕ
mapped limit cpi c d =
    cond (allowed cpi)
    (cond (ltb c limit)
    (cond (ltb d cpi) (Ok (column_at cpi c d))
    (Err (no CycleRange 0)))
    (Err (no ColumnRange 0)))
    (Err (no BatchSize 0))

abbrev pub cycle_column : ℕ → ℕ → Answer CycleColumn
cycle_column column cycle = Ok (record { column = column; cycle = cycle })

-- the column and the cycle of a batch column below one_col: questions 1, 14
unfoldable pub unmapped : ℕ → ℕ → Answer CycleColumn
unmapped cpi b =
    cond (allowed cpi)
    (cond (ltb b (W-COLS * cpi)) (cycle_column (b / cpi) (b % cpi))
    (Err (no ColumnRange 0)))
    (Err (no BatchSize 0))
