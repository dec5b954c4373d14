-- The bench sheet of document 01: P1 to P12 as one table, `BenchSheet`. Each line speaks of an operation as it is called, questions and
-- scratch included, by the definition that its contract cites. The table's one theorem is `bench-sheet` of Laws/BenchSheet.
-- Assumes nothing.
use Rattle.std.specs.Prelude.{◌≡◌, true, cond, List, [], ◌∷◌, ◌++◌, ℕ, ◌+◌, ◌-◌, ◌^◌, length, take, get_or, replicate, Err, Ok}
use Rattle.base.specs.Lists.{from}
use Rattle.field.specs.Gf.{product, element, of_words, zero, one}
use Rattle.layout.specs.Columns.{RS1, RD, T1, ALU, SUB, IS-LOAD, IS-STORE, IS-ARITH, RAM-ADDR, FETCH-OP}
use Rattle.layout.specs.Batch.{geometry_of, mapped, scratch_fits}
use Rattle.layout.specs.Questions.{no}
use Rattle.circuit.specs.declared.Relation.TheVariants.{Bin, Fld}
use Rattle.circuit.specs.Circuit.{circuit_words}
use Rattle.strict.specs.declared.Known.TheVariants.{House}
use Rattle.verdict.specs.declared.Verdict.{Verdict}
use Rattle.verdict.specs.declared.Verdict.TheVariants.{Accepted, Failed}
use Rattle.verdict.specs.Row.{element_at}
use Rattle.verdict.specs.Counts.{counts, rows, counts_of}
use Rattle.verdict.specs.Check.{checked}
use Rattle.verdict.specs.Sheet.{zero_row, one_row}
use Rattle.step.specs.Derived.{derived}
use Rattle.step.specs.Fill.{called}
use Rattle.step.specs.Sheet.{has, with_ones, with_output, number}
use Rattle.judge.specs.FillCheck.{fill_checked}
use Rattle.witness.specs.declared.branch.BranchReading.TheVariants.{Taken, NotTaken}
use Rattle.witness.specs.Reading.{reading}
use Rattle.layout.specs.declared.questions.Question.TheVariants.{BatchSize}

-- ---- the words of the table

-- `zero_row` is P4's, all zero, and `one_row` P5's, in which only the one column is 1. Into P5's row `with_ones` puts 1 in the columns listed,
-- `number c w n` lists those where n of w bits stands at column c, low bit first, and `with_output` puts a number into the first public
-- element after the one column.

-- the check, on a row over the house listing, with whatever stands in scratch that fits: a verdict, and zeros in the scratch. The sheet's
-- `rows` are both counts of the verdict together
pub record Checks (row : List ℕ) (sum : ℕ) (v : Verdict) : Type 0 where
  pub rows_are : rows (counts_of v) ≡ sum
  pub check : (scratch : List ℕ) → scratch_fits (length scratch) ≡ true
      → checked 1 circuit_words row scratch ≡ record { answer = Ok v; scratch = replicate (length scratch) 0 }

-- the filler says yes to a row, and the check gives a verdict on the row that it leaves; filling and checking in one call gives that
-- verdict and leaves that row
pub record Filled (row : List ℕ) (sum : ℕ) (v : Verdict) : Type 0 where
  pub fill : (called 1 row).answer ≡ Ok tt
  pub check : Checks (called 1 row).batch sum v
  pub fill-check : fill_checked House 1 row ≡ record { answer = Ok v; batch = (called 1 row).batch }

-- columns from the first to the last
abbrev pub columns : ℕ → ℕ → List ℕ
columns first last = from first (last + 1 - first) (λ c. c)

abbrev pub p6_ones : List ℕ
p6_ones = 896 ∷ 904 ∷ 908 ∷ 913 ∷ 921 ∷ 925 ∷ 952 ∷ (columns 1024 1087 ++ (1102 ∷ 1106 ∷ 1110 ∷ 1122 ∷ []))

-- ---- the table

pub record BenchSheet : Type 0 where
  -- P1  2^127 · 2 = 0x87
  pub p1 : product (element (2 ^ 127)) (element 2) ≡ element 0x87
  -- P2  2^64 · 2^64 = 0x87
  pub p2 : product (element (2 ^ 64)) (element (2 ^ 64)) ≡ element 0x87
  -- P3  2^127 · 2^127: low word 0x1067, high word 0xC000000000000000
  pub p3 : product (element (2 ^ 127)) (element (2 ^ 127)) ≡ of_words 0x1067 0xC000000000000000
  -- P4  all-zero row: accepted, rows 514; that is 483 of bin and 31 of fld
  pub p4 : Checks zero_row 514 (Accepted (counts 483 31))
  -- P5  only the one column 1: bin row 263, rows 264
  pub p5 : Checks one_row 264 (Failed Bin 263 (counts 264 0))
  -- P6  P5's row filled: accepted; the columns listed are derived, and a derived column is 1 where it is listed, else 0
  pub p6 : Filled one_row 514 (Accepted (counts 483 31))
  pub p6-listed : (c : ℕ) → has p6_ones c ≡ true → derived c ≡ true
  pub p6-derived : (c : ℕ) → derived c ≡ true → element_at (called 1 one_row).batch c ≡ cond (has p6_ones c) one zero
  -- P7  P5's row with RAM_ADDR 255, filled: with store, bin 255, rows 256; with load and store, accepted
  pub p7-store : Filled (with_ones (IS-STORE ∷ number RAM-ADDR 8 255) one_row) 256 (Failed Bin 255 (counts 256 0))
  pub p7-load-store : Filled (with_ones (IS-LOAD ∷ IS-STORE ∷ number RAM-ADDR 8 255) one_row) 514 (Accepted (counts 483 31))
  -- P8  T1 = 2^64 - 1, SUB and arithmetic, else P5's, filled: ALU 0 accepted; ALU 1 gives fld 1, rows 485
  pub p8-alu-0 : Filled (with_ones (number ALU 64 0 ++ (SUB ∷ IS-ARITH ∷ number T1 64 (2 ^ 64 - 1))) one_row) 514
      (Accepted (counts 483 31))
  pub p8-alu-1 : Filled (with_ones (number ALU 64 1 ++ (SUB ∷ IS-ARITH ∷ number T1 64 (2 ^ 64 - 1))) one_row) 485
      (Failed Fld 1 (counts 483 2))
  -- P9  opcode 0x73, RD = RS1 = 5, else P5's, filled: output 5 accepted; 6 gives fld 3, rows 487
  pub p9-output-5 : Filled (with_output 5 (with_ones (number FETCH-OP 7 0x73 ++ (number RD 64 5 ++ number RS1 64 5)) one_row)) 514
      (Accepted (counts 483 31))
  pub p9-output-6 : Filled (with_output 6 (with_ones (number FETCH-OP 7 0x73 ++ (number RD 64 5 ++ number RS1 64 5)) one_row)) 487
      (Failed Fld 3 (counts 483 4))
  -- P10 2^63 against 1: BLT (funct3 4) taken, BLTU (6) not; BGE (5) 7, 7 taken
  pub p10-blt : reading 0x63 4 (2 ^ 63) 1 ≡ Taken
  pub p10-bltu : reading 0x63 6 (2 ^ 63) 1 ≡ NotTaken
  pub p10-bge : reading 0x63 5 7 7 ≡ Taken
  -- P11 the first words, and the last
  pub p11-first : take 7 circuit_words ≡ 0xc0000000 ∷ 0x00000140 ∷ 0x000001c0 ∷ 0x40000180 ∷ 0x400001c0 ∷ 0x800001c1 ∷ 0x800001c0 ∷ []
  pub p11-last : get_or circuit_words (length circuit_words - 1) 0 ≡ 0x4000708f
  -- P12 cpi 4: one_col 8,192, m 16,384, w128 64; column 5 of cycle 2 is 22. cpi 0, 3, 512 give 1
  pub p12-geometry : geometry_of 4 ≡ Ok (record { cpi = 4; w_cols = 8192; m = 16384; one_col = 8192; w128 = 64 })
  pub p12-column : mapped 2048 4 5 2 ≡ Ok 22
  pub p12-cpi-0 : geometry_of 0 ≡ Err (no BatchSize 0)
  pub p12-cpi-3 : geometry_of 3 ≡ Err (no BatchSize 0)
  pub p12-cpi-512 : geometry_of 512 ≡ Err (no BatchSize 0)
