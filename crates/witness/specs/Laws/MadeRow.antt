-- What is true of every made row: its elements, that it is bits below the one column, and that filling it changes nothing where the
-- record's halt and taken are what the filler would write.
-- Assumes nothing.
use Rattle.std.specs.Prelude.{◌≡◌, ℕ, ◌+◌, ◌*◌, ◌/◌, ◌%◌, ◌<◌, ◌≤◌, true, false, not, List, length, nat_eq, None, Ok}
use Rattle.std.proofs.Math.Path.{refl, sym, ap, ap₂}
use Rattle.std.proofs.Common.{◌∙◌}
use native.Mathlib.Omega.{arith}
use borrow.Author.Tests.{eq-eqb, ne_eqb}
use Rattle.base.specs.Bits.{digit}
use Rattle.base.specs.Laws.Tests.{passed, refused}
use Rattle.base.specs.Laws.From.{length_from}
use Rattle.field.specs.declared.Gf128.{Gf128}
use Rattle.field.specs.Gf.{of_words, is_bit, of_bit}
use Rattle.field.specs.Gf.Tests.{is_bit-bit}
use Rattle.field.specs.Gf.Bits.{bit-words}
use Rattle.layout.specs.Batch.{allowed, ROW-WORDS}
use Rattle.verdict.specs.Row.{element_at}
use Rattle.verdict.specs.Bits.{above_one, bit_tested}
use Rattle.verdict.specs.Laws.BitTest.{all-bits-said}
use Rattle.witness.specs.declared.records.CycleRecord.{CycleRecord}
use Rattle.witness.specs.declared.records.RomRow.{RomRow}
use Rattle.witness.specs.Row.{row_bit, bit_word, row_word, made_row}
use Rattle.witness.specs.Laws.Halves.{lower-at, one_at, value-at, rest_at}
use Rattle.field.specs.Gf as gf

module _ (r : CycleRecord) (m : RomRow) (public : List ℕ) where
  abbrev pub row : List ℕ
  row = made_row r m public

  pub row-length : length row ≡ ROW-WORDS
  unfolding made_row
  row-length = length_from (row_word (row_bit r m) public) ROW-WORDS 0

  -- ---- its elements

  -- below the one column, the table's bit
  pub bit-at : (c : ℕ) → c < 2048 → element_at row c ≡ of_bit (row_bit r m c)
  unfolding made_row bit_word
  bit-at c l =
      let here = lower-at ROW-WORDS 2048 refl (bit_word (row_bit r m)) public in
      let even : nat_eq (2 * c % 2) 0 ≡ true = eq-eqb (2 * c % 2) 0 (omega arith) in
      let odd : nat_eq ((2 * c + 1) % 2) 0 ≡ false = ne_eqb ((2 * c + 1) % 2) 0 (λ e. omega arith) in
      let column : 2 * c / 2 ≡ c = omega arith in
      ap₂ of_words
      (here (2 * c) (omega arith) ∙ sym (passed _ _ _ even) ∙ ap (λ (x : ℕ). digit (row_bit r m x)) column)
      (here (2 * c + 1) (omega arith) ∙ sym (refused _ _ _ odd))
      ∙ bit-words (row_bit r m c)

  pub one-is : element_at row 2048 ≡ gf.one
  unfolding made_row
  one-is = one_at ROW-WORDS 2048 refl (bit_word (row_bit r m)) public (omega arith)

  -- public value j stands at one_col + 1 + j, and behind them all is 0
  pub values : (j : ℕ) → 2049 + j < 4096 → element_at row (2049 + j) ≡ element_at public j
  unfolding made_row
  values j l = value-at ROW-WORDS 2048 refl (bit_word (row_bit r m)) public j l

  pub rest : (j : ℕ) → length public ≤ 2 * j → 2049 + j < 4096 → element_at row (2049 + j) ≡ gf.zero
  unfolding made_row
  rest j l h = rest_at ROW-WORDS 2048 refl (bit_word (row_bit r m)) public j l h

  -- ---- it is bits below the one column: the bit test says all bits

  pub not-above : (c : ℕ) → c < 2048 → above_one row c ≡ false
  not-above c l = ap (λ (x : Gf128). not (is_bit x)) (bit-at c l) ∙ ap not (is_bit-bit (row_bit r m c))

  pub all-bits : bit_tested 1 row ≡ Ok None
  unfolding allowed
  all-bits = all-bits-said 1 row refl row-length not-above
