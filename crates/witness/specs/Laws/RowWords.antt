-- Which word and bit of the row's words a column has.
-- Assumes nothing.
use Rattle.std.specs.Prelude.{◌≡◌, ℕ, ◌+◌, ◌-◌, ◌*◌, ◌/◌, ◌%◌, ◌^◌, ◌<◌, ◌≤◌, Bool, true, false, cond, List, ◌==◌, nat_eq, slice_index}
use Rattle.std.proofs.Common.{ap, ap₂, ◌∙◌, mod-lt, arith, eq-eqb, ne_eqb, pow_pos}
use Rattle.base.specs.Bits.{digit, bit_at}
use Rattle.base.specs.Laws.Tests.{passed, refused}
use Rattle.base.specs.Laws.Numbers.{digit-of}
use Rattle.witness.specs.declared.records.CycleRecord.{CycleRecord}
use Rattle.witness.specs.Table.{subtracts, second_operand, alu_of}
use Rattle.witness.specs.Row.{bit_word}
use Rattle.witness.specs.RowWords.{bits_from, bit_in}

-- a record as it is handed over, whose words are words
pub record Words (r : CycleRecord) : Type 0 where
  pub rs1 : r.rs1_val < 2 ^ 64
  pub rs2 : r.rs2_val < 2 ^ 64
  pub load : r.ram_word < 2 ^ 64
  pub first : r.alu_a < 2 ^ 64
  pub second : r.alu_b < 2 ^ 64
  pub out : r.alu_out < 2 ^ 64

module _ (r : CycleRecord) (fit : Words r) where
  pub second_lt : second_operand r < 2 ^ 64
  second_lt = flipped (subtracts r)
    where
      flipped : (b : Bool) → cond b (2 ^ 64 - 1 - r.alu_b) r.alu_b < 2 ^ 64
      flipped true = omega arith
      flipped false = fit.second

  pub alu_lt : alu_of r < 2 ^ 64
  alu_lt = wraps r.is_arith (r.alu_a + second_operand r + digit (subtracts r))
    where
      wraps : (b : Bool) (n : ℕ) → cond b (n % 2 ^ 64) r.alu_out < 2 ^ 64
      wraps true n = mod-lt n (pow_pos 64)
      wraps false n = fit.out

-- column i of the word: its low word, and its high word
pub low_word : (start w i : ℕ) → w / 2 ^ i % 2 ≡ bits_from start w (start + 2 * i)
unfolding bit_word
low_word start w i =
    let even : nat_eq ((start + 2 * i - start) % 2) 0 ≡ true = eq-eqb ((start + 2 * i - start) % 2) 0 (omega arith) in
    let column : i ≡ (start + 2 * i - start) / 2 = omega arith in
    digit-of (w / 2 ^ i % 2) (omega arith) ∙ ap (λ (c : ℕ). digit (bit_at w c)) column ∙ passed _ _ _ even

pub high_word : (start w i : ℕ) → 0 ≡ bits_from start w (start + 2 * i + 1)
unfolding bit_word
high_word start w i = refused _ _ _ (ne_eqb ((start + 2 * i + 1 - start) % 2) 0 (λ e. omega arith))

-- 64 columns of word j are those of all the words
pub word-columns : (ws : List ℕ) (j k : ℕ) → 128 * j ≤ k → k < 128 * j + 128 → bits_from (128 * j) (slice_index ws j) k ≡ bit_word (bit_in ws) k
unfolding bit_word
word-columns ws j k l h =
    let parity : (k - 128 * j) % 2 ≡ k % 2 = omega arith in
    let place : k / 2 ≡ 64 * j + (k - 128 * j) / 2 = omega arith in
    let column : (k - 128 * j) / 2 ≡ k / 2 % 64 = omega (arith, place) in
    let word_of : j ≡ k / 2 / 64 = omega (arith, place) in
    ap₂ (λ (p c : ℕ). cond (p == 0) (digit (bit_at (slice_index ws j) c)) 0) parity column
    ∙ ap (λ (i : ℕ). cond (k % 2 == 0) (digit (bit_at (slice_index ws i) (k / 2 % 64))) 0) word_of
