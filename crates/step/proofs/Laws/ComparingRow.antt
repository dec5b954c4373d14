-- A cycle that compares RS1 = x with RS2 = y and does nothing else, with opcode o and funct3 f: what its words read, and that it meets
-- the ten step conditions unless the opcode is that of a system call. With opcode 0x63 it is a branch.
-- Assumes nothing.
use Rattle.std.specs.Prelude.{◌≡◌, Bool, true, cond, List, [], ◌∷◌, ℕ, ◌+◌, ◌-◌, ◌%◌, ◌^◌, ◌≤◌, ◌<◌, eqb}
use Rattle.std.proofs.Math.Path.{refl, sym}
use Rattle.std.proofs.Common.{ap, ap₂, ◌∙◌, arith, mod-lt, lt-ltb, pow_pos}
use Rattle.std.proofs.lemmas.Bool.{false≢true}
use Rattle.base.specs.Bits.{word}
use Rattle.base.specs.Lists.{All}
use Rattle.base.specs.Blocks.{Block, block, column_bit}
use Rattle.base.specs.Laws.Blocks.{HoldsWord, each_holds, reads}
use Rattle.field.specs.declared.Gf128.{Gf128}
use Rattle.layout.specs.Columns.{RS1, RS2, T1, T2, ALU, SUB, IS-ARITH, FETCH-OP, FETCH-FUNCT3}
use Rattle.step.specs.Step.{Step, opcode, funct3}
use Rattle.step.proofs.Laws.Chosen.{with_one}

-- the fields that are not 0: one line each, with first column, width and value
abbrev pub comparing_fields : ℕ → ℕ → ℕ → ℕ → List Block
comparing_fields o f x y =
    block RS1 64 x
    ∷ block RS2 64 y
    ∷ block T1 64 x
    ∷ block T2 64 (2 ^ 64 - 1 - y)
    ∷ block ALU 64 ((x + (2 ^ 64 - y)) % 2 ^ 64)
    ∷ block SUB 1 1
    ∷ block IS-ARITH 1 1
    ∷ block FETCH-OP 7 o
    ∷ block FETCH-FUNCT3 3 f
    ∷ []

-- a column's bit
abbrev pub comparing_bits : ℕ → ℕ → ℕ → ℕ → ℕ → Bool
comparing_bits o f x y = column_bit (comparing_fields o f x y)

module _ (o f x y : ℕ) (lo : o < 2 ^ 7) (lf : f < 8) (lx : x < 2 ^ 64) (ly : y < 2 ^ 64) where
  abbrev b : ℕ → Bool
  b = with_one (comparing_bits o f x y)

  fields : All (HoldsWord 0 (comparing_fields o f x y)) (comparing_fields o f x y)
  fields = each_holds (comparing_fields o f x y) 0 2048 refl

  witness-bit : (c : ℕ) → c < 2048 → b c ≡ comparing_bits o f x y c
  witness-bit c l = ap (λ (k : Bool). cond k (comparing_bits o f x y c) (eqb c 2048)) (lt-ltb c 2048 l)

  reads_word : (k : Block) → k.column + k.width ≤ 2048 → HoldsWord 0 (comparing_fields o f x y) k → k.word < 2 ^ k.width
      → word b k.column k.width ≡ k.word
  reads_word k m h l = reads b k.column k.width k.word l (λ i n. witness-bit (k.column + i) (omega arith) ∙ h.bits i n)

  pub rs1-is : word b RS1 64 ≡ x
  rs1-is = reads_word (block RS1 64 x) (omega arith) fields.0 lx

  pub rs2-is : word b RS2 64 ≡ y
  rs2-is = reads_word (block RS2 64 y) (omega arith) fields.1.0 ly

  pub t1-is : word b T1 64 ≡ x
  t1-is = reads_word (block T1 64 x) (omega arith) fields.1.1.0 lx

  pub t2-is : word b T2 64 ≡ 2 ^ 64 - 1 - y
  t2-is = reads_word (block T2 64 (2 ^ 64 - 1 - y)) (omega arith) fields.1.1.1.0 (omega arith)

  alu-is : word b ALU 64 ≡ (x + (2 ^ 64 - y)) % 2 ^ 64
  alu-is = reads_word (block ALU 64 ((x + (2 ^ 64 - y)) % 2 ^ 64)) (omega arith) fields.1.1.1.1.0 (mod-lt _ (pow_pos 64))

  pub opcode-is : opcode b ≡ o
  opcode-is = reads_word (block FETCH-OP 7 o) (omega arith) fields.1.1.1.1.1.1.1.0 lo

  pub funct3-is : funct3 b ≡ f
  funct3-is = reads_word (block FETCH-FUNCT3 3 f) (omega arith) fields.1.1.1.1.1.1.1.1.0 lf

  pub subtract-is : b SUB ≡ true
  unfolding column_bit
  subtract-is = refl

  pub arithmetic-is : b IS-ARITH ≡ true
  unfolding column_bit
  arithmetic-is = refl

  -- the sum wraps to the difference
  difference : (x + (2 ^ 64 - y)) % 2 ^ 64 ≡ (x + (2 ^ 64 - 1 - y) + 1) % 2 ^ 64
  difference = ap (λ (n : ℕ). n % 2 ^ 64) (omega arith)

  -- whatever the public element is
  pub comparing-steps : (o ≡ 0x73 → ⊥) → (output : Gf128) → Step b output
  unfolding column_bit
  comparing-steps other output =
      record {
        arithmetic = λ _. alu-is ∙ difference ∙ sym (ap₂ (λ (m n : ℕ). (m + n + 1) % 2 ^ 64) t1-is t2-is);
        shift = λ e. absurd (false≢true e);
        write = λ e _. absurd (false≢true e);
        system = λ e. absurd (other (sym opcode-is ∙ e));
        load_word = λ e. absurd (false≢true e);
        load_byte = λ e. absurd (false≢true e);
        load-half = λ e. absurd (false≢true e);
        upper-zero = λ e _. absurd (false≢true e);
        second-zero = λ e _ _. absurd (false≢true e);
        address = λ e. absurd (false≢true e);
      }
