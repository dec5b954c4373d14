-- The rows of opcode, funct3, comparisons and mux hold, where the columns are as the words say.
-- Assumes nothing.
use Rattle.std.specs.Prelude.{◌≡◌, ℕ, ◌+◌, ◌<◌, ◌≤◌, Bool, true, not, ◌&&◌, List}
use Rattle.std.proofs.Common.{sym, ap₂, ◌∙◌, add_assoc, mod-lt, lt_of_lt_of_le, arith, pow_pos}
use Rattle.std.proofs.Math.Path.{ap}
use Rattle.std.specs.Int.Bits.{bit_xor}
use Rattle.std.proofs.lemmas.Nat.{xor_lt}
use Rattle.base.specs.Bits.{digit, bit_of, ◌⊻◌, bit_at}
use Rattle.base.specs.Lists.{All}
use Rattle.base.specs.Fields.{Field, field, flags, pack}
use Rattle.base.specs.Laws.Values.{val-lt}
use Rattle.base.specs.Laws.Cases.{alike-not}
use Rattle.base.specs.Laws.Bits.{bit-digit, bit_cut, bit-xor, word-bit}
use Rattle.base.specs.Laws.Fields.{flags-fit, Has, HasEach, has-each}
use Rattle.layout.specs.Columns.{ONE-COL, RS1, RS2, T1, T2, CARRY-OFF, ALU, IS-LOAD, LD-WORD, FETCH-OP, FETCH-FUNCT3, NH, ZERO, OPSYS, EQFM, EQF, LTSA, LTSB, LTUA, LTUB}
use Rattle.circuit.specs.Circuit.{is_of, extend16_row, extend8_row, opcode_rows, funct3_rows, comparison_rows, mux_rows}
use Rattle.step.specs.Step.{opcode, funct3}
use Rattle.step.specs.Solve.{Holds}
use Rattle.step.proofs.Laws.Step.{funct3-lt}
use Rattle.step.proofs.Laws.Sides.{sum_one, sum-two, sum-not, sum-three, sum-is_of}
use Rattle.filler.specs.Lanes.{hot, pair}
use Rattle.filler.specs.Derive.{run_word, compare_bits, compare_word, opcode_run, branch_word}
use Rattle.filler.specs.Met.{flags_at}
use Rattle.filler.specs.Laws.Lanes.{hot-lt, pair_lt, third_agrees, pair-bit, hot-bit}
use Rattle.filler.specs.Laws.Derive.{branch_fields, top_bits_at, ByWords}
use Rattle.filler.specs.Laws.Holds.{product-holds, chain-holds, stages-hold}
use Rattle.filler.specs.Laws.LaneRows.{neither}

module _ (y : ℕ → Bool) (y1 : y ONE-COL ≡ true) (d : ByWords y) where
  abbrev branches : List Field
  branches = branch_fields (opcode y) (funct3 y) (top_bits_at y) (flags_at y)

  pub has-branches : HasEach (pack branches) 0 branches
  has-branches =
      has-each branches (
        mod-lt _ (pow_pos 7),
        (mod-lt _ (pow_pos 7), (pair_lt _, (hot-lt _ (funct3-lt y), flags-fit (compare_bits (hot (funct3 y)) (top_bits_at y) (flags_at y))))),
      )

  pub in-branches : (o n v : ℕ) → Has (pack branches) o (field n v) → o + n ≤ 39 → (i : ℕ) → i < n → y (OPSYS + o + i) ≡ bit_at v i
  unfolding branch_word compare_word
  in-branches o n v h l i m = ap y (add_assoc OPSYS o i) ∙ d.branches (o + i) (omega arith) ∙ h i m

  one_bit : (o : ℕ) (b : Bool) → Has (pack branches) o (field 1 (digit b)) → o + 1 ≤ 39 → y (OPSYS + o + 0) ≡ b
  one_bit o b h l = in-branches o 1 (digit b) h l 0 (omega arith) ∙ bit-digit b

  pub opcode-holds : (t k : ℕ) → k < 128 → ((i : ℕ) → i < 7 → y (t + i) ≡ bit_at (opcode_run (opcode y) k) i) → All (Holds y) (opcode_rows t k)
  opcode-holds t k l h =
      chain-holds y y1 t 6 (bit_xor (opcode y) k) (λ i. is_of (FETCH-OP + i) (bit_of k i))
      (lt_of_lt_of_le (xor_lt 7 (opcode y) k (val-lt 7 (λ i. y (FETCH-OP + i))) l) (omega arith)) (omega arith)
      (λ i m. sum-is_of y y1 (FETCH-OP + i) (bit_of k i) ∙ alike-not (y (FETCH-OP + i)) (bit_at k i)
      ∙ ap not (ap (λ (b : Bool). b ⊻ bit_at k i) (sym (word-bit y FETCH-OP 7 i (omega arith))) ∙ sym (bit-xor (opcode y) k i)))
      (λ i m. h i (omega arith) ∙ bit_cut (run_word (bit_xor (opcode y) k)) 7 i (omega arith))

  eqfm : (i : ℕ) → i < 8 → y (EQFM + i) ≡ bit_at (pair (funct3 y)) i
  eqfm = in-branches 14 8 _ has-branches.1.1.0 (omega arith)

  eqf : (i : ℕ) → i < 8 → y (EQF + i) ≡ bit_at (hot (funct3 y)) i
  eqf = in-branches 22 8 _ has-branches.1.1.1.0 (omega arith)

  pub funct3-hold : (f : ℕ) → f < 8 → All (Holds y) (funct3_rows f)
  funct3-hold f l =
      stages-hold y y1 FETCH-FUNCT3 f (EQFM + f) (EQF + f) (λ i. is_of (FETCH-FUNCT3 + i) (bit_of f i))
      (λ i. sum-is_of y y1 (FETCH-FUNCT3 + i) (bit_of f i))
      (eqfm f l ∙ pair-bit (funct3 y) f (funct3-lt y) l)
      (eqf f l ∙ hot-bit (funct3 y) f (funct3-lt y) l ∙ ap (λ (b : Bool). b && third_agrees (funct3 y) f) (sym (eqfm f l)))

  has-bits : HasEach (pack branches) 30 (flags (compare_bits (hot (funct3 y)) (top_bits_at y) (flags_at y)))
  has-bits = has-branches.1.1.1.1

  ltsa : y LTSA ≡ ((y (RS1 + 63) ⊻ y (RS2 + 63)) && y (RS1 + 63))
  ltsa = one_bit 30 _ has-bits.0 (omega arith)

  ltsb : y LTSB ≡ ((y (RS1 + 63) ⊻ y (RS2 + 63) ⊻ true) && y (ALU + 63))
  ltsb = one_bit 31 _ has-bits.1.0 (omega arith)

  ltua : y LTUA ≡ (y (T1 + 63) && y (T2 + 63))
  ltua = one_bit 32 _ has-bits.1.1.0 (omega arith)

  ltub : y LTUB ≡ (y (CARRY-OFF + 63) && (y (T1 + 63) ⊻ y (T2 + 63)))
  ltub = one_bit 33 _ has-bits.1.1.1.0 (omega arith)

  pub comparisons-hold : All (Holds y) comparison_rows
  comparisons-hold =
      let s = sum_one y y1 in let two = sum-two y y1 in (
        product-holds y y1 _ _ _ (two (RS1 + 63) (RS2 + 63)) (s (RS1 + 63)) ltsa,
        (
          product-holds y y1 _ _ _ (sum-three y y1 (RS1 + 63) (RS2 + 63)) (s (ALU + 63)) ltsb,
          (
            product-holds y y1 _ _ _ (s (T1 + 63)) (s (T2 + 63)) ltua,
            (product-holds y y1 _ _ _ (s (CARRY-OFF + 63)) (two (T1 + 63) (T2 + 63)) ltub, tt),
          ),
        ),
      )

  -- one of two values of funct3
  pick : (i j : ℕ) → i < 8 → j < 8 → (bit_at (hot (funct3 y)) i ⊻ bit_at (hot (funct3 y)) j) ≡ (y (EQF + i) ⊻ y (EQF + j))
  pick i j l m = ap₂ ◌⊻◌ (sym (eqf i l)) (sym (eqf j m))

  pub mux-hold : All (Holds y) mux_rows
  mux-hold =
      let b = has-bits.1.1.1.1 in let two = sum-two y y1 in (
        product-holds y y1 _ _ _ (two EQF (EQF + 1)) (sum_one y y1 (ZERO + 63))
            (one_bit 34 _ b.0 (omega arith) ∙ ap (λ (v : Bool). v && y (ZERO + 63)) (pick 0 1 (omega arith) (omega arith))),
        (
          product-holds y y1 _ _ _ (two (EQF + 4) (EQF + 5)) (two LTSA LTSB)
              (one_bit 35 _ b.1.0 (omega arith) ∙ ap₂ ◌&&◌ (pick 4 5 (omega arith) (omega arith)) (ap₂ ◌⊻◌ (sym ltsa) (sym ltsb))),
          (
            product-holds y y1 _ _ _ (two (EQF + 6) (EQF + 7)) (sum-three y y1 LTUA LTUB)
                (one_bit 36 _ b.1.1.0 (omega arith) ∙ ap₂ ◌&&◌ (pick 6 7 (omega arith) (omega arith))
                (ap₂ (λ (a c : Bool). a ⊻ c ⊻ true) (sym ltua) (sym ltub))),
            tt,
          ),
        ),
      )

  pub extend16-holds : Holds y extend16_row
  extend16-holds = product-holds y y1 _ _ _ (sum-not y y1 LD-WORD) (sum_one y y1 IS-LOAD)
      (one_bit 37 _ has-bits.1.1.1.1.1.1.1.0 (omega arith))

  pub extend8-holds : Holds y extend8_row
  extend8-holds =
      product-holds y y1 _ _ _ (sum_one y y1 NH) (sum_one y y1 IS-LOAD)
      (one_bit 38 _ has-bits.1.1.1.1.1.1.1.1.0 (omega arith) ∙ ap (λ (v : Bool). v && y IS-LOAD) (sym (neither y y1 d)))
