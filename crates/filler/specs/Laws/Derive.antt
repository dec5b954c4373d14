-- A cycle whose derived columns are as the words say.
-- Assumes nothing.
use Rattle.std.specs.Prelude.{◌≡◌, ℕ, ◌+◌, ◌<◌, Bool, ◌&&◌, List, ◌∷◌}
use Rattle.base.specs.Bits.{digit, ◌⊻◌, word, bit_at}
use Rattle.base.specs.Fields.{Field, field, flags}
use Rattle.layout.specs.Columns.{RS1, RS2, LOAD-VAL, T1, T2, CARRY-OFF, ALU, SHIFT-SRC, STORE-OLD, STORE-SRC, SUB, HALT, TAKEN, EQA, ZERO, OPSYS, OPBR, EQF, CEQ, CLT, CLU}
use Rattle.step.specs.Step.{opcode, funct3, offset}
use Rattle.filler.specs.declared.bits.Flags.{Flags}
use Rattle.filler.specs.declared.derive.TopBits.{TopBits}
use Rattle.filler.specs.Lanes.{hot, pair}
use Rattle.filler.specs.Met.{flags_at}
use Rattle.filler.specs.Derive.{compare_bits, opcode_run, run_word, lane_word, carry_word, branch_word}

-- columns 1088..1126: OPSYS, OPBR, EQFM, EQF, and the comparisons
abbrev pub branch_fields : ℕ → ℕ → TopBits → Flags → List Field
branch_fields op f3 t f =
    field 7 (opcode_run op 0x73) ∷ field 7 (opcode_run op 0x63) ∷ field 8 (pair f3) ∷ field 8 (hot f3) ∷ flags (compare_bits (hot f3) t f)

-- ---- a cycle whose derived columns are as the words say

abbrev pub top_bits_at : (ℕ → Bool) → TopBits
top_bits_at y =
    record {
      rs1 = y (RS1 + 63);
      rs2 = y (RS2 + 63);
      alu = y (ALU + 63);
      t1 = y (T1 + 63);
      t2 = y (T2 + 63);
      carry = y (CARRY-OFF + 63);
      zero = y (ZERO + 63);
    }

pub record ByWords (y : ℕ → Bool) : Type 0 where
  pub carry : (i : ℕ) → i < 64 → y (CARRY-OFF + i) ≡ bit_at (carry_word (word y T1 64) (word y T2 64) (digit (y SUB))) i
  pub shift-src : (i : ℕ) → i < 64 → y (SHIFT-SRC + i) ≡ y (RS1 + i)
  pub store-old : (i : ℕ) → i < 64 → y (STORE-OLD + i) ≡ y (LOAD-VAL + i)
  pub store-src : (i : ℕ) → i < 64 → y (STORE-SRC + i) ≡ y (RS2 + i)
  pub halt : y HALT ≡ y (OPSYS + 6)
  pub taken : y TAKEN ≡ (y (OPBR + 6) && (y CEQ ⊻ y (EQF + 1) ⊻ y CLT ⊻ y (EQF + 5) ⊻ y CLU ⊻ y (EQF + 7)))
  pub lanes : (i : ℕ) → i < 58 → y (EQA + i) ≡ bit_at (lane_word (offset y) (flags_at y)) i
  pub zeros : (i : ℕ) → i < 64 → y (ZERO + i) ≡ bit_at (run_word (word y ALU 64)) i
  pub branches : (i : ℕ) → i < 39 → y (OPSYS + i) ≡ bit_at (branch_word (opcode y) (funct3 y) (top_bits_at y) (flags_at y)) i
