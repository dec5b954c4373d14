-- The derived columns of a cycle, by words: what the filler works out from the given columns' words and bits. A run of derived columns is
-- one word, its fields side by side.
-- Assumes nothing.
use Rattle.std.specs.Prelude.{ℕ, ◌+◌, ◌-◌, ◌*◌, ◌%◌, ◌^◌, Bool, true, not, ◌&&◌, List, [], ◌∷◌, bit_and, bit_xor}
use Rattle.base.specs.Bits.{digit, ◌⊻◌, signed_less, bit_at}
use Rattle.base.specs.Fields.{Field, field, flags, pack}
use Rattle.layout.specs.Columns.{OPSYS, OPBR, EQF, CEQ, CLT, CLU}
use Rattle.filler.specs.declared.bits.Flags.{Flags}
use Rattle.filler.specs.declared.derive.TopBits.{TopBits}
use Rattle.filler.specs.Lanes.{hot, pair, next}

-- the carries into each bit of a + b + s
unfoldable pub carry_word : ℕ → ℕ → ℕ → ℕ
carry_word a b s = bit_xor (bit_xor a b) ((a + b + s) % 2 ^ 64)

-- which bits of x have none set at or below them
unfoldable pub run_word : ℕ → ℕ
run_word x = bit_and ((x + (2 ^ 64 - 1)) % 2 ^ 64) (2 ^ 64 - 1 - x)

-- NH and WNL
abbrev pub gate_bits : Flags → List Bool
gate_bits f = (not f.whole && not f.half) ∷ (f.write && not f.load) ∷ []

-- columns 896..953, for lane x: EQA, PA, EQB, PB, CA, CH, CH2, NH, WNL
abbrev pub lane_fields : ℕ → Flags → List Field
lane_fields x f =
    field 8 (hot x) ∷ field 8 (pair x) ∷ field 8 (hot (next x)) ∷ field 8 (pair (next x))
    ∷ field 8 (digit f.byte * hot x) ∷ field 8 (digit f.half * hot x) ∷ field 8 (digit f.half * hot (next x))
    ∷ flags (gate_bits f)

unfoldable pub lane_word : ℕ → Flags → ℕ
lane_word x f = pack (lane_fields x f)

-- LTSA, LTSB, LTUA, LTUB, CEQ, CLT, CLU, ZE16, ZE8; e has the bit of funct3 alone
abbrev pub compare_bits : ℕ → TopBits → Flags → List Bool
compare_bits e t f =
    ((t.rs1 ⊻ t.rs2) && t.rs1)
    ∷ ((t.rs1 ⊻ t.rs2 ⊻ true) && t.alu)
    ∷ (t.t1 && t.t2)
    ∷ (t.carry && (t.t1 ⊻ t.t2))
    ∷ ((bit_at e 0 ⊻ bit_at e 1) && t.zero)
    ∷ ((bit_at e 4 ⊻ bit_at e 5) && signed_less t.rs1 t.rs2 t.alu)
    ∷ ((bit_at e 6 ⊻ bit_at e 7) && ((t.t1 && t.t2) ⊻ (t.carry && (t.t1 ⊻ t.t2)) ⊻ true))
    ∷ (not f.whole && f.load)
    ∷ ((not f.whole && not f.half) && f.load)
    ∷ []

unfoldable pub compare_word : ℕ → TopBits → Flags → ℕ
compare_word e t f = pack (flags (compare_bits e t f))

-- whether the low bits of the opcode are those of k, each with those below it
abbrev pub opcode_run : ℕ → ℕ → ℕ
opcode_run op k = run_word (bit_xor op k) % 2 ^ 7

unfoldable pub branch_word : ℕ → ℕ → TopBits → Flags → ℕ
branch_word op f3 t f =
    opcode_run op 0x73 + 2 ^ 7 * (opcode_run op 0x63 + 2 ^ 7 * (pair f3 + 2 ^ 8 * (hot f3 + 2 ^ 8 * compare_word (hot f3) t f)))

-- TAKEN, of the word of columns 1088 on: OPBR's last, and the six of the mux
unfoldable pub taken_bit : ℕ → Bool
taken_bit w =
    bit_at w (OPBR + 6 - OPSYS)
    && (bit_at w (CEQ - OPSYS) ⊻ bit_at w (EQF + 1 - OPSYS)
    ⊻ bit_at w (CLT - OPSYS) ⊻ bit_at w (EQF + 5 - OPSYS)
    ⊻ bit_at w (CLU - OPSYS) ⊻ bit_at w (EQF + 7 - OPSYS))
