-- The ten step conditions of document 01, in its order, of one cycle: of its bits, and of the public element one_col + 1.
-- Assumes nothing.
use Rattle.std.specs.Prelude.{◌≡◌, Bool, true, false, List, [], ◌∷◌, ℕ, ◌+◌, ◌-◌, ◌*◌, ◌%◌, ◌^◌, get_or}
use Rattle.base.specs.Bits.{digit, ◌⊻◌, word}
use Rattle.field.specs.declared.Gf128.{Gf128}
use Rattle.field.specs.Gf.{of_words}
use Rattle.layout.specs.Columns.{RS1, RD, LOAD-VAL, SHIFT-OUT, T1, T2, ALU, SUB, WE, IS-LOAD, IS-STORE, IS-ARITH, IS-SHIFT, LD-BYTE, LD-HALF, LD-WORD, OFF, RAM-ADDR, FETCH-OP, FETCH-FUNCT3}

-- fields of the instruction bus: FETCH bits 0..6, and 25..27
abbrev pub opcode : (ℕ → Bool) → ℕ
opcode b = word b FETCH-OP 7

abbrev pub funct3 : (ℕ → Bool) → ℕ
funct3 b = word b FETCH-FUNCT3 3

-- OFF: the three columns 784..786
abbrev pub offset : (ℕ → Bool) → ℕ
offset b = word b OFF 3

-- byte k of the word at a column
abbrev pub byte : (ℕ → Bool) → ℕ → ℕ → ℕ
byte b column k = word b (column + 8 * k) 8

-- the ten, in their order
abbrev pub Conditions : (ℕ → Bool) → Gf128 → List (Type 0)
Conditions b output =
    -- 1. arithmetic: ALU is T1 + T2 + SUB, a sum that wraps at 2^64
    (b IS-ARITH ≡ true → word b ALU 64 ≡ (word b T1 64 + word b T2 64 + digit (b SUB)) % 2 ^ 64)
    -- 2. shift: ALU = SHIFT_OUT
    ∷ (b IS-SHIFT ≡ true → word b ALU 64 ≡ word b SHIFT-OUT 64)
    -- 3. WE, no load: RD = ALU
    ∷ (b WE ≡ true → b IS-LOAD ≡ false → word b RD 64 ≡ word b ALU 64)
    -- 4. opcode 0x73: RD = RS1, and the public element is RD with high word 0
    ∷ (opcode b ≡ 0x73 → (word b RD 64 ≡ word b RS1 64) × (output ≡ of_words (word b RD 64) 0))
    -- 5. LD_WORD: RD = LOAD_VAL, all 64 bits
    ∷ (b LD-WORD ≡ true → word b RD 64 ≡ word b LOAD-VAL 64)
    -- 6. LD_BYTE: RD's byte 0 is LOAD_VAL's byte OFF
    ∷ (b LD-BYTE ≡ true → byte b RD 0 ≡ byte b LOAD-VAL (offset b))
    -- 7. LD_HALF: bytes 0 and 1 are bytes OFF and (OFF + 1) mod 8
    ∷ (b LD-HALF ≡ true → (byte b RD 0 ≡ byte b LOAD-VAL (offset b)) × (byte b RD 1 ≡ byte b LOAD-VAL ((offset b + 1) % 8)))
    -- 8. load, not LD_WORD: RD bits 16..63 are 0
    ∷ (b IS-LOAD ≡ true → b LD-WORD ≡ false → word b (RD + 16) 48 ≡ 0)
    -- 9. load, neither LD_WORD nor LD_HALF: bits 8..15 are 0
    ∷ (b IS-LOAD ≡ true → b LD-WORD ≡ false → b LD-HALF ≡ false → word b (RD + 8) 8 ≡ 0)
    -- 10. just one of load and store: RAM_ADDR is ALU bits 3..10
    ∷ ((b IS-LOAD ⊻ b IS-STORE) ≡ true → word b RAM-ADDR 8 ≡ word b (ALU + 3) 8) ∷ []

-- condition k, counted from 1; past the ten there is none that holds
abbrev pub Condition : (ℕ → Bool) → Gf128 → ℕ → Type 0
Condition b output k = get_or (Conditions b output) (k - 1) ⊥

-- a cycle meets them all
pub record Step (b : ℕ → Bool) (output : Gf128) : Type 0 where
  pub arithmetic : Condition b output 1
  pub shift : Condition b output 2
  pub write : Condition b output 3
  pub system : Condition b output 4
  pub load_word : Condition b output 5
  pub load_byte : Condition b output 6
  pub load-half : Condition b output 7
  pub upper-zero : Condition b output 8
  pub second-zero : Condition b output 9
  pub address : Condition b output 10
