-- The row that a cycle's record and its ROM row make: one line a field, with its first column, its width and its value, of which it takes
-- the low bits. A value that the original makes bit by bit is said so: `bits` takes the function that says bit i. A group is a word of 64
-- columns; a column that no line has is 0. Halt and taken are the record's.
-- Assumes nothing.
use Rattle.std.specs.Prelude.{ℕ, zero, suc, ◌+◌, ◌-◌, ◌%◌, ◌^◌, Bool, cond, not, ◌&&◌, ◌||◌, List, [], ◌∷◌, ◌==◌, nat_eq}
use Rattle.base.specs.Bits.{digit, val, ◌⊻◌, alike, bit_at}
use Rattle.base.specs.Blocks.{Block, block}
use Rattle.layout.specs.Columns.{OP-BITS, IDX-BITS, FUNCT3-BITS, IMM-BITS, RS1, RS2, RD, LOAD-VAL, SHIFT-OUT, T1, T2, CARRY-OFF, ALU, SHIFT-SRC, STORE-OLD, STORE-SRC, SUB, WE, IS-LOAD, IS-STORE, IS-ARITH, HALT, IS-SHIFT, IS-LOGIC, LD-BYTE, LD-HALF, LD-WORD, TAKEN, OFF, RAM-ADDR, PC, FETCH-OP, FETCH-RD, FETCH-RS1, FETCH-RS2, FETCH-FUNCT3, FETCH-IMM, EQA, PA, EQB, PB, CA, CH, CH2, NH, WNL, ZERO, OPSYS, OPBR, EQFM, EQF, LTSA, LTSB, LTUA, LTUB, CEQ, CLT, CLU, ZE16, ZE8}
use Rattle.witness.specs.declared.records.CycleRecord.{CycleRecord}
use Rattle.witness.specs.declared.records.RomRow.{RomRow}

-- the adder subtracts: an arithmetic cycle that is marked so
abbrev pub subtracts : CycleRecord → Bool
subtracts r = r.is_arith && r.is_sub_op

-- its second operand: all 64 bits flipped where it subtracts
abbrev pub second_operand : CycleRecord → ℕ
second_operand r = cond (subtracts r) (2 ^ 64 - 1 - r.alu_b) r.alu_b

-- of an arithmetic cycle the sum that wraps, and `alu_out` is not read
abbrev pub alu_of : CycleRecord → ℕ
alu_of r = cond r.is_arith ((r.alu_a + second_operand r + digit (subtracts r)) % 2 ^ 64) r.alu_out

-- the carry into bit i of that sum: into bit 0 the subtract bit, into bit i + 1 whether at least two of these are set: bits i of both
-- operands, the carry into bit i
unfoldable pub carry_into : CycleRecord → ℕ → Bool
carry_into r zero = subtracts r
carry_into r (suc i) =
    let a = bit_at r.alu_a i in let b = bit_at (second_operand r) i in let c = carry_into r i in (a && b) || (a && c) || (b && c)

-- a chain: the test holds of each number up to i
unfoldable pub all_to : (ℕ → Bool) → ℕ → Bool
all_to test zero = test 0
all_to test (suc i) = all_to test i && test (suc i)

-- bits 0 to i of ALU are all 0
abbrev pub zero_to : CycleRecord → ℕ → Bool
zero_to r = all_to (λ i. not (bit_at (alu_of r) i))

-- bits 0 to i of two words are the same
abbrev pub alike_to : ℕ → ℕ → ℕ → Bool
alike_to v w = all_to (λ i. alike (bit_at v i) (bit_at w i))

-- rd 0 goes on the bus as 32
abbrev pub bus_rd : ℕ → ℕ
bus_rd rd = cond (rd == 0) 32 rd

-- the top bit of a word
abbrev top : ℕ → Bool
top w = bit_at w 63

module _ (r : CycleRecord) (m : RomRow) where
  -- the lane that a load or store begins at, the one after it, and the two parts of the instruction that are compared with numbers
  abbrev pub lane : ℕ
  lane = r.byte_offset % 2 ^ 3

  abbrev pub next_lane : ℕ
  next_lane = (lane + 1) % 8

  abbrev pub op : ℕ
  op = m.raw % 2 ^ 7

  abbrev pub f3 : ℕ
  f3 = m.funct3 % 2 ^ 3

  -- RS1 is below RS2 by the signs and the difference, and by the carry out of the adder
  abbrev differ : Bool
  differ = top r.rs1_val ⊻ top r.rs2_val

  abbrev less_signed : Bool
  less_signed = cond differ (top r.rs1_val) (top (alu_of r))

  abbrev both_tops : Bool
  both_tops = top r.alu_a && top (second_operand r)

  abbrev carry_on : Bool
  carry_on = carry_into r 63 && (top r.alu_a ⊻ top (second_operand r))

  abbrev neither_width : Bool
  neither_width = not r.ld_word && not r.ld_half

  -- funct3 is one of two
  abbrev is : ℕ → ℕ → Bool
  is i j = f3 == i || f3 == j

  -- the field of n columns whose bit i is f i
  abbrev bits : ℕ → ℕ → (ℕ → Bool) → Block
  bits column n f = block column n (val f n)

  abbrev pub flag_group : List Block
  flag_group =
      block SUB 1 (digit (subtracts r))
      ∷ block WE 1 (digit r.we)
      ∷ block IS-LOAD 1 (digit r.is_load)
      ∷ block IS-STORE 1 (digit r.is_store)
      ∷ block IS-ARITH 1 (digit r.is_arith)
      ∷ block HALT 1 (digit r.halted_latch)
      ∷ block IS-SHIFT 1 (digit r.is_shift)
      ∷ block IS-LOGIC 1 (digit r.is_logic)
      ∷ block LD-BYTE 1 (digit r.ld_byte)
      ∷ block LD-HALF 1 (digit r.ld_half)
      ∷ block LD-WORD 1 (digit r.ld_word)
      ∷ block TAKEN 1 (digit r.branch_taken)
      ∷ block OFF 3 r.byte_offset
      ∷ block RAM-ADDR 8 r.ram_addr
      ∷ block PC 8 r.micro_pc
      ∷ []

  abbrev pub bus_group : List Block
  bus_group =
      block FETCH-OP OP-BITS m.raw
      ∷ block FETCH-RD IDX-BITS (bus_rd m.rd)
      ∷ block FETCH-RS1 IDX-BITS m.rs1
      ∷ block FETCH-RS2 IDX-BITS m.rs2
      ∷ block FETCH-FUNCT3 FUNCT3-BITS m.funct3
      ∷ block FETCH-IMM IMM-BITS m.imm
      ∷ []

  abbrev pub lane_group : List Block
  lane_group =
      bits EQA 8 (λ k. nat_eq lane k)
      ∷ bits PA 8 (λ k. nat_eq (lane % 4) (k % 4))
      ∷ bits EQB 8 (λ k. nat_eq next_lane k)
      ∷ bits PB 8 (λ k. nat_eq (next_lane % 4) (k % 4))
      ∷ bits CA 8 (λ k. (lane == k) && r.ld_byte)
      ∷ bits CH 8 (λ k. (lane == k) && r.ld_half)
      ∷ bits CH2 8 (λ k. (next_lane == k) && r.ld_half)
      ∷ block NH 1 (digit neither_width)
      ∷ block WNL 1 (digit (r.we && not r.is_load))
      ∷ []

  abbrev pub branch_group : List Block
  branch_group =
      bits OPSYS 7 (alike_to op 0x73)
      ∷ bits OPBR 7 (alike_to op 0x63)
      ∷ bits EQFM 8 (λ k. nat_eq (f3 % 4) (k % 4))
      ∷ bits EQF 8 (λ k. nat_eq f3 k)
      ∷ block LTSA 1 (digit (differ && top r.rs1_val))
      ∷ block LTSB 1 (digit (not differ && top (alu_of r)))
      ∷ block LTUA 1 (digit both_tops)
      ∷ block LTUB 1 (digit carry_on)
      ∷ block CEQ 1 (digit (is 0 1 && zero_to r 63))
      ∷ block CLT 1 (digit (is 4 5 && less_signed))
      ∷ block CLU 1 (digit (is 6 7 && not (both_tops ⊻ carry_on)))
      ∷ block ZE16 1 (digit (not r.ld_word && r.is_load))
      ∷ block ZE8 1 (digit (neither_width && r.is_load))
      ∷ []

  abbrev alone : ℕ → ℕ → List Block
  alone column w = block column 64 w ∷ []

  abbrev bits_alone : ℕ → (ℕ → Bool) → List Block
  bits_alone column f = bits column 64 f ∷ []

  unfoldable pub table : List (List Block)
  table =
      alone RS1 r.rs1_val
      ∷ alone RS2 r.rs2_val
      ∷ alone RD r.rd_val
      ∷ alone LOAD-VAL r.ram_word
      ∷ alone SHIFT-OUT r.shift_out
      ∷ alone T1 r.alu_a
      ∷ alone T2 (second_operand r)
      ∷ bits_alone CARRY-OFF (carry_into r)
      ∷ alone ALU (alu_of r)
      ∷ alone SHIFT-SRC r.rs1_val
      ∷ alone STORE-OLD r.ram_word
      ∷ alone STORE-SRC r.rs2_val
      ∷ flag_group
      ∷ bus_group
      ∷ lane_group
      ∷ []
      ∷ bits_alone ZERO (zero_to r)
      ∷ branch_group
      ∷ []
