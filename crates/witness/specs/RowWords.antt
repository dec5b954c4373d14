-- The made row by words: 18 words of 64 columns hold all of its fields. The given ones come from the record and the ROM row, and the
-- derived ones are those that the filler works out of them.
-- Assumes nothing.
use Rattle.std.specs.Prelude.{ℕ, ◌+◌, ◌-◌, ◌*◌, ◌/◌, ◌%◌, ◌^◌, Bool, List, [], ◌∷◌, slice_index}
use Rattle.base.specs.Bits.{bit_at}
use Rattle.base.specs.Fields.{flags, pack}
use Rattle.filler.specs.declared.derive.GivenWords.{GivenWords}
use Rattle.filler.specs.declared.derive.DerivedWords.{DerivedWords}
use Rattle.filler.specs.Words.{derived_words}
use Rattle.witness.specs.declared.records.CycleRecord.{CycleRecord}
use Rattle.witness.specs.declared.records.RomRow.{RomRow}
use Rattle.witness.specs.Table.{subtracts, second_operand, alu_of, bus_rd}
use Rattle.witness.specs.Row.{bit_word}

-- ---- the given words

abbrev pub low_flags : CycleRecord → List Bool
low_flags r = subtracts r ∷ r.we ∷ r.is_load ∷ r.is_store ∷ r.is_arith ∷ r.halted_latch ∷ []

abbrev pub high_flags : CycleRecord → List Bool
high_flags r = r.is_shift ∷ r.is_logic ∷ r.ld_byte ∷ r.ld_half ∷ r.ld_word ∷ r.branch_taken ∷ []

-- columns 768 to 831: the flags, OFF from bit 16 on, RAM_ADDR from 24, PC from 32
unfoldable pub flags_word : CycleRecord → ℕ
flags_word r =
    pack (flags (low_flags r))
    + 2 ^ 6 * (pack (flags (high_flags r))
    + 2 ^ 10 * (r.byte_offset % 2 ^ 3 + 2 ^ 8 * (r.ram_addr % 2 ^ 8 + 2 ^ 8 * (r.micro_pc % 2 ^ 8))))

-- columns 832 to 895
unfoldable pub bus_word : RomRow → ℕ
bus_word m =
    m.raw % 2 ^ 7
    + 2 ^ 7 * (bus_rd m.rd % 2 ^ 6 + 2 ^ 6 * (m.rs1 % 2 ^ 6
    + 2 ^ 6 * (m.rs2 % 2 ^ 6 + 2 ^ 6 * (m.funct3 % 2 ^ 3 + 2 ^ 3 * (m.imm % 2 ^ 13)))))

-- the words as the record has them, and four that are worked out
abbrev pub given_of : CycleRecord → ℕ → ℕ → ℕ → ℕ → GivenWords
given_of r t2 alu flags fetch =
    record {
      rs1 = r.rs1_val;
      rs2 = r.rs2_val;
      load = r.ram_word;
      t1 = r.alu_a;
      t2 = t2;
      alu = alu;
      flags = flags;
      fetch = fetch;
    }

abbrev pub given_words : CycleRecord → RomRow → GivenWords
given_words r m = given_of r (second_operand r) (alu_of r) (flags_word r) (bus_word m)

-- ---- all 18

abbrev pub words_of : CycleRecord → GivenWords → DerivedWords → List ℕ
words_of r g w =
    g.rs1 ∷ g.rs2 ∷ r.rd_val ∷ g.load ∷ r.shift_out ∷ g.t1 ∷ g.t2 ∷ w.carry ∷ g.alu
    ∷ g.rs1 ∷ g.load ∷ g.rs2 ∷ g.flags ∷ g.fetch ∷ w.lanes ∷ 0 ∷ w.zeros ∷ w.branches ∷ []

abbrev pub row_words : CycleRecord → RomRow → List ℕ
row_words r m = words_of r (given_words r m) (derived_words (given_words r m))

-- column c of words of 64 columns
abbrev pub bit_in : List ℕ → ℕ → Bool
bit_in ws c = bit_at (slice_index ws (c / 64)) (c % 64)

-- a word's columns, from word `start` of a row on
abbrev pub bits_from : ℕ → ℕ → ℕ → ℕ
bits_from start w k = bit_word (bit_at w) (k - start)
