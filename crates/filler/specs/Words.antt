-- What the filler writes: a cycle's given words, the derived words that it works out of them, and the blocks of columns where these go.
-- Assumes nothing.
use Rattle.std.specs.Prelude.{ℕ, zero, suc, ◌-◌, ◌/◌, ◌%◌, ◌^◌, List, [], ◌∷◌, ◌++◌}
use Rattle.base.specs.Bits.{digit, word, bit_at}
use Rattle.base.specs.Blocks.{Block, block}
use Rattle.layout.specs.Columns.{OP-BITS, FUNCT3-BITS, RS1, RS2, LOAD-VAL, T1, T2, CARRY-OFF, ALU, SHIFT-SRC, STORE-OLD, STORE-SRC, FLAGS, OFF, SUB, WE, IS-LOAD, LD-BYTE, LD-HALF, LD-WORD, HALT, TAKEN, FETCH, FETCH-FUNCT3, EQA, ZERO, OPSYS}
use Rattle.verdict.specs.Row.{bits_of}
use Rattle.filler.specs.declared.bits.Flags.{Flags}
use Rattle.filler.specs.declared.derive.TopBits.{TopBits}
use Rattle.filler.specs.declared.derive.GivenWords.{GivenWords}
use Rattle.filler.specs.declared.derive.DerivedWords.{DerivedWords}
use Rattle.filler.specs.Derive.{carry_word, run_word, lane_word, branch_word, taken_bit}
use Rattle.filler.specs.Blocks.{put_blocks}

-- the word of 64 columns from o on, of cycle d
unfoldable pub word_at : ℕ → List ℕ → ℕ → ℕ → ℕ
word_at cpi batch d o = word (bits_of cpi batch d) o 64

abbrev pub given_words : ℕ → List ℕ → ℕ → GivenWords
given_words cpi batch d =
    record {
      rs1 = word_at cpi batch d RS1;
      rs2 = word_at cpi batch d RS2;
      load = word_at cpi batch d LOAD-VAL;
      t1 = word_at cpi batch d T1;
      t2 = word_at cpi batch d T2;
      alu = word_at cpi batch d ALU;
      flags = word_at cpi batch d FLAGS;
      fetch = word_at cpi batch d FETCH;
    }

-- of the word of columns 768 on: bit i is column 768 + i
abbrev pub gate_flags : ℕ → Flags
gate_flags w =
    record {
      write = bit_at w (WE - FLAGS);
      load = bit_at w (IS-LOAD - FLAGS);
      byte = bit_at w (LD-BYTE - FLAGS);
      half = bit_at w (LD-HALF - FLAGS);
      whole = bit_at w (LD-WORD - FLAGS);
    }

abbrev pub top_bits_of : GivenWords → ℕ → ℕ → TopBits
top_bits_of g carry zeros =
    record {
      rs1 = bit_at g.rs1 63;
      rs2 = bit_at g.rs2 63;
      alu = bit_at g.alu 63;
      t1 = bit_at g.t1 63;
      t2 = bit_at g.t2 63;
      carry = bit_at carry 63;
      zero = bit_at zeros 63;
    }

abbrev pub lanes_of : ℕ → ℕ
lanes_of w = lane_word (w / 2 ^ (OFF - FLAGS) % 2 ^ 3) (gate_flags w)

abbrev pub branches_of : GivenWords → ℕ → ℕ → ℕ
branches_of g carry zeros =
    branch_word (g.fetch % 2 ^ OP-BITS) (g.fetch / 2 ^ (FETCH-FUNCT3 - FETCH) % 2 ^ FUNCT3-BITS)
    (top_bits_of g carry zeros) (gate_flags g.flags)

abbrev pub carry_of : GivenWords → ℕ
carry_of g = carry_word g.t1 g.t2 (digit (bit_at g.flags (SUB - FLAGS)))

abbrev pub derived_words : GivenWords → DerivedWords
derived_words g =
    record {
      carry = carry_of g;
      lanes = lanes_of g.flags;
      zeros = run_word g.alu;
      branches = branches_of g (carry_of g) (run_word g.alu);
    }

-- ---- the blocks: all derived columns, in order

abbrev pub low_blocks : GivenWords → DerivedWords → List Block
low_blocks g w =
    block CARRY-OFF 64 w.carry ∷ block SHIFT-SRC 64 g.rs1 ∷ block STORE-OLD 64 g.load ∷ block STORE-SRC 64 g.rs2 ∷ []

-- OPSYS + 6 is where the opcode's first chain ends
abbrev pub flag_blocks : DerivedWords → List Block
flag_blocks w = block HALT 1 (w.branches / 2 ^ 6) ∷ block TAKEN 1 (digit (taken_bit w.branches)) ∷ []

abbrev pub high_blocks : DerivedWords → List Block
high_blocks w = block EQA 58 w.lanes ∷ block ZERO 64 w.zeros ∷ block OPSYS 39 w.branches ∷ []

abbrev pub blocks : GivenWords → DerivedWords → List Block
blocks g w = low_blocks g w ++ (flag_blocks w ++ high_blocks w)

-- one cycle filled, and cycles 0 .. n - 1
unfoldable pub fill_cycle : ℕ → ℕ → List ℕ → List ℕ
fill_cycle cpi d batch = put_blocks cpi d (blocks (given_words cpi batch d) (derived_words (given_words cpi batch d))) batch

unfoldable pub fill_cycles : ℕ → ℕ → List ℕ → List ℕ
fill_cycles cpi zero batch = batch
fill_cycles cpi (suc n) batch = fill_cycle cpi n (fill_cycles cpi n batch)
