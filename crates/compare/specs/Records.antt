-- Records and ROM rows as words, for a caller in another language: a field a word, in the order of the struct. A flag is set where its
-- word is odd; a narrow field takes its word's low bits.
-- Assumes nothing.
use Rattle.std.specs.Prelude.{Bool, cond, List, ℕ, ◌%◌, ◌^◌, eqb, ltb, length, get_or}
use Rattle.witness.specs.declared.records.CycleRecord.{CycleRecord}
use Rattle.witness.specs.declared.records.RomRow.{RomRow}
use Rattle.witness.specs.declared.records.VirtualKind.{VirtualKind}
use Rattle.witness.specs.declared.records.VirtualKind.TheVariants.{Alu, ShiftStage, Load, Store, Branch, Upper, Jump, System}
use Rattle.witness.specs.declared.branch.BranchReading.{BranchReading}
use Rattle.witness.specs.declared.branch.BranchReading.TheVariants.{NoBranch, Taken, NotTaken, Reserved}
use Rattle.witness.specs.Row.{row_called}
use Rattle.compare.specs.Replies.{Reply, reply, called_reply}

abbrev flag : List ℕ → ℕ → Bool
flag ws i = eqb (get_or ws i 0 % 2) 1

abbrev field : List ℕ → ℕ → ℕ
field ws i = get_or ws i 0

abbrev pub record_of : List ℕ → CycleRecord
record_of ws =
    record {
      micro_pc = field ws 0;
      rs1_val = field ws 1;
      rs2_val = field ws 2;
      rd_val = field ws 3;
      rd_old = field ws 4;
      we = flag ws 5;
      rd = field ws 6;
      ram_addr = field ws 7;
      ram_word = field ws 8;
      ram_old = field ws 9;
      ram_new = field ws 10;
      byte_offset = field ws 11 % 2 ^ 8;
      store_width = field ws 12 % 2 ^ 8;
      store_src = field ws 13;
      branch_taken = flag ws 14;
      next_pc = field ws 15;
      alu_a = field ws 16;
      alu_b = field ws 17;
      alu_out = field ws 18;
      shift_out = field ws 19;
      is_arith = flag ws 20;
      is_logic = flag ws 21;
      is_sub_op = flag ws 22;
      is_shift = flag ws 23;
      is_load = flag ws 24;
      is_store = flag ws 25;
      ld_byte = flag ws 26;
      ld_half = flag ws 27;
      ld_word = flag ws 28;
      halted_latch = flag ws 29;
    }

-- in the order of the enum, from 0; the remainder by 8 counts
abbrev pub kind_of : ℕ → ℕ → VirtualKind
kind_of kind stage =
    cond (eqb (kind % 8) 0) Alu
    (cond (eqb (kind % 8) 1) (ShiftStage stage)
    (cond (eqb (kind % 8) 2) Load
    (cond (eqb (kind % 8) 3) Store
    (cond (eqb (kind % 8) 4) Branch
    (cond (eqb (kind % 8) 5) Upper
    (cond (eqb (kind % 8) 6) Jump
    System))))))

-- kind and stage, then the other fields
abbrev pub rom_row_of : List ℕ → RomRow
rom_row_of ws =
    record {
      kind = kind_of (field ws 0) (field ws 1);
      rd = field ws 2;
      rs1 = field ws 3;
      rs2 = field ws 4;
      funct3 = field ws 5 % 2 ^ 32;
      imm = field ws 6;
      raw = field ws 7 % 2 ^ 32;
    }

-- with fewer words than a record or a ROM row has, nothing is asked, and the answer is 2^63
abbrev pub row_reply : List ℕ → List ℕ → List ℕ → List ℕ → Reply
row_reply cycle rom public row =
    cond (ltb (length cycle) 30) (reply (2 ^ 63) row)
    (cond (ltb (length rom) 8) (reply (2 ^ 63) row)
    (called_reply (row_called (record_of cycle) (rom_row_of rom) public row)))

abbrev pub reading_number : BranchReading → ℕ
reading_number NoBranch = 0
reading_number Taken = 1
reading_number NotTaken = 2
reading_number Reserved = 3
