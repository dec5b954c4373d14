-- The 18 words of the made row have the bits that the table says, so that written by words the row is the table's.
-- Assumes nothing.
use Rattle.std.specs.Prelude.{◌≡◌, ℕ, ◌+◌, ◌*◌, ◌/◌, ◌%◌, ◌^◌, ◌<◌, Bool, true, false, List, [], ◌∷◌}
use Rattle.std.proofs.Math.Path.{refl, sym, ap, ap₂, fun_ext}
use Rattle.std.proofs.Common.{◌∙◌}
use native.Mathlib.Omega.{arith}
use Rattle.base.specs.Bits.{digit, val, bit_at}
use Rattle.base.specs.Lists.{from}
use Rattle.base.specs.Fields.{flags, pack}
use Rattle.base.specs.Blocks.{column_bit}
use Rattle.base.specs.Laws.Lists.{◌and◌}
use Rattle.base.specs.Laws.Cases.{xor-true, either, two-of-three}
use Rattle.base.specs.Laws.Values.{digit_lt}
use Rattle.base.specs.Laws.Bits.{bit-digit}
use Rattle.layout.specs.Columns.{FLAGS, FETCH, EQA, OPSYS}
use Rattle.layout.specs.Batch.{ROW-WORDS}
use Rattle.filler.specs.declared.bits.Flags.{Flags}
use Rattle.filler.specs.declared.derive.DerivedWords.{DerivedWords}
use Rattle.filler.specs.Derive.{carry_word, opcode_run, lane_word, compare_word, branch_word}
use Rattle.filler.specs.Words.{gate_flags, top_bits_of, derived_words}
use Rattle.filler.specs.Laws.Promise.{carry-bits, run-bits, opcode-field, hot-field, pair-field, gated-field, one_of_two}
use Rattle.witness.specs.declared.records.CycleRecord.{CycleRecord}
use Rattle.witness.specs.declared.records.RomRow.{RomRow}
use Rattle.witness.specs.Table.{subtracts, second_operand, alu_of, carry_into, all_to, zero_to, alike_to, lane, next_lane, op, f3, flag_group, bus_group, lane_group, branch_group, table}
use Rattle.witness.specs.Row.{row_bit, row_word, made_row}
use Rattle.witness.specs.RowWords.{low_flags, high_flags, flags_word, bus_word, given_words, row_words, bit_in}
use Rattle.witness.specs.Laws.Packed.{packed}
use Rattle.witness.specs.Laws.Groups.{Carries, CarriesEach, in_groups, alone-carried, bits-carried, none-carried, packed-carried, table-bit}
use Rattle.witness.specs.Laws.RowWords.{Words, second_lt, alu_lt}

digit-cut : (b : Bool) → digit b % 2 ≡ digit b
digit-cut true = refl
digit-cut false = refl

six-lt : (a b c d e f : Bool) → pack (flags (a ∷ b ∷ c ∷ d ∷ e ∷ f ∷ [])) < 64
six-lt a b c d e f = omega (arith, digit_lt a, digit_lt b, digit_lt c, digit_lt d, digit_lt e, digit_lt f)

above-flags : (low high x rest : ℕ) → low < 64 → high < 64 → x < 8
    → (low + 2 ^ 6 * (high + 2 ^ 10 * (x + 2 ^ 8 * rest))) / 2 ^ 16 % 2 ^ 3 ≡ x
above-flags low high x rest l h k = omega arith

word_lt : (low high x : ℕ) → low < 64 → high < 64 → x < 2 ^ 24 → low + 2 ^ 6 * (high + 2 ^ 10 * x) < 2 ^ 64
word_lt low high x l h k = omega arith

module _ (r : CycleRecord) (m : RomRow) where
  pub in-groups : in_groups 0 (table r m) ≡ true
  unfolding table
  in-groups = refl

  flags-packed : flags_word r ≡ packed FLAGS (flag_group r m)
  unfolding flags_word packed
  flags-packed = simp digit-cut (omega arith)

  bus-packed : bus_word m ≡ packed FETCH (bus_group r m)
  unfolding bus_word packed
  bus-packed = omega arith

  pub flags-carried : Carries FLAGS (flag_group r m) (flags_word r)
  flags-carried = packed-carried FLAGS (FLAGS + 64) (flag_group r m) (flags_word r) refl flags-packed

  bus-carried : Carries FETCH (bus_group r m) (bus_word m)
  bus-carried = packed-carried FETCH (FETCH + 64) (bus_group r m) (bus_word m) refl bus-packed

  -- ---- what the filler reads back from the given words

  flag : (i : ℕ) (b : Bool) → i < 64 → column_bit (flag_group r m) (FLAGS + i) ≡ bit_at (digit b) 0 → bit_at (flags_word r) i ≡ b
  flag i b l e = flags-carried i l ∙ e ∙ bit-digit b

  abbrev gates : Flags
  gates = record { write = r.we; load = r.is_load; byte = r.ld_byte; half = r.ld_half; whole = r.ld_word }

  gates-read : gate_flags (flags_word r) ≡ gates
  unfolding column_bit
  gates-read =
      cc (
        flag 1 r.we (omega arith) refl,
        flag 2 r.is_load (omega arith) refl,
        flag 8 r.ld_byte (omega arith) refl,
        flag 9 r.ld_half (omega arith) refl,
        flag 10 r.ld_word (omega arith) refl,
      )

  subtract-read : bit_at (flags_word r) 0 ≡ subtracts r
  unfolding column_bit
  subtract-read = flag 0 (subtracts r) (omega arith) refl

  pub halt-read : bit_at (flags_word r) 5 ≡ r.halted_latch
  unfolding column_bit
  halt-read = flag 5 r.halted_latch (omega arith) refl

  pub taken-read : bit_at (flags_word r) 11 ≡ r.branch_taken
  unfolding column_bit
  taken-read = flag 11 r.branch_taken (omega arith) refl

  low-lt : pack (flags (low_flags r)) < 64
  low-lt = six-lt (subtracts r) r.we r.is_load r.is_store r.is_arith r.halted_latch

  high_lt : pack (flags (high_flags r)) < 64
  high_lt = six-lt r.is_shift r.is_logic r.ld_byte r.ld_half r.ld_word r.branch_taken

  pub flags-lt : flags_word r < 2 ^ 64
  unfolding flags_word
  flags-lt = word_lt (pack (flags (low_flags r))) (pack (flags (high_flags r))) _ low-lt high_lt (omega arith)

  lane-read : flags_word r / 2 ^ 16 % 2 ^ 3 ≡ lane r m
  unfolding flags_word
  lane-read =
      above-flags (pack (flags (low_flags r))) (pack (flags (high_flags r))) (r.byte_offset % 2 ^ 3) _ low-lt high_lt (omega arith)

  op-read : bus_word m % 2 ^ 7 ≡ op r m
  unfolding bus_word
  op-read = omega arith

  f3-read : bus_word m / 2 ^ 25 % 2 ^ 3 ≡ f3 r m
  unfolding bus_word
  f3-read = omega arith

  -- ---- the derived words

  abbrev derived_of : DerivedWords
  derived_of = derived_words (given_words r m)

  lanes-are : derived_of.lanes ≡ packed EQA (lane_group r m)
  unfolding lane_word packed
  lanes-are =
      let x = lane r m in
      let y = next_lane r m in
      let x_lt : x < 8 = omega arith in
      let y-lt : y < 8 = omega arith in
      let eqa = hot-field x x_lt in
      let pa = pair-field x x_lt in
      let eqb = hot-field y y-lt in
      let pb = pair-field y y-lt in
      let ca = gated-field x x_lt r.ld_byte in
      let ch = gated-field x x_lt r.ld_half in
      let ch2 = gated-field y y-lt r.ld_half in
      ap₂ lane_word lane-read gates-read ∙ simp (digit-cut, eqa, pa, eqb, pb, ca, ch, ch2) (omega arith)

  -- ---- of a record whose words are words

  module _ (fit : Words r) where
    carry-is : (i : ℕ) → i < 64 → bit_at derived_of.carry i ≡ carry_into r i
    unfolding carry_into
    carry-is i l =
        ap (λ (b : Bool). bit_at (carry_word r.alu_a (second_operand r) (digit b)) i) subtract-read
        ∙ carry-bits r.alu_a (second_operand r) (carry_into r)
        (λ j k. two-of-three (bit_at r.alu_a j) (bit_at (second_operand r) j) (carry_into r j)) fit.first (second_lt r fit) i l

    zeros-are : (i : ℕ) → i < 64 → bit_at derived_of.zeros i ≡ zero_to r i
    unfolding all_to
    zeros-are i l = run-bits (alu_of r) (alu_lt r fit) 63 (omega arith) _ (zero_to r) refl (λ i l. refl) (λ i l. refl) i (omega arith)

    chain-field : (k : ℕ) → k < 2 ^ 7 → val (alike_to (op r m) k) 7 % 2 ^ 7 ≡ opcode_run (op r m) k
    unfolding all_to
    chain-field k l = opcode-field (op r m) k (omega arith) l (alike_to (op r m) k) (refl, λ i h. refl)

    branches-are : derived_of.branches ≡ packed OPSYS (branch_group r m)
    unfolding branch_word compare_word packed
    branches-are =
        let tops = top_bits_of (given_words r m) derived_of.carry derived_of.zeros in
        let x = f3 r m in
        let x_lt : x < 8 = omega arith in
        let opsys = chain-field 0x73 (omega arith) in
        let opbr = chain-field 0x63 (omega arith) in
        let eqfm = pair-field x x_lt in
        let eqf = hot-field x x_lt in
        let ceq = one_of_two x x_lt 0 1 refl in
        let clt = one_of_two x x_lt 4 5 refl in
        let clu = one_of_two x x_lt 6 7 refl in
        ap (λ (f : Flags). branch_word (bus_word m % 2 ^ 7) (bus_word m / 2 ^ 25 % 2 ^ 3) tops f) gates-read
        ∙ rw (op-read, f3-read, carry-is 63 (omega arith), zeros-are 63 (omega arith))
        (simp (digit-cut, opsys, opbr, eqfm, eqf, xor-true, either, ceq, clt, clu) (omega arith))

    pub carries_each : CarriesEach 0 (table r m) (row_words r m)
    unfolding table
    carries_each =
        alone-carried _ _
        and alone-carried _ _
        and alone-carried _ _
        and alone-carried _ _
        and alone-carried _ _
        and alone-carried _ _
        and alone-carried _ _
        and bits-carried _ _ _ carry-is
        and alone-carried _ _
        and alone-carried _ _
        and alone-carried _ _
        and alone-carried _ _
        and flags-carried
        and bus-carried
        and packed-carried EQA (EQA + 64) (lane_group r m) _ refl lanes-are
        and none-carried _
        and bits-carried _ _ _ zeros-are
        and packed-carried OPSYS (OPSYS + 64) (branch_group r m) _ refl branches-are
        and tt

    pub words-bits : (c : ℕ) → bit_in (row_words r m) c ≡ row_bit r m c
    unfolding row_bit
    words-bits c = sym (table-bit (table r m) (row_words r m) in-groups carries_each c)

    -- written by words, the row is the table's
    pub made-by-words : (public : List ℕ) → from 0 ROW-WORDS (row_word (bit_in (row_words r m)) public) ≡ made_row r m public
    unfolding made_row
    made-by-words public = ap (λ (bit : ℕ → Bool). from 0 ROW-WORDS (row_word bit public)) (fun_ext words-bits)
