-- What is said of a merged batch, from what is said of its two parts of cpi cycles each: the verdict of the plain check, and the answer of
-- the bit test.
-- Assumes nothing.
use Rattle.std.specs.Prelude.{cond, ℕ, ◌+◌, ◌*◌, leb, Err, Some, None, Ok, Option}
use Rattle.layout.specs.Batch.{column_at}
use Rattle.circuit.specs.declared.Relation.{Relation}
use Rattle.circuit.specs.declared.Relation.TheVariants.{Bin, Fld}
use Rattle.circuit.specs.Batched.{batch_row}
use Rattle.verdict.specs.declared.Verdict.{Verdict}
use Rattle.verdict.specs.declared.Verdict.TheVariants.{Accepted, Failed}
use Rattle.verdict.specs.Counts.{counts}
use Rattle.layout.specs.Questions.{Answer}
use Rattle.verdict.specs.Bits.{not_bit}
use Rattle.verdict.specs.declared.bits.NotBit.{NotBit}

-- ---- the plain check

-- Tested are all bin of the first, all bin of the second, all fld of the first, all fld of the second, as far as the first that does not
-- hold. The second's rows stand cpi cycles on: 512 · cpi in bin, and 32 · cpi in fld. Where a batch has passed bin it has counted all its bin
-- rows, whatever its verdict
abbrev pub joined : ℕ → Verdict → Verdict → Verdict
joined cpi (Failed Bin row n) w = Failed Bin row n
joined cpi (Failed Fld row n) (Failed Bin row₂ m) = Failed Bin (512 * cpi + row₂) (counts (n.bin + m.bin) 0)
joined cpi (Failed Fld row n) (Failed Fld row₂ m) = Failed Fld row (counts (n.bin + m.bin) n.fld)
joined cpi (Failed Fld row n) (Accepted m) = Failed Fld row (counts (n.bin + m.bin) n.fld)
joined cpi (Accepted n) (Failed Bin row₂ m) = Failed Bin (512 * cpi + row₂) (counts (n.bin + m.bin) 0)
joined cpi (Accepted n) (Failed Fld row₂ m) = Failed Fld (32 * cpi + row₂) (counts (n.bin + m.bin) (n.fld + m.fld))
joined cpi (Accepted n) (Accepted m) = Accepted (counts (n.bin + m.bin) (n.fld + m.fld))

-- of the check as it is called: a call that is refused for one is refused for the other, too, with the same number and place
abbrev pub joined_answer : ℕ → Answer Verdict → Answer Verdict → Answer Verdict
joined_answer cpi (Err r) w = Err r
joined_answer cpi (Ok v) (Err r) = Err r
joined_answer cpi (Ok v) (Ok w) = Ok (joined cpi v w)

-- ---- the failing row alone, without its counts

pub data Failure : Type 0 where
  none : Failure
  at : Relation → ℕ → Failure

abbrev pub failure_of : Verdict → Failure
failure_of (Accepted n) = none
failure_of (Failed rel row n) = at rel row

-- the second batch's, as the larger batch numbers it: cpi cycles on
abbrev pub moved : ℕ → Failure → Failure
moved cpi none = none
moved cpi (at rel row) = at rel (batch_row rel cpi row)

-- any bin before any fld, then the first batch before the second
abbrev pub earlier : Failure → Failure → Failure
earlier none w = w
earlier (at Bin row) w = at Bin row
earlier (at Fld row) (at Bin row₂) = at Bin row₂
earlier (at Fld row) (at Fld row₂) = at Fld row
earlier (at Fld row) none = at Fld row

-- ---- the bit test

-- column c of cycle d of the first batch, and of the second, as the larger batch has it
abbrev pub in_first : ℕ → ℕ → ℕ → Answer (Option NotBit)
in_first cpi c d = not_bit (column_at (2 * cpi) c d) c d

abbrev pub in_second : ℕ → ℕ → ℕ → Answer (Option NotBit)
in_second cpi c d = not_bit (column_at (2 * cpi) c (cpi + d)) c (cpi + d)

-- all bits where both are; else the smaller place by column, and in one column the first batch's
abbrev pub joined_bits : ℕ → Answer (Option NotBit) → Answer (Option NotBit) → Answer (Option NotBit)
joined_bits cpi (Err r) w = Err r
joined_bits cpi (Ok None) (Err r) = Err r
joined_bits cpi (Ok None) (Ok None) = Ok None
joined_bits cpi (Ok None) (Ok (Some b)) = in_second cpi b.column b.cycle
joined_bits cpi (Ok (Some a)) (Err r) = Err r
joined_bits cpi (Ok (Some a)) (Ok None) = in_first cpi a.column a.cycle
joined_bits cpi (Ok (Some a)) (Ok (Some b)) =
    cond (leb a.column b.column) (in_first cpi a.column a.cycle) (in_second cpi b.column b.cycle)
