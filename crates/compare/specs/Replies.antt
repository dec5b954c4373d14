-- Answers of the check, the filler, the conditions and packing as numbers, with what a lent slice holds afterwards where one is lent.
-- Assumes nothing.
use Rattle.std.specs.Prelude.{cond, List, [], ◌∷◌, ◌++◌, ℕ, ◌+◌, ◌*◌, ◌%◌, ◌^◌, eqb, ltb, length, drop, Bool, Err, None, Ok, Option, false, true, Some}
use Rattle.field.specs.Gf.{low, high}
use Rattle.layout.specs.Questions.{Called, Answer, Asked}
use Rattle.circuit.specs.declared.Relation.{Relation}
use Rattle.circuit.specs.declared.Relation.TheVariants.{Bin, Fld}
use Rattle.strict.specs.declared.Known.{Known}
use Rattle.strict.specs.declared.Known.TheVariants.{House, Strict}
use Rattle.verdict.specs.declared.Counts.{Counts}
use Rattle.verdict.specs.declared.Verdict.{Verdict}
use Rattle.verdict.specs.declared.Verdict.TheVariants.{Accepted, Failed}
use Rattle.verdict.specs.declared.Sums.{Sums}
use Rattle.verdict.specs.Check.{Checked}
use Rattle.packed.specs.Packed.{NamedCalled}
use Rattle.judge.specs.FillCheck.{FillChecked}
use Rattle.compare.specs.Numbers.{refused_at, by_relation}
use Rattle.verdict.specs.declared.bits.NotBit.{NotBit}

-- the counts: 2^40 times that of fld, and 2^20 times that of bin. Of each 20 bits are kept, and as many of a batch row, which is more than
-- a batch has
abbrev pub counts_number : Counts → ℕ
counts_number n = n.fld % 2 ^ 20 * 2 ^ 40 + n.bin % 2 ^ 20 * 2 ^ 20

-- accepted: the counts; failed: 2^62, and 2^61 for fld, the counts, and the batch row
abbrev pub verdict_number : Verdict → ℕ
verdict_number (Accepted n) = counts_number n
verdict_number (Failed rel row n) = by_relation rel (2 ^ 62) (2 ^ 62 + 2 ^ 61) + counts_number n + row % 2 ^ 20

abbrev pub check_number : Answer Verdict → ℕ
check_number (Ok v) = verdict_number v
check_number (Err r) = refused_at r

-- a number, and what the lent slice holds afterwards
pub record Reply : Type 0 where
  pub answer : ℕ
  pub words : List ℕ

abbrev pub reply : ℕ → List ℕ → Reply
reply n ws = record { answer = n; words = ws }

abbrev pub check_reply : Checked → Reply
check_reply c = reply (check_number c.answer) c.scratch

abbrev pub fill_check_reply : FillChecked → Reply
fill_check_reply c = reply (check_number c.answer) c.batch

-- 0 is the house listing, any other number the strict one
abbrev pub chosen_listing : ℕ → Known
chosen_listing n = cond (eqb n 0) House Strict

-- 0 is bin, any other number fld
abbrev pub chosen_relation : ℕ → Relation
chosen_relation n = cond (eqb n 0) Bin Fld

-- six words: A, B and C, of each the low word first
abbrev pub sum_words : Sums → List ℕ
sum_words s = low s.a ∷ high s.a ∷ low s.b ∷ high s.b ∷ low s.c ∷ high s.c ∷ []

-- sums are written over the first six words, with the answer 0; a refusal writes nothing
abbrev pub sums_reply : Answer Sums → List ℕ → Reply
sums_reply (Ok s) out = reply 0 (sum_words s ++ drop 6 out)
sums_reply (Err r) out = reply (refused_at r) out

-- with no room for six words nothing is asked, and the answer is 2^63
abbrev pub apply_reply : Answer Sums → List ℕ → Reply
apply_reply a out = cond (ltb (length out) 6) (reply (2 ^ 63) out) (sums_reply a out)

-- all bits: 0; else 2^62, 2^48 times the cycle, 2^32 times the column, and the batch column
abbrev pub found_number : Option NotBit → ℕ
found_number None = 0
found_number (Some b) = 2 ^ 62 + b.cycle * 2 ^ 48 + b.column * 2 ^ 32 + b.at

abbrev pub bit_number : Answer (Option NotBit) → ℕ
bit_number (Ok found) = found_number found
bit_number (Err r) = refused_at r

-- ---- the filler, the conditions, and packed words

-- yes: 0
abbrev pub asked_number : Asked → ℕ
asked_number (Ok _) = 0
asked_number (Err r) = refused_at r

abbrev pub packing_number : Answer Bool → ℕ
packing_number (Ok true) = 0
packing_number (Ok false) = 1
packing_number (Err r) = refused_at r

abbrev pub pack_reply : NamedCalled → Reply
pack_reply c = reply (packing_number c.answer) c.out

abbrev pub called_reply : Called → Reply
called_reply c = reply (asked_number c.answer) c.batch

-- all met: 0
abbrev pub step_number : Answer (Option ℕ) → ℕ
step_number (Ok None) = 0
step_number (Ok (Some k)) = k
step_number (Err r) = refused_at r
