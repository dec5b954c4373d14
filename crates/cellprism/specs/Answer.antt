-- The check of a row over the C boundary, and its answer as one 32-bit word (document 01, "Makers and readers").
-- Assumes nothing.
use Rattle.std.specs.Prelude.{cond, List, ℕ, ◌+◌, ◌*◌, ◌%◌, ◌^◌, eqb, length, Err, Ok}
use Rattle.layout.specs.Questions.{no, number_of, Answer}
use Rattle.circuit.specs.Words.{flag_word}
use Rattle.verdict.specs.declared.Verdict.{Verdict}
use Rattle.verdict.specs.declared.Verdict.TheVariants.{Accepted, Failed}
use Rattle.strict.specs.declared.Known.TheVariants.{House}
use Rattle.verdict.specs.Counts.{rows}
use Rattle.verdict.specs.Check.{known_checked}
use Rattle.cellprism.specs.Bytes.{row_of}
use Rattle.layout.specs.declared.questions.Question.TheVariants.{BatchLength}

-- question 2 outside: 65,536 bytes, which are the 8,192 words of a batch of one cycle
unfoldable pub row_checked : List ℕ → Answer Verdict
row_checked bytes = cond (eqb (length bytes) 65536) (known_checked House 1 (row_of bytes)) (Err (no BatchLength 0))

-- kind 0, accepted: `rows` below, both counts together; kind 1, failed: bit 29 the relation as in a mark, bits 8..0 the row. (The remainders are those of any
-- verdict: of a row's they cut nothing off, by specs/Exact.antt.)
abbrev pub verdict_word : Verdict → ℕ
verdict_word (Accepted n) = rows n % 2 ^ 30
verdict_word (Failed relation row n) = 2 ^ 30 + flag_word relation * 2 ^ 29 + row % 2 ^ 9

-- the kind in the top two bits; kind 2, refused: the number below
abbrev pub answer_word : Answer Verdict → ℕ
answer_word (Ok v) = verdict_word v
answer_word (Err r) = 2 * 2 ^ 30 + number_of r.question
