-- The 32-bit answer loses nothing but the counts of a failure: of one cycle over the house listing an accepted verdict has 483 of bin and
-- 31 of fld, so that their sum tells both; a failure's sum is at most 514 and its row below 512; and there is but one refusal, to question 2.
-- Assumes nothing.
use Rattle.std.specs.Prelude.{◌≡◌, ℕ, ◌≤◌, ◌<◌, Err, Ok}
use Rattle.layout.specs.Questions.{no, Answer}
use Rattle.circuit.specs.Batched.{batch_row}
use Rattle.verdict.specs.declared.Verdict.{Verdict}
use Rattle.verdict.specs.declared.Verdict.TheVariants.{Accepted, Failed}
use Rattle.verdict.specs.Counts.{counts, rows}
use Rattle.verdict.specs.Check.{Constraint}
use Rattle.layout.specs.declared.questions.Question.TheVariants.{BatchLength}

abbrev pub Small : Verdict → Type 0
Small (Accepted n) = n ≡ counts 483 31
Small (Failed relation row n) = (row < 512) × (rows n ≤ 514)

abbrev pub Exact : Answer Verdict → Type 0
Exact (Ok v) = Small v
Exact (Err r) = r ≡ no BatchLength 0

abbrev pub batch_row_of : Constraint → ℕ
batch_row_of k = batch_row k.row.relation k.cycle k.row.number
