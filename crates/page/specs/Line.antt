-- The line that an answer is printed as (document 01, "Makers and readers"; document 02, request 7), in bytes of ASCII.
-- Assumes nothing.
use Rattle.std.specs.Prelude.{List, ◌++◌, ℕ, Err, Ok}
use Rattle.base.specs.Text.{ascii}
use Rattle.text.specs.Digits.{decimal}
use Rattle.circuit.specs.declared.Relation.{Relation}
use Rattle.verdict.specs.declared.Counts.{Counts}
use Rattle.verdict.specs.declared.Verdict.{Verdict}
use Rattle.verdict.specs.declared.Verdict.TheVariants.{Accepted, Failed}
use Rattle.page.specs.Lines.{relation_text}
use Rattle.layout.specs.Questions.{number_of, Answer}

abbrev pub failed_text : Relation → List ℕ
failed_text relation = ascii "failed " ++ relation_text relation ++ ascii " row="

abbrev pub counts_text : Counts → List ℕ
counts_text n = ascii "bin=" ++ decimal n.bin ++ ascii " fld=" ++ decimal n.fld ++ ascii "\n"

abbrev pub verdict_line : Verdict → List ℕ
verdict_line (Accepted n) = ascii "accepted " ++ counts_text n
verdict_line (Failed relation row n) = failed_text relation ++ decimal row ++ ascii " " ++ counts_text n

abbrev pub answer_line : Answer Verdict → List ℕ
answer_line (Ok v) = verdict_line v
answer_line (Err r) = ascii "refused " ++ decimal (number_of r.question) ++ ascii "\n"
