-- The line of an answer has at most 86 bytes.
-- Assumes nothing.
use Rattle.std.specs.Prelude.{◌≡◌, refl, ◌++◌, ◌≤◌, length, Err, Ok}
use Rattle.std.proofs.Common.{arith, length-append}
use Rattle.base.specs.Text.{ascii}
use Rattle.text.specs.Digits.{decimal}
use Rattle.text.specs.Laws.Decimal.{decimal-most}
use Rattle.circuit.specs.declared.Relation.{Relation}
use Rattle.circuit.specs.declared.Relation.TheVariants.{Bin, Fld}
use Rattle.verdict.specs.declared.Counts.{Counts}
use Rattle.verdict.specs.declared.Verdict.{Verdict}
use Rattle.verdict.specs.declared.Verdict.TheVariants.{Accepted, Failed}
use Rattle.page.specs.Line.{failed_text, counts_text, verdict_line, answer_line}
use Rattle.layout.specs.Questions.{number_of, Answer}

counts-short : (n : Counts) → length (counts_text n) ≤ 50
counts-short n =
    omega (
      arith,
      length-append (ascii "bin=" ++ decimal n.bin ++ ascii " fld=" ++ decimal n.fld) (ascii "\n"),
      length-append (ascii "bin=" ++ decimal n.bin ++ ascii " fld=") (decimal n.fld),
      length-append (ascii "bin=" ++ decimal n.bin) (ascii " fld="),
      length-append (ascii "bin=") (decimal n.bin),
      decimal-most 20 n.bin,
      decimal-most 20 n.fld,
    )

failed-length : (rel : Relation) → length (failed_text rel) ≡ 15
failed-length Bin = refl
failed-length Fld = refl

pub verdict-short : (v : Verdict) → length (verdict_line v) ≤ 86
verdict-short (Accepted n) = omega (arith, length-append (ascii "accepted ") (counts_text n), counts-short n)
verdict-short (Failed rel row n) =
    omega (
      arith,
      length-append (failed_text rel ++ decimal row ++ ascii " ") (counts_text n),
      length-append (failed_text rel ++ decimal row) (ascii " "),
      length-append (failed_text rel) (decimal row),
      failed-length rel,
      decimal-most 20 row,
      counts-short n,
    )

pub line-short : (a : Answer Verdict) → length (answer_line a) ≤ 86
line-short (Ok v) = verdict-short v
line-short (Err r) =
    omega (
      arith,
      length-append (ascii "refused " ++ decimal (number_of r.question)) (ascii "\n"),
      length-append (ascii "refused ") (decimal (number_of r.question)),
      decimal-most 20 (number_of r.question),
    )
