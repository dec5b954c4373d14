-- What each way out puts is what is printed.
-- Assumes nothing.
use Rattle.std.specs.Prelude.{◌≡◌, List, ℕ, Err, Ok}
use Rattle.std.proofs.Common.{sym, ◌∙◌}
use Rattle.std.proofs.Math.Path.{ap}
use Rattle.layout.specs.declared.questions.Refusal.{Refusal}
use Rattle.circuit.specs.declared.Relation.{Relation}
use Rattle.verdict.specs.declared.Counts.{Counts}
use Rattle.verdict.specs.declared.Verdict.{Verdict}
use Rattle.verdict.specs.declared.Verdict.TheVariants.{Accepted, Failed}
use Rattle.page.specs.Line.{verdict_line, answer_line}
use Rattle.cellprism.specs.Bytes.{row_of}
use Rattle.cellprism.specs.Answer.{row_checked}
use Rattle.benchpage.specs.Printed.{with_line_ends, pages_of, answer_printed, printed}
use Rattle.benchpage.specs.Laws.Named.{Named, named}
use Rattle.layout.specs.Questions.{Answer}

module _ (bytes : List ℕ) (a : Answer Verdict) (e : a ≡ row_checked bytes) where
  pub refused-printed : (r : Refusal) → a ≡ Err r → answer_line a ≡ printed bytes
  unfolding printed
  refused-printed r h = ap answer_line h ∙ ap (answer_printed (row_of bytes)) (sym h ∙ e)

  pub accepted-printed : (v : Verdict) (tested : Counts) → a ≡ Ok v → v ≡ Accepted tested → verdict_line v ≡ printed bytes
  unfolding printed
  accepted-printed v tested h k = ap verdict_line k ∙ ap (answer_printed (row_of bytes)) (sym (h ∙ ap Ok k) ∙ e)

  pub failed-printed : (v : Verdict) (rel : Relation) (n : ℕ) (tested : Counts) → a ≡ Ok v → v ≡ Failed rel n tested
      → with_line_ends (pages_of (row_of bytes) rel n) ≡ printed bytes
  unfolding printed
  failed-printed v rel n tested h k = ap (answer_printed (row_of bytes)) (sym (h ∙ ap Ok k) ∙ e)

  pub failed-named : (v : Verdict) (rel : Relation) (n : ℕ) (tested : Counts) → a ≡ Ok v → v ≡ Failed rel n tested → Named bytes rel n
  failed-named v rel n tested h k = named bytes rel n tested (sym e ∙ h ∙ ap Ok k)
