-- The page asked for with a verdict's row and cycle shows the row that fails.
-- Assumes nothing.
use Rattle.std.specs.Prelude.{◌≡◌, true, List, ◌∷◌, ℕ, ◌<◌, ◌^◌, length, get_or, Err, Ok}
use Rattle.std.proofs.Math.Path.{refl, sym, ap, ap₂}
use Rattle.std.proofs.Common.{◌∙◌, arith, lt-ltb, eq-eqb}
use Rattle.base.specs.Laws.Tests.{passed}
use Rattle.layout.specs.Batch.{allowed, batch_words, batch_asked, scratch_fits}
use Rattle.layout.specs.Questions.{no, Answer, Asked}
use Rattle.layout.specs.Laws.Questions.{answered, both_yes, batch-yes, yes-batch, if_yes_lem}
use Rattle.circuit.specs.declared.Relation.{Relation}
use Rattle.circuit.specs.Rows.{Sides}
use Rattle.circuit.specs.Valid.{validated}
use Rattle.circuit.specs.Found.{found, place_at}
use Rattle.circuit.specs.Reader.{row_of, row_read}
use Rattle.verdict.specs.declared.Counts.{Counts}
use Rattle.verdict.specs.declared.Verdict.{Verdict}
use Rattle.verdict.specs.declared.Verdict.TheVariants.{Accepted, Failed}
use Rattle.verdict.specs.Counts.{none}
use Rattle.verdict.specs.Check.{judged, asked, after, checked}
use Rattle.verdict.specs.Laws.Shown.{Names, failed-names}
use Rattle.page.specs.Lines.{head_line, term_lines, row_lines}
use Rattle.page.specs.Pages.{laid, not_laid, page_bytes, pages, line_count, bytes_at, bytes_for, laid_at, laid_out}
use Rattle.page.specs.Paper.{RowShown}
use Rattle.layout.specs.declared.questions.Question.TheVariants.{ScratchLength}

module _ (cpi : ℕ) (listing batch : List ℕ) (fit : (i : ℕ) → get_or listing i 0 < 2 ^ 32) where
  judged-shown : {rel : Relation} {b : ℕ} {n : Counts} → allowed cpi ≡ true → length batch ≡ batch_words cpi → validated listing ≡ Ok tt
      → judged cpi listing batch ≡ Failed rel b n → RowShown cpi listing batch rel b
  unfolding bytes_for laid_out laid_at row_lines
  judged-shown {rel} {b} size words valid e =
      record {
        cycle = row.cycle;
        number = row.number;
        sides = row.sides;
        back = row.back;
        fails = row.fails;
        bytes = ap (bytes_at listing) read ∙ ap (λ s. Ok (page_bytes (line_count s))) row.row_is;
        page = λ there h.
            sym (if_yes_lem (not_laid there) _ (yes-batch cpi (length batch) size words))
            ∙ ap (laid_at cpi listing batch rel row.number row.cycle there) read
            ∙ sym (passed _ _ _ (lt-ltb row.cycle cpi row.in-batch)
            ∙ passed _ _ _ (eq-eqb _ _ (h ∙ ap (λ s. page_bytes (line_count s)) (sym row.row_is))))
            ∙ ap₂ (λ (number : ℕ) (s : Sides). laid (pages (head_line rel number ∷ term_lines cpi batch row.cycle s)))
            (sym row.batch-row) row.row_is;
      }
    where
      row : Names cpi listing batch rel b
      row = failed-names cpi listing batch size fit valid e

      read : row_read listing rel row.number ≡ place_at row.start row.end
      read = ap (λ a. row_of a (found listing rel row.number)) valid ∙ row.place

  asked-yes : (words room : ℕ) → asked cpi listing words room ≡ Ok tt → ((allowed cpi ≡ true) × (words ≡ batch_words cpi)) ×
      (validated listing ≡ Ok tt)
  unfolding asked
  asked-yes words room e =
      let q = both_yes (batch_asked cpi words) _ e in
      (batch-yes cpi words q.0, (answered (scratch_fits room) (validated listing) (no ScratchLength 0) q.1).1)

  -- whatever the check was lent: the verdict that it answers is one of these
  pub verdict-shown : (scratch : List ℕ) {rel : Relation} {b : ℕ} {n : Counts}
      → (checked cpi listing batch scratch).answer ≡ Ok (Failed rel b n) → RowShown cpi listing batch rel b
  unfolding checked
  verdict-shown scratch {rel} {b} {n} = by-asked (asked cpi listing (length batch) (length scratch)) refl
    where
      told : Answer Verdict → Verdict
      told (Ok v) = v
      told (Err r) = Accepted none

      by-asked : (a : Asked) → asked cpi listing (length batch) (length scratch) ≡ a
          → (after a (judged cpi listing batch) scratch).answer ≡ Ok (Failed rel b n) → RowShown cpi listing batch rel b
      by-asked (Ok _) e h =
          let q = asked-yes (length batch) (length scratch) e in judged-shown q.0.0 q.0.1 q.1 (ap told h)
      by-asked (Err r) e h = let z : ◌≡◌ {A = ℕ} 0 1 = cc in absurd (omega arith)
