-- Filling and checking, of given batches: of every size one that is accepted, and one that fails by what stands in any one cycle; rows
-- whose verdict is known; and calls that are refused.
-- Assumes nothing.
use Rattle.layout.specs.declared.questions.Question.{Question}
use Rattle.layout.specs.declared.questions.Question.TheVariants.{BatchSize, BatchLength, GivenBits, OneColumn}
use Rattle.std.specs.Prelude.{◌≡◌, refl, Bool, true, false, List, [], ◌∷◌, ℕ, ◌+◌, ◌*◌, ◌<◌, replicate, Err, Ok}
use Rattle.std.proofs.Common.{sym, ap, ◌∙◌}
use Rattle.field.specs.Gf.{of_words, is_bit}
use Rattle.layout.specs.Batch.{allowed, batch_words, batch_asked}
use Rattle.layout.specs.Questions.{no, Called, Answer}
use Rattle.layout.specs.Laws.Scratch.{some_scratch, some_fits}
use Rattle.layout.specs.Laws.Sizes.{allowed-range}
use Rattle.strict.specs.declared.Known.{Known}
use Rattle.strict.specs.declared.Known.TheVariants.{House}
use Rattle.verdict.specs.declared.Verdict.{Verdict}
use Rattle.verdict.specs.declared.Verdict.TheVariants.{Accepted}
use Rattle.verdict.specs.Counts.{every_row_of}
use Rattle.verdict.specs.Check.{Checked, known_checked}
use Rattle.verdict.proofs.Laws.Agree.{known-agrees}
use Rattle.step.specs.Derived.{derived}
use Rattle.step.specs.Filling.{filled}
use Rattle.step.specs.Demand3.{fails}
use Rattle.step.specs.Fill.{fill_asked, called}
use Rattle.step.proofs.Laws.FilledRow.{Gives}
use Rattle.step.proofs.Laws.FillAnswers.{passes, passed-all}
use Rattle.step.proofs.Laws.FillRefusals.{refuses}
use Rattle.step.proofs.Laws.Chosen.{batch_of, premises-of}
use Rattle.step.proofs.Laws.Clauses.{replaced, idle, shifts_in, shift-meets-not}
use Rattle.judge.specs.FillCheck.{FillChecked, answer_after, fill_checked, Promised}
use Rattle.judge.specs.Laws.Examples.{batch-examples}
use Rattle.judge.proofs.Laws.FillCheck.{is-judged, fill-promised}

-- a batch is refused with a number and a place, and stays as it came
abbrev pub RefusedAs : Known → ℕ → Question → ℕ → List ℕ → Type 0
RefusedAs k cpi question place batch = fill_checked k cpi batch ≡ record { answer = Err (no question place); batch = batch }

pub record OfSize (k : Known) (cpi : ℕ) : Type 0 where
  pub accepted : fill_checked k cpi (idle cpi) ≡ record { answer = Ok (Accepted (every_row_of k cpi)); batch = filled cpi (idle cpi) }
  -- in cycle d condition 2 is not met
  pub failed : (d : ℕ) → d < cpi → fails (fill_checked k cpi (batch_of cpi (shifts_in d))).answer ≡ true
  -- questions 11 and 12: a given column that is no bit, whatever bits stand elsewhere; the one column 0
  pub no-bit : (b : ℕ → ℕ → Bool) (c d l h : ℕ) → c < 2048 → derived c ≡ false → d < cpi → is_bit (of_words l h) ≡ false
      → RefusedAs k cpi GivenBits (c * cpi + d) (replaced (batch_of cpi b) (c * cpi + d) l h)
  pub no_one : RefusedAs k cpi OneColumn 0 (replicate (batch_words cpi) 0)

-- questions 1 and 2
pub record Refusals (k : Known) : Type 0 where
  pub no_size : RefusedAs k 3 BatchSize 0 []
  pub no_words : RefusedAs k 2 BatchLength 0 (7 ∷ [])

-- what the filler's call comes to
as_called : (k : Known) (cpi : ℕ) (batch : List ℕ) {c : Called} → called cpi batch ≡ c
    → fill_checked k cpi batch ≡ record { answer = answer_after k cpi c.answer c.batch; batch = c.batch }
unfolding fill_checked
as_called k cpi batch e = ap (λ (c : Called). record { answer = answer_after k cpi c.answer c.batch; batch = c.batch }) e

module _ (k : Known) (cpi : ℕ) (size : allowed cpi ≡ true) where
  some : 0 < cpi
  some = (allowed-range cpi size).0

  -- of a choice of bits
  module _ (b : ℕ → ℕ → Bool) where
    yes : fill_asked cpi (batch_of cpi b) ≡ Ok tt
    yes = passed-all cpi (batch_of cpi b) (passes cpi (batch_of cpi b) size (premises-of cpi some b))

    call : Promised k cpi (batch_of cpi b) (known_checked k cpi (filled cpi (batch_of cpi b))) (filled cpi (batch_of cpi b))
    call = fill-promised k cpi (batch_of cpi b) (premises-of cpi some b).fit yes

    answer-is : (fill_checked k cpi (batch_of cpi b)).answer ≡ known_checked k cpi (filled cpi (batch_of cpi b))
    answer-is = ap (λ (c : FillChecked). c.answer) (sym call.result)

  pub of_size : OfSize k cpi
  of_size =
      record {
        accepted = sym (call (λ d c. false)).result
            ∙ ap (λ (a : Answer Verdict). record { answer = a; batch = filled cpi (idle cpi) })
            (is-judged k cpi (idle cpi) (premises-of cpi some (λ d c. false)).fit (yes (λ d c. false))
            ∙ ap Ok ((batch-examples k cpi some).accepted size));
        failed = λ d l. ap fails (answer-is (shifts_in d))
            ∙ (call (shifts_in d)).failed.1 (yes (shifts_in d), shift-meets-not k cpi some d l);
        no-bit = λ b c d l h m e n above.
            as_called k cpi (replaced (batch_of cpi b) (c * cpi + d) l h) ((refuses cpi size).no-bit b c d l h m e n above);
        no_one = as_called k cpi (replicate (batch_words cpi) 0) (refuses cpi size).no_one;
      }

-- a row that the filler fills as called, and the verdict on it: the bench sheet cites this of P6 to P9
pub filled-and-judged : {row : List ℕ} {v : Verdict} → Gives row v → fill_checked House 1 row ≡ record { answer = Ok v; batch = filled 1 row }
filled-and-judged {row} {v} g =
    as_called House 1 row g.fill
    ∙ ap (λ (a : Answer Verdict). record { answer = a; batch = filled 1 row })
    (known-agrees House 1 (filled 1 row) some_scratch some_fits
    ∙ ap (λ (c : Checked). c.answer) (g.check some_scratch some_fits))

pub refusals : (k : Known) → Refusals k
unfolding fill_checked called fill_asked batch_asked allowed
refusals k = record { no_size = refl; no_words = refl }
