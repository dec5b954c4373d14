-- Filling and checking in one call: the filler's questions, then the check of what it wrote. Demand 3 makes its acceptance a statement
-- about the batch as it came. The laws are in Laws/FillCheck, given batches in Laws/FillCheckExamples.
-- Assumes nothing.
use Rattle.std.specs.Prelude.{◌≡◌, ◌↔◌, true, List, ℕ, ◌+◌, ◌<◌, length, Err, Ok}
use Rattle.layout.specs.declared.questions.Refusal.{Refusal}
use Rattle.layout.specs.Columns.{ONE-COL}
use Rattle.layout.specs.Batch.{scratch_fits}
use Rattle.strict.specs.declared.Known.{Known}
use Rattle.strict.specs.Known.{listing_of}
use Rattle.verdict.specs.Row.{cycle_of, bits_of}
use Rattle.verdict.specs.Check.{checked, known_checked}
use Rattle.step.specs.Strict.{ConditionsOf}
use Rattle.step.specs.Filling.{SameElsewhere, filled}
use Rattle.step.specs.Fill.{fill_asked, called}
use Rattle.step.specs.Demand3.{accepts, fails}
use Rattle.layout.specs.Questions.{Answer, Asked}
use Rattle.verdict.specs.declared.Verdict.{Verdict}

-- the answer, and the batch afterwards
pub record FillChecked : Type 0 where
  pub answer : Answer Verdict
  pub batch : List ℕ

-- what the filler refuses is refused with its number and place; what it fills is checked
abbrev pub answer_after : Known → ℕ → Asked → List ℕ → Answer Verdict
answer_after k cpi (Ok _) batch = known_checked k cpi batch
answer_after k cpi (Err r) batch = Err r

unfoldable pub fill_checked : Known → ℕ → List ℕ → FillChecked
fill_checked k cpi batch = let c = called cpi batch in record { answer = answer_after k cpi c.answer c.batch; batch = c.batch }

-- every cycle meets the conditions of a known listing: of the house listing the ten step conditions, of the strict one the strict ones
abbrev pub EveryStep : Known → ℕ → List ℕ → Type 0
EveryStep k cpi batch = (d : ℕ) → d < cpi → ConditionsOf k (bits_of cpi batch d) (cycle_of cpi batch d (ONE-COL + 1))

-- What a call promises of the batch as it came, beside the definition. A no to questions 1, 2, 11 or 12 is the answer, and leaves the
-- batch. After a yes the batch is filled, and the answer that of the check on it, lent that listing and any scratch that fits. It is
-- accepted exactly when the questions were answered with yes and every cycle meets the conditions, and fails exactly when they were and
-- some cycle does not; and it is the same whatever stood in the derived columns.
pub record Promised (k : Known) (cpi : ℕ) (before : List ℕ) (answer : Answer Verdict) (batch : List ℕ) : Type 0 where
  pub result : ◌≡◌ {A = FillChecked} (record { answer = answer; batch = batch }) (fill_checked k cpi before)
  pub refused : (r : Refusal) → fill_asked cpi before ≡ Err r → (answer ≡ Err r) × (batch ≡ before)
  pub fills : fill_asked cpi before ≡ Ok tt → batch ≡ filled cpi before
  pub as-checked : fill_asked cpi before ≡ Ok tt → (scratch : List ℕ) → scratch_fits (length scratch) ≡ true
      → answer ≡ (checked cpi (listing_of k) batch scratch).answer
  pub accepted : (accepts answer ≡ true) ↔ ((fill_asked cpi before ≡ Ok tt) × EveryStep k cpi before)
  pub failed : (fails answer ≡ true) ↔ ((fill_asked cpi before ≡ Ok tt) × (EveryStep k cpi before → ⊥))
  pub whatever : (other : List ℕ) → SameElsewhere cpi other before → (fill_checked k cpi other).answer ≡ answer
