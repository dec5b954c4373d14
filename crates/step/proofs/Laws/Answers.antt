-- What demand 3 calls accepted and failing, of the check as it is called: a refused batch is neither, and of the two verdicts each is
-- just one. Then given calls of each kind, so that no clause speaks of nothing.
-- Assumes nothing.
use Rattle.std.specs.Prelude.{◌≡◌, refl, Bool, true, false, List, [], ℕ, length, replicate, Err, Ok}
use Rattle.std.proofs.Common.{ap}
use Rattle.layout.specs.declared.questions.Refusal.{Refusal}
use Rattle.layout.specs.Batch.{allowed, scratch_fits, ROW-WORDS, batch_asked}
use Rattle.layout.specs.Questions.{no, Answer}
use Rattle.circuit.specs.declared.Relation.{Relation}
use Rattle.circuit.specs.declared.Relation.TheVariants.{Bin}
use Rattle.circuit.specs.Circuit.{circuit_words}
use Rattle.verdict.specs.declared.Counts.{Counts}
use Rattle.verdict.specs.declared.Verdict.TheVariants.{Accepted, Failed}
use Rattle.verdict.specs.Counts.{counts}
use Rattle.verdict.specs.Check.{asked, checked}
use Rattle.verdict.specs.Sheet.{one_row}
use Rattle.verdict.proofs.Laws.Sheet.{p4, p5}
use Rattle.step.specs.Demand3.{accepts, fails}
use Rattle.layout.specs.declared.questions.Question.TheVariants.{BatchLength, BatchSize}
use Rattle.verdict.specs.declared.Verdict.{Verdict}

-- is an answer accepted, and does it fail?
pub record Told (a : Answer Verdict) (accepted failed : Bool) : Type 0 where
  pub accepts-is : accepts a ≡ accepted
  pub fails-is : fails a ≡ failed

told : {a b : Answer Verdict} → a ≡ b → Told a (accepts b) (fails b)
told e = record { accepts-is = ap accepts e; fails-is = ap fails e }

-- ---- every call: whatever the size, the listing, the batch and the scratch

pub record Answers (cpi : ℕ) (listing batch scratch : List ℕ) : Type 0 where
  pub refused : (r : Refusal) → (checked cpi listing batch scratch).answer ≡ Err r
      → Told (checked cpi listing batch scratch).answer false false
  pub accepted : (n : Counts) → (checked cpi listing batch scratch).answer ≡ Ok (Accepted n)
      → Told (checked cpi listing batch scratch).answer true false
  pub failed : (relation : Relation) (row : ℕ) (n : Counts) → (checked cpi listing batch scratch).answer ≡ Ok (Failed relation row n)
      → Told (checked cpi listing batch scratch).answer false true

pub answers : (cpi : ℕ) (listing batch scratch : List ℕ) → Answers cpi listing batch scratch
answers cpi listing batch scratch = record { refused = λ r. told; accepted = λ n. told; failed = λ relation row n. told }

-- ---- given calls

-- an answer that is given, and what it is told to be
pub record GivenCall (cpi : ℕ) (batch scratch : List ℕ) (a : Answer Verdict) (accepted failed : Bool) : Type 0 where
  pub answer-is : (checked cpi circuit_words batch scratch).answer ≡ a
  pub told_is : Told (checked cpi circuit_words batch scratch).answer accepted failed

pub record GivenCalls (scratch : List ℕ) : Type 0 where
  -- cpi 3 is no batch size; an empty batch is not as long as cpi 1 asks
  pub no_size : GivenCall 3 [] scratch (Err (no BatchSize 0)) false false
  pub no_words : GivenCall 1 [] scratch (Err (no BatchLength 0)) false false
  -- the row of zeros, and that with 1 in the one column alone
  pub zero_row_lem : GivenCall 1 (replicate ROW-WORDS 0) scratch (Ok (Accepted (counts 483 31))) true false
  pub one-row : GivenCall 1 one_row scratch (Ok (Failed Bin 263 (counts 264 0))) false true

pub given-calls : (scratch : List ℕ) → scratch_fits (length scratch) ≡ true → GivenCalls scratch
unfolding checked asked batch_asked allowed
given-calls scratch room =
    record {
      no_size = record { answer-is = refl; told_is = (answers 3 circuit_words [] scratch).refused (no BatchSize 0) refl };
      no_words = record { answer-is = refl; told_is = (answers 1 circuit_words [] scratch).refused (no BatchLength 0) refl };
      zero_row_lem =
          let e = ap (λ c. c.answer) (p4 scratch room) in
          record { answer-is = e; told_is = (answers 1 circuit_words (replicate ROW-WORDS 0) scratch).accepted (counts 483 31) e };
      one-row =
          let e = ap (λ c. c.answer) (p5 scratch room) in
          record { answer-is = e; told_is = (answers 1 circuit_words one_row scratch).failed Bin 263 (counts 264 0) e };
    }
