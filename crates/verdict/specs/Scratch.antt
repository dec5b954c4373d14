-- What the check's answer takes from its scratch (document 02, request 5): nothing but question 5. `AnyScratch` speaks of calls by the
-- contract that both forms of `check_row` have; Laws/Scratch proves it for every size, listing and batch.
-- Assumes nothing.
use Rattle.std.specs.Prelude.{◌≡◌, true, false, List, ℕ, length, replicate, Err, Ok}
use Rattle.layout.specs.declared.questions.Refusal.{Refusal}
use Rattle.layout.specs.Batch.{batch_asked, scratch_fits}
use Rattle.layout.specs.Questions.{no, if_yes, Answer}
use Rattle.circuit.specs.Valid.{validated}
use Rattle.verdict.specs.declared.Verdict.{Verdict}
use Rattle.verdict.specs.Check.{Checked, judged, checked}
use Rattle.layout.specs.declared.questions.Question.TheVariants.{ScratchLength}

-- over one listing and one batch
module _ (cpi : ℕ) (listing batch : List ℕ) where
  -- a call that was lent `scratch` gave an answer, and left words in it
  abbrev pub Call : List ℕ → Answer Verdict → List ℕ → Type 0
  Call scratch a left = ◌≡◌ {A = Checked} (record { answer = a; scratch = left }) (checked cpi listing batch scratch)

  pub record AnyScratch : Type 0 where
    -- any two accepted lengths, whatever the words are: one answer, both counts included
    pub same : (s t : List ℕ) → scratch_fits (length s) ≡ true → scratch_fits (length t) ≡ true → (a b : Answer Verdict) (u v : List ℕ)
        → Call s a u → Call t b v → a ≡ b
    -- what that answer is: what questions 1, 2 and 6 to 10 refuse, or else the verdict on the batch
    pub fits : (s : List ℕ) → scratch_fits (length s) ≡ true → (a : Answer Verdict) (u : List ℕ) → Call s a u
        → a ≡ if_yes Err (batch_asked cpi (length batch)) (if_yes Err (validated listing) (Ok (judged cpi listing batch)))
    -- every other length is refused: by 5, unless 1 or 2 refuses first, and whatever the listing is
    pub other : (s : List ℕ) → scratch_fits (length s) ≡ false → (a : Answer Verdict) (u : List ℕ) → Call s a u
        → a ≡ if_yes Err (batch_asked cpi (length batch)) (Err (no ScratchLength 0))
    -- zero after every verdict, and as it came after every refusal
    pub zero : (s : List ℕ) (v : Verdict) (u : List ℕ) → Call s (Ok v) u → u ≡ replicate (length s) 0
    pub kept : (s : List ℕ) (r : Refusal) (u : List ℕ) → Call s (Err r) u → u ≡ s
