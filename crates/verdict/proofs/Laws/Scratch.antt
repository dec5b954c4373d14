-- The check's answer is the same from any scratch that fits, and what is left there is as it should be; then given calls, from the least
-- scratch to the most and past both.
-- Assumes nothing.
use Rattle.std.specs.Prelude.{◌≡◌, refl, true, false, cond, List, [], ◌∷◌, ℕ, length, replicate, set, Err, Ok}
use Rattle.std.proofs.Common.{sym, ◌∙◌, arith}
use Rattle.std.proofs.Math.Path.{ap}
use Rattle.std.proofs.lemmas.List.{length-replicate}
use Rattle.base.specs.Laws.Tests.{passed, refused}
use Rattle.layout.specs.declared.questions.Refusal.{Refusal}
use Rattle.layout.specs.Batch.{allowed, batch_asked, scratch_fits, ROW-WORDS}
use Rattle.layout.specs.Questions.{no, if_yes, Asked}
use Rattle.layout.specs.Laws.Questions.{if_yes_lem, ask-on, yes-batch}
use Rattle.layout.specs.Laws.Scratch.{alike-fits}
use Rattle.circuit.specs.declared.Relation.TheVariants.{Bin, Fld}
use Rattle.circuit.specs.Circuit.{circuit_words}
use Rattle.circuit.specs.Valid.{validated}
use Rattle.verdict.specs.declared.Verdict.{Verdict}
use Rattle.verdict.specs.declared.Verdict.TheVariants.{Accepted, Failed}
use Rattle.verdict.specs.Counts.{counts}
use Rattle.verdict.specs.Check.{Checked, judged, asked, after, checked}
use Rattle.verdict.specs.Scratch.{Call, AnyScratch}
use Rattle.verdict.specs.Sheet.{zero_row, one_row}
use Rattle.verdict.proofs.Laws.Sheet.{p4, p5}
use Rattle.verdict.proofs.Laws.LaterCycles.{last}
use Rattle.layout.specs.declared.questions.Question.TheVariants.{ScratchLength}

-- ---- what is left in scratch, by the answer

zero-after : (q : Asked) (w v : Verdict) (s u : List ℕ) → record { answer = Ok v; scratch = u } ≡ after q w s → u ≡ replicate (length s) 0
zero-after (Ok _) w v s u e = ap (λ (c : Checked). c.scratch) e
zero-after (Err r) w v s u e = let q = ap (λ (c : Checked). c.answer) e in let z : ◌≡◌ {A = ℕ} 0 1 = cc in absurd (omega arith)

kept-after : (q : Asked) (w : Verdict) (r : Refusal) (s u : List ℕ) → record { answer = Err r; scratch = u } ≡ after q w s → u ≡ s
kept-after (Ok _) w r s u e = let q = ap (λ (c : Checked). c.answer) e in let z : ◌≡◌ {A = ℕ} 0 1 = cc in absurd (omega arith)
kept-after (Err t) w r s u e = ap (λ (c : Checked). c.scratch) e

-- ---- the answer is told by the questions

pub told : (q : Asked) (w : Verdict) (s : List ℕ) → (after q w s).answer ≡ if_yes Err q (Ok w)
told (Ok _) w s = refl
told (Err r) w s = refl

module _ (cpi : ℕ) (listing batch s : List ℕ) where
  abbrev questions : Asked
  questions = asked cpi listing (length batch) (length s)

  abbrev verdict : Verdict
  verdict = judged cpi listing batch

  -- by what question 5 comes to
  answered-by : (next : Asked) → next ≡ cond (scratch_fits (length s)) (validated listing) (Err (no ScratchLength 0))
      → (checked cpi listing batch s).answer ≡ if_yes Err (batch_asked cpi (length batch)) (if_yes Err next (Ok verdict))
  unfolding checked asked
  answered-by next e =
      told questions verdict s ∙ ap (λ q. if_yes Err (if_yes Err (batch_asked cpi (length batch)) q) (Ok verdict)) (sym e)
      ∙ ask-on Err (batch_asked cpi (length batch)) next (Ok verdict)

  pub answer-fits : scratch_fits (length s) ≡ true
      → (checked cpi listing batch s).answer
      ≡ if_yes Err (batch_asked cpi (length batch)) (if_yes Err (validated listing) (Ok verdict))
  answer-fits f = answered-by (validated listing) (passed _ _ _ f)

  answer-other : scratch_fits (length s) ≡ false
      → (checked cpi listing batch s).answer ≡ if_yes Err (batch_asked cpi (length batch)) (Err (no ScratchLength 0))
  answer-other f = answered-by (Err (no ScratchLength 0)) (refused _ _ _ f)

  zero_left : (v : Verdict) (u : List ℕ) → Call cpi listing batch s (Ok v) u → u ≡ replicate (length s) 0
  unfolding checked
  zero_left v u = zero-after questions verdict v s u

  kept : (r : Refusal) (u : List ℕ) → Call cpi listing batch s (Err r) u → u ≡ s
  unfolding checked
  kept r u = kept-after questions verdict r s u

pub any-scratch : (cpi : ℕ) (listing batch : List ℕ) → AnyScratch cpi listing batch
any-scratch cpi listing batch =
    record {
      same = λ s t f g a b u v e h.
          ap (λ (c : Checked). c.answer) e ∙ answer-fits cpi listing batch s f
          ∙ sym (ap (λ (c : Checked). c.answer) h ∙ answer-fits cpi listing batch t g);
      fits = λ s f a u e. ap (λ (c : Checked). c.answer) e ∙ answer-fits cpi listing batch s f;
      other = λ s f a u e. ap (λ (c : Checked). c.answer) e ∙ answer-other cpi listing batch s f;
      zero = zero_left cpi listing batch;
      kept = kept cpi listing batch;
    }

-- ---- given calls

pub record GivenScratch : Type 0 where
  -- the least, one cycle: accepted, and failing
  pub least : Call 1 circuit_words zero_row (1 ∷ 2 ∷ 3 ∷ 4 ∷ 5 ∷ 6 ∷ []) (Ok (Accepted (counts 483 31))) (0 ∷ 0 ∷ 0 ∷ 0 ∷ 0 ∷ 0 ∷ [])
  pub least-fails : Call 1 circuit_words one_row (1 ∷ 2 ∷ 3 ∷ 4 ∷ 5 ∷ 6 ∷ []) (Ok (Failed Bin 263 (counts 264 0))) (0 ∷ 0 ∷ 0 ∷ 0 ∷ 0 ∷ 0 ∷ [])
  -- twelve words and two cycles, the most and 256
  pub twelve : Call 2 circuit_words (set (replicate 16384 0) 1794 1) (replicate 12 7) (Ok (Failed Fld 34 (counts 966 34))) (replicate 12 0)
  pub most : Call 256 circuit_words (set (replicate 2097152 0) 475646 1) (replicate 3072 7) (Ok (Failed Bin 130855 (counts 123461 0)))
      (replicate 3072 0)
  -- no words, seven, and six past the most: refused, whatever the listing
  pub none : (listing : List ℕ) → Call 1 listing zero_row [] (Err (no ScratchLength 0)) []
  pub seven : (listing : List ℕ) → Call 1 listing zero_row (replicate 7 7) (Err (no ScratchLength 0)) (replicate 7 7)
  pub past : (listing : List ℕ) → Call 1 listing zero_row (replicate 3078 7) (Err (no ScratchLength 0)) (replicate 3078 7)

-- a verdict that is given wherever scratch fits: from so many words, all of them x
alike : (cpi : ℕ) (batch : List ℕ) (words x : ℕ) (v : Verdict) → scratch_fits words ≡ true
    → ((s : List ℕ) → scratch_fits (length s) ≡ true
    → checked cpi circuit_words batch s ≡ record { answer = Ok v; scratch = replicate (length s) 0 })
    → Call cpi circuit_words batch (replicate words x) (Ok v) (replicate words 0)
alike cpi batch words x v f g =
    sym
    (g (replicate words x) (alike-fits words x f)
    ∙ ap (λ (n : ℕ). record { answer = Ok v; scratch = replicate n 0 }) (length-replicate words x))

fits_not : (listing s : List ℕ) → scratch_fits (length s) ≡ false → Call 1 listing zero_row s (Err (no ScratchLength 0)) s
unfolding checked asked allowed
fits_not listing s f =
    ap (λ q. after q (judged 1 listing zero_row) s)
    (refused _ (validated listing) _ f ∙ if_yes_lem Err _ (yes-batch 1 (length zero_row) refl (length-replicate {A = ℕ} ROW-WORDS 0)))

pub given-scratch : GivenScratch
unfolding scratch_fits
given-scratch =
    record {
      least = sym (p4 (1 ∷ 2 ∷ 3 ∷ 4 ∷ 5 ∷ 6 ∷ []) refl);
      least-fails = sym (p5 (1 ∷ 2 ∷ 3 ∷ 4 ∷ 5 ∷ 6 ∷ []) refl);
      twelve = alike 2 _ 12 7 _ refl (λ s f. (last s f).fld-2);
      most = alike 256 _ 3072 7 _ refl (λ s f. (last s f).bin-256);
      none = λ listing. fits_not listing [] refl;
      seven = λ listing. fits_not listing (replicate 7 7) refl;
      past = λ listing. fits_not listing (replicate 3078 7) (ap scratch_fits (length-replicate {A = ℕ} 3078 7));
    }
