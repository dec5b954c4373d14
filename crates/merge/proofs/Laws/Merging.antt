-- What merging does, of every call that was answered with yes.
-- Assumes nothing.
use Rattle.std.specs.Prelude.{◌≡◌, refl, true, cond, List, ℕ, ◌*◌, length, Err, Ok}
use Rattle.std.proofs.Math.Path.{sym, ap}
use Rattle.std.proofs.Common.{ap₂, subst, ◌∙◌, arith}
use Rattle.layout.specs.Batch.{allowed, batch_words, scratch_fits}
use Rattle.layout.specs.Questions.{no, if_yes, Left, Asked}
use Rattle.layout.specs.Laws.Questions.{if_yes_lem, yes-batch, after-yes}
use Rattle.layout.specs.Laws.Sizes.{allowed-range}
use Rattle.circuit.specs.Valid.{validated}
use Rattle.strict.specs.declared.Known.{Known}
use Rattle.strict.specs.Known.{listing_of}
use Rattle.verdict.specs.declared.Verdict.{Verdict}
use Rattle.verdict.specs.Check.{judged, asked, checked, known_checked}
use Rattle.verdict.proofs.Laws.Scratch.{told}
use Rattle.step.specs.Demand3.{accepts}
use Rattle.merge.specs.Merged.{merged}
use Rattle.merge.specs.Calls.{merge_asked, merge_called}
use Rattle.merge.specs.Joined.{joined, joined_answer, failure_of}
use Rattle.merge.specs.Merging.{Judgement, Merging}
use Rattle.merge.specs.Laws.Answers.{all-passed, twice-allowed}
use Rattle.merge.proofs.Laws.Bits.{bits}
use Rattle.merge.specs.Laws.Columns.{SamePublic, merged-length, columns}
use Rattle.merge.proofs.Laws.Filling.{filled-merged}
use Rattle.merge.proofs.Laws.Judgement.{merged-verdict, joined-failure, joined-accepts, rows_apart}
use Rattle.layout.specs.declared.questions.Question.TheVariants.{ScratchLength}

-- ---- the check of a batch whose size and length are right: what is left to be asked does not depend on the batch

module _ (n : ℕ) (batch : List ℕ) (size : allowed n ≡ true) (words : length batch ≡ batch_words n) where
  -- question 5, and those on the listing
  abbrev left : List ℕ → List ℕ → Asked
  left listing scratch = cond (scratch_fits (length scratch)) (validated listing) (Err (no ScratchLength 0))

  check-asks : (listing scratch : List ℕ) → (checked n listing batch scratch).answer ≡ if_yes Err (left listing scratch) (Ok (judged n listing batch))
  unfolding checked asked
  check-asks listing scratch =
      told (asked n listing (length batch) (length scratch)) (judged n listing batch) scratch
      ∙ ap (λ (q : Asked). if_yes Err (if_yes Err q (left listing scratch)) (Ok (judged n listing batch))) (yes-batch n (length batch) size words)

  known-says : (k : Known) → known_checked k n batch ≡ Ok (judged n (listing_of k) batch)
  unfolding known_checked
  known-says k = sym (if_yes_lem Err _ (yes-batch n (length batch) size words))

joined-asked : (cpi : ℕ) (q : Asked) (v w : Verdict)
    → if_yes Err q (Ok (joined cpi v w)) ≡ joined_answer cpi (if_yes Err q (Ok v)) (if_yes Err q (Ok w))
joined-asked cpi (Ok _) v w = refl
joined-asked cpi (Err r) v w = refl

module _ (cpi : ℕ) (first second : List ℕ) (size : allowed cpi ≡ true) (twice : allowed (2 * cpi) ≡ true)
    (len : length first ≡ batch_words cpi) (long : length second ≡ batch_words cpi) (same : SamePublic cpi first second) where
  abbrev batch : List ℕ
  batch = merged cpi first second

  verdict : (listing : List ℕ) → judged (2 * cpi) listing batch ≡ joined cpi (judged cpi listing first) (judged cpi listing second)
  verdict listing = merged-verdict cpi first second len long same listing

  check : (listing scratch : List ℕ) → (checked (2 * cpi) listing batch scratch).answer
      ≡ joined_answer cpi (checked cpi listing first scratch).answer (checked cpi listing second scratch).answer
  check listing scratch =
      let q = left cpi first size len listing scratch in
      check-asks (2 * cpi) batch twice (merged-length cpi first second) listing scratch
      ∙ ap (λ (v : Verdict). if_yes Err q (Ok v)) (verdict listing)
      ∙ joined-asked cpi q (judged cpi listing first) (judged cpi listing second)
      ∙ sym (ap₂ (joined_answer cpi) (check-asks cpi first size len listing scratch) (check-asks cpi second size long listing scratch))

  pub judgement : Judgement cpi first second batch
  judgement =
      record {
        verdict = verdict;
        check = check;
        known = λ k.
            known-says (2 * cpi) batch twice (merged-length cpi first second) k ∙ ap (λ (v : Verdict). Ok v) (verdict (listing_of k))
            ∙ sym (ap₂ (joined_answer cpi) (known-says cpi first size len k) (known-says cpi second size long k));
        accepted = λ listing scratch.
            let k = joined-accepts cpi (checked cpi listing first scratch).answer (checked cpi listing second scratch).answer in
            let e = ap accepts (check listing scratch) in (λ h. k.0 (sym e ∙ h), λ h. e ∙ k.1 h);
        numbers = λ listing. rows_apart cpi first listing size;
        failure = λ listing. ap failure_of (verdict listing) ∙ joined-failure cpi (judged cpi listing first) (judged cpi listing second);
      }

pub merging : (cpi : ℕ) (first : List ℕ) (cpi₂ : ℕ) (second there batch : List ℕ)
    → Left (merge_called cpi first cpi₂ second there) batch → Merging cpi first cpi₂ second batch
unfolding merge_called
merging cpi first cpi₂ second there batch e =
    let a = after-yes (merge_asked cpi first cpi₂ second (length there)) (merged cpi first second) there batch e in
    let p = all-passed cpi first cpi₂ second (length there) a.0 in let s = p.sizes-passed in
    let twice = twice-allowed cpi s.size s.few in
    subst (Merging cpi first cpi₂ second) (sym a.1)
    (record {
      sizes = sym s.sizes;
      most = omega (arith, s.few);
      columns = columns cpi first second s.first-words s.second-words p.public;
      judgement = judgement cpi first second s.size twice s.first-words s.second-words p.public;
      bits = bits cpi first second s.size twice s.first-words s.second-words;
      filled = filled-merged cpi first second (allowed-range cpi s.size).0 s.first-words s.second-words p.public s.size s.few;
    })
