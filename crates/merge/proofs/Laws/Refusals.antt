-- Given refusals of merging, by numbers: each question, and which is asked first.
-- Assumes nothing.
use Rattle.std.specs.Prelude.{◌≡◌, refl, true, false, not, List, [], ℕ, ◌*◌, ◌≤◌, ◌<◌, eqb, leb, length, set, Err}
use Rattle.std.proofs.Math.Path.{sym}
use Rattle.std.proofs.Common.{ap, ap₂, ◌∙◌, arith}
use borrow.Author.Tests.{eq-eqb, ne_eqb, lt-leb}
use Rattle.std.proofs.Math.ListN.{length-set}
use Rattle.base.specs.Laws.Cases.{no_true}
use Rattle.base.specs.Laws.First.{first-at-from}
use Rattle.base.specs.Laws.Tests.{refused}
use Rattle.field.specs.Gf.{of_bit, zero, same}
use Rattle.field.specs.Gf.Laws.{zero≢one}
use Rattle.field.specs.Gf.Tests.{same_true, same_self}
use Rattle.layout.specs.Batch.{allowed, batch_words}
use Rattle.layout.specs.Questions.{no}
use Rattle.layout.specs.Laws.Questions.{if_yes_lem, if_no, called-no}
use Rattle.verdict.specs.Row.{element_at}
use Rattle.verdict.proofs.Laws.Sheet.{element-alone}
use Rattle.merge.specs.Merged.{merged}
use Rattle.merge.specs.Calls.{sizes_asked, merge_asked, merge_called, differs, first_differing}
use Rattle.merge.specs.Laws.Answers.{sizes-yes}
use Rattle.merge.proofs.Laws.Given.{zeros, zeros-long, zero-at}
use Rattle.layout.specs.declared.questions.Question.TheVariants.{BatchSize, BatchLength, MergeSizes, PublicColumns}
use Rattle.layout.specs.declared.questions.Question.{Question}

-- a call that is refused, and leaves what was there
abbrev Refuses : ℕ → List ℕ → ℕ → List ℕ → List ℕ → Question → ℕ → Type 0
Refuses cpi first cpi₂ second there question place =
    merge_called cpi first cpi₂ second there ≡ record { answer = Err (no question place); batch = there }

pub record GivenRefusals (there : List ℕ) : Type 0 where
  -- 3 cycles are no size, the first's nor the second's; also where sizes differ
  pub first-size : Refuses 3 [] 1 [] there BatchSize 0
  pub second-size : Refuses 1 [] 3 [] there BatchSize 0
  -- sizes differ, or twice as many cycles are more than 256; also where lengths are wrong
  pub sizes-differ : Refuses 1 [] 2 [] there MergeSizes 0
  pub too_many : Refuses 256 [] 256 [] there MergeSizes 0
  -- 128 cycles are not too many: the first's words are asked next
  pub no_words : Refuses 128 [] 128 [] there BatchLength 0
  pub no-second-words : Refuses 2 zeros 2 [] there BatchLength 0
  -- and then the room; also where public columns differ
  pub no_room : Refuses 2 zeros 2 (set zeros 8192 1) [] BatchLength 0
  -- two batches of two cycles differ in the one column, which is 4096; in another public column; and in the last
  pub one-column : length there ≡ batch_words 4 → Refuses 2 zeros 2 (set zeros 8192 1) there PublicColumns 4096
  pub other-column : length there ≡ batch_words 4 → Refuses 2 zeros 2 (set zeros 8202 1) there PublicColumns 4101
  pub last-column : length there ≡ batch_words 4 → Refuses 2 zeros 2 (set zeros 16382 1) there PublicColumns 8191

-- zeros but for 1 in a public column p: they differ from zeros there, and nowhere before
module _ (p : ℕ) (public : 4096 ≤ p) (inside : p < 8192) where
  abbrev other : List ℕ
  other = set zeros (2 * p) 1

  other_at : (x : ℕ) → element_at other x ≡ of_bit (eqb p x)
  other_at x = element-alone (batch_words 2) p x (omega arith)

  there-differ : differs zeros other p ≡ true
  there-differ =
      ap not
      (no_true (same (element_at zeros p) (element_at other p))
      (λ e. zero≢one (sym (zero-at p) ∙ same_true _ _ e ∙ other_at p ∙ ap of_bit (eq-eqb p p refl))))

  before-alike : (k : ℕ) → 4096 ≤ k → k < p → differs zeros other k ≡ false
  before-alike k l h =
      ap not
      (ap₂ same (zero-at k) (other_at k ∙ ap of_bit (ne_eqb p k (λ q. omega arith))) ∙ same_self zero)

  first-is : first_differing 2 zeros other ≡ p
  first-is = first-at-from (differs zeros other) 4096 4096 p public (omega arith) there-differ before-alike

  column-differs : (there : List ℕ) → length there ≡ batch_words 4 → Refuses 2 zeros 2 other there PublicColumns p
  unfolding merge_called merge_asked allowed
  column-differs there room =
      sym
      (called-no (merge_asked 2 zeros 2 other (length there)) (no PublicColumns p) (merged 2 zeros other) there
      (sym
      (ap (λ (x : ℕ). Err (no PublicColumns x)) (sym first-is) ∙ refused _ _ _ (ap (leb 8192) first-is ∙ lt-leb 8192 p inside)
      ∙ if_yes_lem Err _
      (sizes-yes 2 (length zeros) 2 (length other) (length there)
      (record {
        size = refl;
        sizes = refl;
        few = omega arith;
        first-words = zeros-long;
        second-words = length-set {A = ℕ} zeros (2 * p) 1 ∙ zeros-long;
        room-words = room;
      })))))

-- a no to a question on the sizes
sizes-no : (cpi : ℕ) (first : List ℕ) (cpi₂ : ℕ) (second there : List ℕ) (question : Question) (place : ℕ)
    → sizes_asked cpi (length first) cpi₂ (length second) (length there) ≡ Err (no question place)
    → Refuses cpi first cpi₂ second there question place
unfolding merge_called merge_asked
sizes-no cpi first cpi₂ second there question place e =
    sym
    (called-no (merge_asked cpi first cpi₂ second (length there)) (no question place) (merged cpi first second) there
    (sym (if_no Err _ e)))

pub given-refusals : (there : List ℕ) → GivenRefusals there
unfolding sizes_asked allowed
given-refusals there =
    record {
      first-size = sizes-no 3 [] 1 [] there BatchSize 0 refl;
      second-size = sizes-no 1 [] 3 [] there BatchSize 0 refl;
      sizes-differ = sizes-no 1 [] 2 [] there MergeSizes 0 refl;
      too_many = sizes-no 256 [] 256 [] there MergeSizes 0 refl;
      no_words = sizes-no 128 [] 128 [] there BatchLength 0 refl;
      no-second-words = sizes-no 2 zeros 2 [] there BatchLength 0 (ap (λ (n : ℕ). sizes_asked 2 n 2 0 (length there)) zeros-long);
      no_room = sizes-no 2 zeros 2 (set zeros 8192 1) [] BatchLength 0
          (ap₂ (λ (n m : ℕ). sizes_asked 2 n 2 m 0) zeros-long (length-set {A = ℕ} zeros 8192 1 ∙ zeros-long));
      one-column = column-differs 4096 (omega arith) (omega arith) there;
      other-column = column-differs 4101 (omega arith) (omega arith) there;
      last-column = column-differs 8191 (omega arith) (omega arith) there;
    }
