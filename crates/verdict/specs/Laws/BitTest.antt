-- What the bit test says: the refusal of questions 1 and 2; all bits where no column below one_col is above 1; and otherwise the first
-- that is, with its column and cycle.
-- Assumes nothing.
use Rattle.std.specs.Prelude.{◌≡◌, refl, Bool, true, false, List, [], ℕ, ◌*◌, ◌/◌, ◌%◌, ◌≤◌, ◌<◌, length, Err, None, Ok}
use Rattle.std.proofs.Math.Path.{sym, ap}
use Rattle.std.proofs.Common.{◌∙◌, mod-lt, div-add-mod', div-lt_iff_lt-mul, arith}
use Rattle.std.proofs.Math.Nat.{zero-add}
use borrow.Author.Tests.{lt-ltb, le-ltb, ltb-true, ltb-false}
use Rattle.std.proofs.Math.Dec.{ltb}
use Rattle.base.specs.Tests.{first_from}
use Rattle.base.specs.Laws.Tests.{passed, refused}
use Rattle.base.specs.Laws.First.{first-at, first-none, first_passes, first-least}
use Rattle.layout.specs.declared.questions.Refusal.{Refusal}
use Rattle.layout.specs.Batch.{allowed, batch_words, batch_asked, column_at, unmapped}
use Rattle.layout.specs.Questions.{no}
use Rattle.layout.specs.Laws.Mapping.{witness-column, column-below, back-of-mapped}
use Rattle.layout.specs.Laws.Questions.{if_yes_lem, if_no, yes-batch}
use Rattle.layout.specs.Laws.Sizes.{allowed-range}
use Rattle.verdict.specs.Bits.{above_one, placed, bit_tested, not_bit}
use Rattle.layout.specs.declared.questions.Question.TheVariants.{BatchLength, BatchSize}

pub refusal-told : (cpi : ℕ) (batch : List ℕ) (r : Refusal) → batch_asked cpi (length batch) ≡ Err r → bit_tested cpi batch ≡ Err r
unfolding bit_tested
refusal-told cpi batch r e = sym (if_no Err _ e)

-- by numbers: three cycles are no size, and four have more words than none
pub given-refusals : (bit_tested 3 [] ≡ Err (no BatchSize 0)) × (bit_tested 4 [] ≡ Err (no BatchLength 0))
unfolding bit_tested batch_asked allowed
given-refusals = (refl, refl)

module _ (cpi : ℕ) (batch : List ℕ) (size : allowed cpi ≡ true) (words : length batch ≡ batch_words cpi) where
  pub all-bits-said : ((k : ℕ) → k < 2048 * cpi → above_one batch k ≡ false) → bit_tested cpi batch ≡ Ok None
  unfolding bit_tested
  all-bits-said bits =
      let none : first_from (above_one batch) 0 (2048 * cpi) ≡ 2048 * cpi
      = first-none (above_one batch) (2048 * cpi) 0 (λ k _ l. bits k (omega arith)) ∙ zero-add (2048 * cpi) in
      sym
      (refused _ _ _ (ap (λ (n : ℕ). ltb n (2048 * cpi)) none ∙ le-ltb (2048 * cpi) (2048 * cpi) (omega arith))
      ∙ if_yes_lem Err _ (yes-batch cpi (length batch) size words))

  -- column c of cycle d is above 1, and no batch column before it is
  pub not-bit-named : (c d : ℕ) → c < 2048 → d < cpi → above_one batch (column_at cpi c d) ≡ true
      → ((k : ℕ) → k < column_at cpi c d → above_one batch k ≡ false) → bit_tested cpi batch ≡ not_bit (column_at cpi c d) c d
  unfolding bit_tested
  not-bit-named c d hc hd above before =
      let inside : column_at cpi c d < 2048 * cpi = column-below cpi c d hc hd in
      let first = first-at (above_one batch) (2048 * cpi) (column_at cpi c d) inside above before in
      sym
      (ap (placed (column_at cpi c d)) (sym (back-of-mapped cpi size c d hc hd))
      ∙ ap (λ (n : ℕ). placed n (unmapped cpi n)) (sym first)
      ∙ passed _ _ _ (ap (λ (n : ℕ). ltb n (2048 * cpi)) first ∙ lt-ltb _ _ inside)
      ∙ if_yes_lem Err _ (yes-batch cpi (length batch) size words))

  -- one or the other is so: none is above 1, or a column is and none before it
  pub data Above : Type 0 where
    none : ((k : ℕ) → k < 2048 * cpi → above_one batch k ≡ false) → Above
    found : (c d : ℕ) → c < 2048 → d < cpi → above_one batch (column_at cpi c d) ≡ true
        → ((k : ℕ) → k < column_at cpi c d → above_one batch k ≡ false) → Above

  pub above : Above
  above = by-test (ltb at (2048 * cpi)) refl
    where
      at : ℕ
      at = first_from (above_one batch) 0 (2048 * cpi)

      by-test : (b : Bool) → ltb at (2048 * cpi) ≡ b → Above
      by-test true e =
          let some : 0 < cpi = (allowed-range cpi size).0 in let l : at < 2048 * cpi = ltb-true at (2048 * cpi) e in
          let c = at / cpi in let d = at % cpi in let hc : c < 2048 = (div-lt_iff_lt-mul some).1 l in
          let place : column_at cpi c d ≡ at = witness-column cpi c d hc ∙ div-add-mod' at cpi in
          found c d hc (mod-lt at some)
          (ap (above_one batch) place ∙ first_passes (above_one batch) (2048 * cpi) 0 (omega arith))
          (λ k h. first-least (above_one batch) (2048 * cpi) 0 k (omega arith) (omega arith))
      by-test false e =
          let l : 2048 * cpi ≤ at = ltb-false at (2048 * cpi) e in
          none (λ k h. first-least (above_one batch) (2048 * cpi) 0 k (omega arith) (omega arith))
