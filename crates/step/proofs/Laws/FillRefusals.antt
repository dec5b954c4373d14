-- The filler's refusals 11 and 12, of given batches of every size: the number, the place, and the batch as it came.
-- Assumes nothing.
use Rattle.layout.specs.declared.questions.Question.{Question}
use Rattle.layout.specs.declared.questions.Question.TheVariants.{GivenBits, OneColumn}
use Rattle.std.specs.Prelude.{◌≡◌, Bool, true, false, not, ◌&&◌, List, ℕ, ◌+◌, ◌*◌, ◌<◌, eqb, leb, replicate, Err}
use Rattle.std.proofs.Math.Path.{sym, ap}
use Rattle.std.proofs.Common.{ap₂, ◌∙◌, arith}
use Rattle.std.proofs.lemmas.Bool.{false≢true}
use borrow.Author.Tests.{le-leb, lt-leb}
use Rattle.std.proofs.Math.Arith.{digits_lt, digits_div}
use Rattle.std.proofs.lemmas.List.{length-replicate}
use Rattle.base.specs.Laws.Tests.{passed, refused}
use Rattle.base.specs.Laws.First.{first-at, first-none}
use Rattle.base.specs.Laws.Cases.{no_true}
use Rattle.field.specs.declared.Gf128.{Gf128}
use Rattle.field.specs.Gf.{of_words, low, one, same, is_bit, of_bit}
use Rattle.field.specs.Gf.Tests.{same_true, is_bit-bit}
use Rattle.field.specs.Gf.Bits.{low_bit}
use Rattle.field.specs.Gf.Laws.{words-zero}
use Rattle.layout.specs.Batch.{allowed, batch_words}
use Rattle.layout.specs.Questions.{no, after, Asked}
use Rattle.layout.specs.Laws.Sizes.{allowed-range}
use Rattle.layout.specs.Laws.Questions.{if_yes_lem, yes-batch}
use Rattle.verdict.specs.Row.{element_at}
use Rattle.verdict.proofs.Laws.Sheet.{zeros}
use Rattle.step.specs.Derived.{derived, derived_in}
use Rattle.step.specs.Filling.{filled}
use Rattle.step.specs.Fill.{faulty, first_faulty, fill_asked, called}
use Rattle.step.proofs.Laws.Chosen.{batch_of, batch-length, is-bit}
use Rattle.step.proofs.Laws.Clauses.{replaced, replaced-length, replaced-here, replaced-other}
use Rattle.layout.specs.declared.questions.Question.TheVariants.{GivenBits, OneColumn}

-- a call that is refused leaves the batch
abbrev pub RefusedWith : Question → ℕ → ℕ → List ℕ → Type 0
RefusedWith k place cpi batch = called cpi batch ≡ record { answer = Err (no k place); batch = batch }

pub record Refuses (cpi : ℕ) : Type 0 where
  -- a given column c of cycle d that is no bit, whatever bits stand elsewhere: 11, and the place is its batch column
  pub no-bit : (b : ℕ → ℕ → Bool) (c d l h : ℕ) → c < 2048 → derived c ≡ false → d < cpi → is_bit (of_words l h) ≡ false
      → RefusedWith GivenBits (c * cpi + d) cpi (replaced (batch_of cpi b) (c * cpi + d) l h)
  -- the one column is 0: 12
  pub no_one : RefusedWith OneColumn 0 cpi (replicate (batch_words cpi) 0)

module _ (cpi : ℕ) (size : allowed cpi ≡ true) where
  some : 0 < cpi
  some = (allowed-range cpi size).0

  module _ (b : ℕ → ℕ → Bool) (c d l h : ℕ) (hc : c < 2048) (e : derived c ≡ false) (hd : d < cpi)
      (above : is_bit (of_words l h) ≡ false) where
    abbrev w : List ℕ
    w = replaced (batch_of cpi b) (c * cpi + d) l h

    inside : c * cpi + d < 2048 * cpi
    inside = digits_lt hc hd

    here : faulty cpi w (c * cpi + d) ≡ true
    here =
        ap₂ (λ (i j : Bool). not i && not j)
        (ap is_bit (replaced-here (batch_of cpi b) (c * cpi + d) l h (omega (arith, inside, batch-length cpi some b))) ∙ above)
        (ap derived (digits_div c hd) ∙ e)

    before : (k : ℕ) → k < c * cpi + d → faulty cpi w k ≡ false
    before k m =
        let t = is-bit cpi some b k in
        ap (λ (i : Bool). not i && not (derived_in cpi k))
        (ap is_bit (replaced-other (batch_of cpi b) (c * cpi + d) l h k (λ q. omega arith) ∙ t.1) ∙ is_bit-bit t.0)

    first-is : first_faulty cpi w ≡ c * cpi + d
    first-is = first-at (faulty cpi w) (2048 * cpi) (c * cpi + d) inside here before

    asked-11 : fill_asked cpi w ≡ Err (no GivenBits (c * cpi + d))
    unfolding fill_asked
    asked-11 =
        sym
        (ap (λ (p : ℕ). Err (no GivenBits p)) (sym first-is) ∙ refused _ _ _ (ap (leb (2048 * cpi)) first-is ∙ lt-leb _ _ inside)
        ∙ if_yes_lem Err _ (yes-batch cpi _ size (replaced-length (batch_of cpi b) (c * cpi + d) l h ∙ batch-length cpi some b)))

    no-bit-refused : RefusedWith GivenBits (c * cpi + d) cpi w
    unfolding called
    no-bit-refused = ap (λ (a : Asked). after a (filled cpi w) w) asked-11

  abbrev none : List ℕ
  none = replicate (batch_words cpi) 0

  element-zero : (k : ℕ) → element_at none k ≡ of_bit false
  element-zero k = ap₂ of_words (zeros (batch_words cpi) (2 * k)) (zeros (batch_words cpi) (2 * k + 1)) ∙ words-zero

  no-faults : first_faulty cpi none ≡ 2048 * cpi
  no-faults =
      first-none (faulty cpi none) (2048 * cpi) 0
      (λ k _ _. ap (λ (i : Bool). not i && not (derived_in cpi k)) (ap is_bit (element-zero k) ∙ is_bit-bit false))
      ∙ omega arith

  not-one : same (element_at none (2048 * cpi)) one ≡ false
  not-one =
      no_true _ (λ t. false≢true
      (sym (low_bit false) ∙ ap (λ (y : Gf128). eqb (low y) 1) (sym (element-zero (2048 * cpi)) ∙ same_true _ _ t) ∙ low_bit true))

  asked-12 : fill_asked cpi none ≡ Err (no OneColumn 0)
  unfolding fill_asked
  asked-12 =
      sym
      (refused _ _ _ not-one ∙ passed _ _ _ (le-leb (2048 * cpi) (first_faulty cpi none) (omega (arith, no-faults)))
      ∙ if_yes_lem Err _ (yes-batch cpi _ size (length-replicate {A = ℕ} (batch_words cpi) 0)))

  pub refuses : Refuses cpi
  unfolding called
  refuses = record { no-bit = no-bit-refused; no_one = ap (λ (a : Asked). after a (filled cpi none) none) asked-12 }
