-- The bit test of given batches of every size: a column of any cycle that is no bit is named by its batch column, column and cycle,
-- whatever bits stand elsewhere.
-- Assumes nothing.
use Rattle.std.specs.Prelude.{◌≡◌, refl, Bool, not, true, false, List, ℕ, ◌+◌, ◌*◌, ◌<◌, None, Ok}
use Rattle.std.proofs.Common.{sym, ap, ◌∙◌, arith}
use Rattle.std.proofs.Math.Arith.{digits_lt}
use Rattle.base.specs.Bits.{digit}
use Rattle.base.specs.Laws.Cases.{no_true}
use Rattle.base.specs.Laws.Values.{digit_lt}
use Rattle.field.specs.Gf.{of_words, is_bit, odd}
use Rattle.field.specs.Gf.Bits.{bit-words}
use Rattle.field.specs.Gf.Laws.{words-injective}
use Rattle.field.specs.Gf.Tests.{is_bit-bit, is_bit-true}
use Rattle.layout.specs.Batch.{allowed, column_at}
use Rattle.layout.specs.Laws.Sizes.{allowed-range}
use Rattle.layout.specs.Laws.Mapping.{witness-column}
use Rattle.verdict.specs.Bits.{above_one, bit_tested, not_bit}
use Rattle.verdict.specs.Laws.BitTest.{all-bits-said, not-bit-named}
use Rattle.step.proofs.Laws.Chosen.{batch_of, batch-length, is-bit}
use Rattle.step.proofs.Laws.Clauses.{replaced, replaced-length, replaced-here, replaced-other}

pub record Tells (cpi : ℕ) : Type 0 where
  pub bits : (b : ℕ → ℕ → Bool) → bit_tested cpi (batch_of cpi b) ≡ Ok None
  -- column c of cycle d, given or derived, is no bit
  pub no-bit : (b : ℕ → ℕ → Bool) (c d l h : ℕ) → c < 2048 → d < cpi → is_bit (of_words l h) ≡ false
      → bit_tested cpi (replaced (batch_of cpi b) (c * cpi + d) l h) ≡ not_bit (c * cpi + d) c d

-- 2 is no bit
pub two-is-none : is_bit (of_words 2 0) ≡ false
two-is-none =
    no_true _ (λ e.
    let o = odd (of_words 2 0) in
    let w = words-injective 2 0 (digit o) 0 (is_bit-true (of_words 2 0) e ∙ sym (bit-words o)) in absurd (omega (arith, w.0, digit_lt o)))

pub tells : (cpi : ℕ) → allowed cpi ≡ true → Tells cpi
tells cpi size =
    record {
      bits = λ b.
          all-bits-said cpi (batch_of cpi b) size (batch-length cpi some b)
          (λ k l. let t = is-bit cpi some b k in ap not (ap is_bit t.1 ∙ is_bit-bit t.0));
      no-bit = λ b c d l h hc hd above.
          let at : column_at cpi c d ≡ c * cpi + d = witness-column cpi c d hc in
          let w : List ℕ = replaced (batch_of cpi b) (c * cpi + d) l h in
          let inside : c * cpi + d < 2048 * cpi = digits_lt hc hd in
          not-bit-named cpi w size (replaced-length (batch_of cpi b) (c * cpi + d) l h ∙ batch-length cpi some b) c d hc hd
          (ap (above_one w) at
          ∙ ap not (ap is_bit (replaced-here (batch_of cpi b) (c * cpi + d) l h (omega (arith, inside, batch-length cpi some b))) ∙ above))
          (λ k m.
          let t = is-bit cpi some b k in
          ap not (ap is_bit (replaced-other (batch_of cpi b) (c * cpi + d) l h k (λ q. omega (arith, at)) ∙ t.1) ∙ is_bit-bit t.0))
          ∙ ap (λ (n : ℕ). not_bit n c d) at;
    }
  where
    some : 0 < cpi
    some = (allowed-range cpi size).0

-- by numbers: of four cycles, 2 in column 5 of cycle 2 and 0 in every other column below one_col
pub given-test : bit_tested 4 (replaced (batch_of 4 (λ d c. false)) 22 2 0) ≡ not_bit 22 5 2
unfolding allowed
given-test = (tells 4 refl).no-bit (λ d c. false) 5 2 2 0 (omega arith) (omega arith) two-is-none
