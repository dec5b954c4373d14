-- An assembled batch as the check sees it: by element.
-- Assumes nothing.
use Rattle.std.specs.Prelude.{◌≡◌, ℕ, ◌+◌, ◌*◌, ◌/◌, ◌%◌, ◌<◌, ◌≤◌, List, length, slice_index, refl, Ok}
use Rattle.std.proofs.Common.{sym, subst, ◌∙◌, add-zero, arith}
use Rattle.std.proofs.Math.Path.{ap, ap₂}
use Rattle.std.proofs.Math.Arith.{digits_lt, digits_div, digits_mod}
use Rattle.field.specs.Gf.{of_words}
use Rattle.layout.specs.Batch.{batch_words}
use Rattle.layout.specs.Laws.Mapping.{witness-column}
use Rattle.layout.specs.Laws.Questions.{both_yes, after-yes}
use Rattle.layout.specs.Laws.Sizes.{allowed-range}
use Rattle.verdict.specs.Row.{element_at, cycle_of}
use Rattle.witness.specs.Assembly.{assembly_asked, lent_column, cycle_word, assembled, assembly_called}
use Rattle.witness.specs.Upper.{public_asked}
use Rattle.witness.specs.Laws.Upper.{public-yes}
use Rattle.witness.specs.Laws.Halves.{lower-at, one_at, value-at, rest_at}
use Rattle.field.specs.Gf as gf

pub record Assembled (cpi : ℕ) (cycles public batch : List ℕ) : Type 0 where
  -- column c of cycle d is element c of the d-th cycle that was lent, each with 2,048 of them
  pub lower : (c d : ℕ) → c < 2048 → d < cpi → cycle_of cpi batch d c ≡ element_at cycles (2048 * d + c)
  -- the one column is 1
  pub one-is : element_at batch (2048 * cpi) ≡ gf.one
  -- public value j stands at one_col + 1 + j
  pub values : (j : ℕ) → 2048 * cpi + 1 + j < 4096 * cpi → element_at batch (2048 * cpi + 1 + j) ≡ element_at public j
  -- behind the public values, all is 0
  pub rest : (j : ℕ) → length public ≤ 2 * j → 2048 * cpi + 1 + j < 4096 * cpi → element_at batch (2048 * cpi + 1 + j) ≡ gf.zero

-- word k below the one column, by its column and cycle, is found among the lent ones
pub word-lent : (cpi : ℕ) (cycles : List ℕ) (c d r k : ℕ) → d < cpi → r < 2 → k ≡ 2 * (c * cpi + d) + r
    → cycle_word cpi cycles k ≡ slice_index cycles (2 * (2048 * d + c) + r)
unfolding cycle_word lent_column
word-lent cpi cycles c d r k l s e =
    let middle : k / 2 ≡ c * cpi + d = omega arith in let parity : k % 2 ≡ r = omega arith in
    ap₂ (λ (y t : ℕ). slice_index cycles (2 * (2048 * (y % cpi) + y / cpi) + t)) middle parity
    ∙ ap₂ (λ (u v : ℕ). slice_index cycles (2 * (2048 * u + v) + r)) (digits_mod c l) (digits_div c l)

pub half : (cpi : ℕ) → batch_words cpi ≡ 4 * (2048 * cpi)
half cpi = omega arith

module _ (cpi : ℕ) (cycles public : List ℕ) where
  abbrev batch : List ℕ
  batch = assembled cpi cycles public

  -- word r of column c of cycle d
  lower_word_lem : (c d r k : ℕ) → c < 2048 → d < cpi → r < 2 → k ≡ 2 * (c * cpi + d) + r
      → slice_index batch k ≡ slice_index cycles (2 * (2048 * d + c) + r)
  unfolding assembled
  lower_word_lem c d r k h l s e =
      let inside : c * cpi + d < 2048 * cpi = digits_lt h l in
      lower-at (batch_words cpi) (2048 * cpi) (half cpi) (cycle_word cpi cycles) public k (omega arith) ∙ word-lent cpi cycles c d r k l s e

  pub assembled-is : 0 < cpi → Assembled cpi cycles public batch
  unfolding assembled cycle_of
  assembled-is some =
      record {
        lower = λ c d h l.
            ap (element_at batch) (witness-column cpi c d h)
            ∙ ap₂ of_words
            (lower_word_lem c d 0 _ h l (omega arith) (omega arith) ∙ ap (λ (n : ℕ). slice_index cycles n) (add-zero (2 * (2048 * d + c))))
            (lower_word_lem c d 1 _ h l (omega arith) refl);
        one-is = one_at (batch_words cpi) (2048 * cpi) (half cpi) (cycle_word cpi cycles) public (omega arith);
        values = λ j h. value-at (batch_words cpi) (2048 * cpi) (half cpi) (cycle_word cpi cycles) public j (omega arith);
        rest = λ j l h. rest_at (batch_words cpi) (2048 * cpi) (half cpi) (cycle_word cpi cycles) public j l (omega arith);
      }

-- of the call: where it answers yes, it leaves such a batch
pub yes-assembled : (cpi : ℕ) (cycles public came batch : List ℕ)
    → assembly_called cpi cycles public came ≡ record { answer = Ok tt; batch = batch } → Assembled cpi cycles public batch
unfolding assembly_called assembly_asked
yes-assembled cpi cycles public came batch e =
    let a = after-yes (assembly_asked cpi (length cycles) (length public) (length came)) _ came batch e in
    let size = (public-yes cpi (length public) (length came) (both_yes (public_asked cpi (length public) (length came)) _ a.0).0).0 in
    let some : 0 < cpi = (allowed-range cpi size).0 in
    subst (Assembled cpi cycles public) (sym a.1) (assembled-is cpi cycles public some)
