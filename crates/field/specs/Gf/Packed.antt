-- A word in a sum: powers of t times bits add up to the number with those bits, so each bit can be read off.
use Rattle.std.specs.Prelude.{◌≡◌, Bool, true, false, ◌↔◌, ℕ, zero, suc, ◌+◌, ◌*◌, ◌/◌, ◌^◌, ◌≤◌, ◌<◌}
use Rattle.std.proofs.Common.{sym, ap, ap₂, ◌∙◌, add-zero, zero-add, mul_comm, mul_assoc, zero-mul, one-mul, pow-suc, not-suc-le-zero, le_of_suc-le-suc, lt_of_lt_of_le, arith, pow_mono}
use Rattle.base.specs.Sums.{sum}
use Rattle.base.specs.Bits.{digit, val}
use Rattle.base.specs.Laws.Values.{digit_lt, val-lt, val_same, same_bits_lem, no_bits}
use Rattle.field.specs.declared.Gf128.{Gf128}
use Rattle.field.specs.Gf.{bit, ◌⊕◌, of_words, value, element, added, product, power, of_bit}
use Rattle.field.specs.Gf.Coefficient.{bit-above, bit-first, bit-half}
use Rattle.field.specs.Gf.Sum.{⊕-comm, ⊕-shl, ⊕-disjoint}
use Rattle.field.specs.Gf.Element.{value-element-lt, element-word, element-zero, element-⊕, power-is}
use Rattle.field.specs.Gf.Laws.{proper-power, mul-one, mul-zero, words-zero, words-injective}
use Rattle.field.specs.Gf as gf

-- ---- the number

pub bit_val : (n i : ℕ) (f : ℕ → Bool) → i < n → bit (val f n) i ≡ digit (f i)
unfolding val
bit_val zero i f h = absurd (not-suc-le-zero h)
bit_val (suc n) zero f h = let d = digit_lt (f 0) in bit-first _ ∙ omega arith
bit_val (suc n) (suc i) f h =
    let d = digit_lt (f 0) in let v = val (λ i. f (suc i)) n in
    let half : (digit (f 0) + 2 * v) / 2 ≡ v = omega arith in
    sym (bit-half _ i) ∙ ap (λ (a : ℕ). bit a i) half ∙ bit_val n i (λ i. f (suc i)) (le_of_suc-le-suc h)

pub bit-val-above : (n i : ℕ) (f : ℕ → Bool) → n ≤ i → bit (val f n) i ≡ 0
bit-val-above n i f h = bit-above _ i (lt_of_lt_of_le (val-lt n f) (pow_mono h))

-- ---- the sum

term : (k : ℕ) (b : Bool) → product (power k) (of_bit b) ≡ element (digit b * 2 ^ k)
term k true = mul-one (power k) (proper-power k) ∙ power-is k ∙ ap element (sym (one-mul (2 ^ k)))
term k false = mul-zero (power k) ∙ sym element-zero ∙ ap element (sym (zero-mul (2 ^ k)))

-- a digit below the rest, both moved up by k
digit-below : (d v k : ℕ) → d < 2 → d * 2 ^ k ⊕ v * 2 ^ suc k ≡ (d + 2 * v) * 2 ^ k
digit-below d v k h =
    ap (◌⊕◌ (d * 2 ^ k)) (ap (◌*◌ v) (pow-suc 2 k ∙ mul_comm (2 ^ k) 2) ∙ sym (mul_assoc v 2 (2 ^ k)))
    ∙ sym (⊕-shl d (v * 2) k)
    ∙ ap (λ (a : ℕ). a * 2 ^ k) (⊕-comm d (v * 2) ∙ ⊕-disjoint v 1 h ∙ omega arith)

-- from t^k on
packed-from : (n k : ℕ) (f : ℕ → Bool) (g : ℕ → Gf128) → ((i : ℕ) → g i ≡ product (power (k + i)) (of_bit (f i)))
    → sum gf.zero added n g ≡ element (val f n * 2 ^ k)
unfolding sum val
packed-from zero k f g e = sym element-zero ∙ ap element (sym (zero-mul (2 ^ k)))
packed-from (suc n) k f g e =
    ap₂ added (e 0 ∙ ap (λ (j : ℕ). product (power j) (of_bit (f 0))) (add-zero k) ∙ term k (f 0))
    (packed-from n (suc k) (λ i. f (suc i)) (λ i. g (suc i))
    (λ i. e (suc i) ∙ ap (λ (j : ℕ). product (power j) (of_bit (f (suc i)))) (omega arith)))
    ∙ sym (element-⊕ _ _) ∙ ap element (digit-below (digit (f 0)) _ k (digit_lt (f 0)))

module _ (n : ℕ) (f : ℕ → Bool) where
  -- the sum over i below n of t^i times bit i
  abbrev pub packed : Gf128
  packed = sum gf.zero added n (λ i. product (power i) (of_bit (f i)))

  pub packed-is : packed ≡ element (val f n)
  packed-is = packed-from n 0 f _ (λ i. ap (λ (j : ℕ). product (power j) (of_bit (f i))) (sym (zero-add i))) ∙ ap element (omega arith)

  -- within one word
  pub packs : n ≤ 64 → packed ≡ of_words (val f n) 0
  packs h = packed-is ∙ element-word (lt_of_lt_of_le (val-lt n f) (pow_mono h))

  pub packed-value : n ≤ 128 → value packed ≡ val f n
  packed-value h = ap value packed-is ∙ value-element-lt (lt_of_lt_of_le (val-lt n f) (pow_mono h))

  pub packed-bit : (i : ℕ) → n ≤ 128 → i < n → bit (value packed) i ≡ digit (f i)
  packed-bit i h l = ap (λ (a : ℕ). bit a i) (packed-value h) ∙ bit_val n i f l

  pub packed-bit-above : (i : ℕ) → n ≤ 128 → n ≤ i → bit (value packed) i ≡ 0
  packed-bit-above i h l = ap (λ (a : ℕ). bit a i) (packed-value h) ∙ bit-val-above n i f l

-- a word as an element is zero exactly when each of its bits is
pub zero_word : (n : ℕ) (f : ℕ → Bool) → (of_words (val f n) 0 ≡ gf.zero) ↔ ((i : ℕ) → i < n → f i ≡ false)
zero_word n f = (
  λ h. same_bits_lem f (λ i. false) n ((words-injective (val f n) 0 0 0 (h ∙ sym words-zero)).0 ∙ sym (no_bits n)),
  λ h. ap (λ (v : ℕ). of_words v 0) (val_same f (λ i. false) n h ∙ no_bits n) ∙ words-zero,
)
