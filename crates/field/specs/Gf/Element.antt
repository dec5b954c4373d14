-- An element and its polynomial, each from the other.
use Rattle.std.specs.Prelude.{◌≡◌, refl, ℕ, ◌+◌, ◌-◌, ◌*◌, ◌/◌, ◌%◌, ◌^◌, ◌≤◌, ◌<◌}
use Rattle.std.proofs.Common.{sym, ap, ap₂, ◌∙◌, mod-lt, mod-eq_of_lt, one-mul, mul_assoc, sub-add_cancel, pow_pos, pow-add, lit<}
use Rattle.std.proofs.Math.Nat.{div-eq_of_lt, mul-mod_left}
use Rattle.std.proofs.lemmas.Nat.{mod-pow-add}
use Rattle.std.proofs.Math.Pow.{pow-lt}
use Rattle.std.proofs.Math.Arith.{digits_lt}
use Rattle.field.specs.declared.Gf128.{Gf128}
use Rattle.field.specs.Gf.{bit, ◌⊕◌, times-t, ◌⊗◌, of_words, low, high, value, Proper, element, zero, one, added, product, shifted, power}
use Rattle.field.specs.Gf.Coefficient.{same-bits-below}
use Rattle.field.specs.Gf.Sum.{⊕-mod, ⊕-shr, ⊕-block}
use Rattle.field.specs.Gf.Product.{⊗-lt, ⊗-two}
use Rattle.std.proofs.Math.Pow

pub value-lt : {x : Gf128} → Proper x → value x < 2 ^ 128
unfolding value low high
value-lt p = digits_lt p.hi-fits p.lo-fits

pub element-proper : (a : ℕ) → Proper (element a)
unfolding element of_words
element-proper a = record { lo-fits = mod-lt a (pow_pos 64); hi-fits = mod-lt (a / 2 ^ 64) (pow_pos 64) }

pub value-element : (a : ℕ) → value (element a) ≡ a % 2 ^ 128
unfolding value element of_words low high
value-element a = sym (mod-pow-add a 64 64)

pub value-element-lt : {a : ℕ} → a < 2 ^ 128 → value (element a) ≡ a
value-element-lt {a} h = value-element a ∙ mod-eq_of_lt h

pub element-value : {x : Gf128} → Proper x → element (value x) ≡ x
unfolding value element of_words low high
element-value {x} p =
    λ i. record {
      lo = Pow.low x.hi 64 p.lo-fits i;
      hi = (ap (λ (n : ℕ). n % 2 ^ 64) (Pow.high x.hi 64 p.lo-fits) ∙ mod-eq_of_lt p.hi-fits) i;
    }

pub value-injective : {x y : Gf128} → Proper x → Proper y → value x ≡ value y → x ≡ y
value-injective p q e = sym (element-value p) ∙ ap element e ∙ element-value q

-- an element is determined by its bits
pub element-bits : {x y : Gf128} → Proper x → Proper y → ((i : ℕ) → i < 128 → bit (value x) i ≡ bit (value y) i) → x ≡ y
element-bits p q h = value-injective p q (same-bits-below 128 _ _ (value-lt p) (value-lt q) h)

pub value-words : (lo hi : ℕ) → value (of_words lo hi) ≡ hi * 2 ^ 64 + lo
unfolding value of_words low high
value-words lo hi = refl

-- one word alone
pub element-word : {a : ℕ} → a < 2 ^ 64 → element a ≡ of_words a 0
unfolding element
element-word {a} h = ap₂ of_words (mod-eq_of_lt h) (ap (λ (n : ℕ). n % 2 ^ 64) (div-eq_of_lt h))

pub value-zero : value zero ≡ 0
unfolding zero
value-zero = value-words 0 0

pub element-zero : element 0 ≡ zero
unfolding element zero
element-zero = refl

pub value-one : value one ≡ 1
unfolding one
value-one = value-words 1 0

-- ---- the operations

pub element-⊕ : (a b : ℕ) → element (a ⊕ b) ≡ added (element a) (element b)
unfolding element added of_words low high
element-⊕ a b = ap₂ of_words (⊕-mod a b 64) (ap (λ (n : ℕ). n % 2 ^ 64) (⊕-shr a b 64) ∙ ⊕-mod (a / 2 ^ 64) (b / 2 ^ 64) 64)

pub value-added : {x y : Gf128} → Proper x → Proper y → value (added x y) ≡ value x ⊕ value y
unfolding value added of_words low high
value-added {x} {y} p q = sym (⊕-block 64 x.hi y.hi p.lo-fits q.lo-fits)

pub product_is : (x y : Gf128) → product x y ≡ element (value x ⊗ value y)
unfolding product
product_is x y = refl

pub value-product : {x : Gf128} (y : Gf128) → Proper x → value (product x y) ≡ value x ⊗ value y
unfolding product
value-product y p = value-element-lt (⊗-lt (value y) (value-lt p))

pub shifted-is : (x : Gf128) (k : ℕ) → shifted x k ≡ element (value x * 2 ^ k)
unfolding shifted
shifted-is x k = refl

-- a shift by k of at least w is one by w after the rest
pub shl-past : (w k a : ℕ) → w ≤ k → a * 2 ^ k ≡ a * 2 ^ (k - w) * 2 ^ w
shl-past w k a h =
    ap (λ (n : ℕ). a * 2 ^ n) (sym (sub-add_cancel h)) ∙ ap (◌*◌ a) (pow-add 2 (k - w) w) ∙ sym (mul_assoc a _ _)

pub shifted_past : (x : Gf128) (k : ℕ) → 128 ≤ k → shifted x k ≡ zero
shifted_past x k h =
    shifted-is x k ∙ sym (element-value (element-proper _))
    ∙ ap element
    (value-element _ ∙ ap (λ (n : ℕ). n % 2 ^ 128) (shl-past 128 k (value x) h) ∙ mul-mod_left (value x * 2 ^ (k - 128)) (2 ^ 128))
    ∙ element-zero

pub power-is : (k : ℕ) → power k ≡ element (2 ^ k)
unfolding power
power-is k = shifted-is one k ∙ ap (λ (n : ℕ). element (n * 2 ^ k)) value-one ∙ ap element (one-mul (2 ^ k))

pub value-power : (k : ℕ) → k < 128 → value (power k) ≡ 2 ^ k
value-power k h = ap value (power-is k) ∙ value-element-lt (pow-lt h)

-- t itself is `power 1`
pub value-times-t : {x : Gf128} → Proper x → value (product x (power 1)) ≡ times-t (value x)
value-times-t {x} p = value-product (power 1) p ∙ ap (◌⊗◌ (value x)) (value-power 1 (lit< tt)) ∙ ⊗-two (value x)
