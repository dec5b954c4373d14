-- The laws of elements. Those of the sum hold of any two words; the product's ask that an element is proper where they need
-- it, which is so of every element that a program holds.
use Rattle.std.specs.Prelude.{◌≡◌, refl, ◌↔◌, ℕ, suc, ◌*◌, ◌^◌, ◌≤◌, ◌<◌}
use Rattle.std.proofs.Common.{sym, ap, ap₂, subst, ◌∙◌, pow-suc, arith, lit<}
use Rattle.std.proofs.Math.Pow.{pow-lt}
use Rattle.field.specs.declared.Gf128.{Gf128}
use Rattle.field.specs.Gf.{◌⊗◌, of_words, low, high, value, Proper, element, zero, one, added, product, shifted, power}
use Rattle.field.specs.Gf.Sum.{⊕-comm, ⊕-assoc, ⊕-self, zero-⊕, ⊕-lt}
use Rattle.field.specs.Gf.Product.{⊗-zero, zero-⊗, ⊗-one, one-⊗, ⊗-comm, ⊗-assoc, ⊗-⊕, ⊕-⊗, ⊗-power}
use Rattle.field.specs.Gf.Element.{value-lt, value-zero, value-one, value-added, value-product, value-power, element-value, element-proper, element-word, element-zero, element-⊕, product_is, shifted-is, shifted_past, power-is}

-- ---- elements from words

pub words-zero : of_words 0 0 ≡ zero
unfolding zero
words-zero = refl

pub words-one : of_words 1 0 ≡ one
unfolding one
words-one = refl

pub low-words : (lo hi : ℕ) → low (of_words lo hi) ≡ lo
unfolding low of_words
low-words lo hi = refl

pub high-words : (lo hi : ℕ) → high (of_words lo hi) ≡ hi
unfolding high of_words
high-words lo hi = refl

pub words : (x : Gf128) → of_words (low x) (high x) ≡ x
unfolding low high of_words
words x = refl

pub words-injective : (k l m n : ℕ) → of_words k l ≡ of_words m n → (k ≡ m) × (l ≡ n)
words-injective k l m n e =
    (sym (low-words k l) ∙ ap low e ∙ low-words m n, sym (high-words k l) ∙ ap high e ∙ high-words m n)

pub zero≢one : zero ≡ one → ⊥
zero≢one e = let z : ◌≡◌ {A = ℕ} 0 1 = sym value-zero ∙ ap value e ∙ value-one in omega arith

-- ---- what is proper

pub proper-words : (lo hi : ℕ) → lo < 2 ^ 64 → hi < 2 ^ 64 → Proper (of_words lo hi)
unfolding of_words
proper-words lo hi l h = record { lo-fits = l; hi-fits = h }

pub proper-zero : Proper zero
unfolding zero
proper-zero = proper-words 0 0 (lit< tt) (lit< tt)

pub proper-one : Proper one
unfolding one
proper-one = proper-words 1 0 (lit< tt) (lit< tt)

pub proper-added : (x y : Gf128) → Proper x → Proper y → Proper (added x y)
unfolding added low high
proper-added x y p q = proper-words _ _ (⊕-lt 64 p.lo-fits q.lo-fits) (⊕-lt 64 p.hi-fits q.hi-fits)

pub proper-product : (x y : Gf128) → Proper (product x y)
unfolding product
proper-product x y = element-proper _

pub proper-shifted : (x : Gf128) (k : ℕ) → Proper (shifted x k)
unfolding shifted
proper-shifted x k = element-proper _

pub proper-power : (k : ℕ) → Proper (power k)
unfolding power
proper-power k = proper-shifted one k

-- ---- the sum

pub add_comm : (x y : Gf128) → added x y ≡ added y x
unfolding added
add_comm x y = ap₂ of_words (⊕-comm (low x) (low y)) (⊕-comm (high x) (high y))

pub add_assoc : (x y z : Gf128) → added (added x y) z ≡ added x (added y z)
unfolding added of_words low high
add_assoc x y z = ap₂ of_words (⊕-assoc x.lo y.lo z.lo) (⊕-assoc x.hi y.hi z.hi)

pub zero-add : (x : Gf128) → added zero x ≡ x
unfolding added zero of_words low high
zero-add x = ap₂ of_words (zero-⊕ x.lo) (zero-⊕ x.hi)

pub add-zero : (x : Gf128) → added x zero ≡ x
add-zero x = add_comm x zero ∙ zero-add x

pub add-self : (x : Gf128) → added x x ≡ zero
unfolding added zero
add-self x = ap₂ of_words (⊕-self (low x)) (⊕-self (high x))

-- x + y is zero exactly when y is x
pub added-zero : (x y : Gf128) → (added x y ≡ zero) ↔ (y ≡ x)
added-zero x y = (
  λ h. sym (zero-add y) ∙ ap (λ (w : Gf128). added w y) (sym (add-self x)) ∙ add_assoc x x y ∙ ap (added x) h ∙ add-zero x,
  λ h. ap (added x) h ∙ add-self x,
)

-- ---- the product

pub zero-mul : (x : Gf128) → product zero x ≡ zero
unfolding product
zero-mul x = ap (λ (n : ℕ). element (n ⊗ value x)) value-zero ∙ ap element (zero-⊗ (value x)) ∙ element-zero

pub mul-zero : (x : Gf128) → product x zero ≡ zero
unfolding product
mul-zero x = ap (λ (n : ℕ). element (value x ⊗ n)) value-zero ∙ ap element (⊗-zero (value x)) ∙ element-zero

pub one-mul : (x : Gf128) → Proper x → product one x ≡ x
unfolding product
one-mul x p = ap (λ (n : ℕ). element (n ⊗ value x)) value-one ∙ ap element (one-⊗ (value x) (value-lt p)) ∙ element-value p

pub mul-one : (x : Gf128) → Proper x → product x one ≡ x
unfolding product
mul-one x p = ap (λ (n : ℕ). element (value x ⊗ n)) value-one ∙ ap element (⊗-one (value x)) ∙ element-value p

pub mul_comm : (x y : Gf128) → Proper x → Proper y → product x y ≡ product y x
unfolding product
mul_comm x y p q = ap element (⊗-comm (value x) (value y) (value-lt p) (value-lt q))

pub mul_assoc : (x y z : Gf128) → Proper x → Proper y → product (product x y) z ≡ product x (product y z)
mul_assoc x y z p q =
    product_is _ z ∙ ap (λ (n : ℕ). element (n ⊗ value z)) (value-product y p)
    ∙ ap element (⊗-assoc (value x) (value y) (value z) (value-lt p) (value-lt q))
    ∙ ap (λ (n : ℕ). element (value x ⊗ n)) (sym (value-product z q)) ∙ sym (product_is x _)

pub mul-add : (x y z : Gf128) → Proper y → Proper z → product x (added y z) ≡ added (product x y) (product x z)
unfolding product
mul-add x y z p q =
    ap (λ (n : ℕ). element (value x ⊗ n)) (value-added p q) ∙ ap element (⊗-⊕ (value x) (value y) (value z)) ∙ element-⊕ _ _

pub add-mul : (x y z : Gf128) → Proper x → Proper y → product (added x y) z ≡ added (product x z) (product y z)
unfolding product
add-mul x y z p q =
    ap (λ (n : ℕ). element (n ⊗ value z)) (value-added p q) ∙ ap element (⊕-⊗ (value x) (value y) (value z)) ∙ element-⊕ _ _

-- ---- powers of t

pub power_zero : power 0 ≡ one
power_zero = power-is 0 ∙ element-word (lit< tt) ∙ words-one

pub power-past : (k : ℕ) → 128 ≤ k → power k ≡ zero
unfolding power
power-past k h = shifted_past one k h

-- the shift by k that drops nothing is the product with t^k
pub shift-is-product : (x : Gf128) (k : ℕ) → k < 128 → value x * 2 ^ k < 2 ^ 128 → shifted x k ≡ product x (power k)
shift-is-product x k l h =
    shifted-is x k ∙ ap element (sym (⊗-power k (value x) h)) ∙ ap (λ (n : ℕ). element (value x ⊗ n)) (sym (value-power k l))
    ∙ sym (product_is x (power k))

-- one more factor t
pub power-suc : (k : ℕ) → suc k < 128 → product (power k) (power 1) ≡ power (suc k)
power-suc k h =
    let e : value (power k) * 2 ^ 1 ≡ 2 ^ suc k = ap (λ (n : ℕ). n * 2) (value-power k (omega arith)) ∙ sym (pow-suc 2 k) in
    sym (shift-is-product (power k) 1 (lit< tt) (subst (λ (n : ℕ). n < 2 ^ 128) (sym e) (pow-lt h)))
    ∙ shifted-is (power k) 1 ∙ ap element e ∙ sym (power-is (suc k))
