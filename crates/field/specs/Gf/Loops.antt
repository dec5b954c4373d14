-- One turn of each loop in the code, as a law: for this crate's own proofs.
use Rattle.std.specs.Prelude.{◌≡◌, cond, ℕ, suc, ◌/◌, ◌^◌, ◌<◌, eqb}
use Rattle.std.proofs.Common.{sym, ap, ap₂, ◌∙◌, lt_of_le_of_lt}
use Rattle.std.proofs.lemmas.Nat.{shr_le}
use Rattle.base.specs.Laws.Numbers.{zero-or-one}
use Rattle.field.specs.declared.Gf128.{Gf128}
use Rattle.field.specs.Gf.{bit, scale, ◌⊗◌, value, Proper, element, zero, added, product, power, odd}
use Rattle.field.specs.Gf.Coefficient.{bit-lt, bit-first}
use Rattle.field.specs.Gf.Sum.{scale-zero, scale_one}
use Rattle.field.specs.Gf.Product.{⊗-step}
use Rattle.field.specs.Gf.Element.{value-lt, value-element-lt, value-times-t, element-value, element-zero, element-⊕, product_is}
use Rattle.field.specs.Gf.Laws.{proper-power, mul-one, mul_assoc, power_zero, power-suc}

-- x · t^0 = x, and x · t^k · t = x · t^(k + 1)
pub no-factor : (x : Gf128) → Proper x → product x (power 0) ≡ x
no-factor x p = ap (product x) power_zero ∙ mul-one x p

pub one-factor : (x : Gf128) (k : ℕ) → Proper x → suc k < 128 → product (product x (power k)) (power 1) ≡ product x (power (suc k))
one-factor x k p h = mul_assoc x (power k) (power 1) p (proper-power k) ∙ ap (product x) (power-suc k h)

-- a shift down drops nothing above
pub value-down : {x : Gf128} (k : ℕ) → Proper x → value (element (value x / 2 ^ k)) ≡ value x / 2 ^ k
value-down {x} k p = value-element-lt (lt_of_le_of_lt (shr_le (value x) k) (value-lt p))

-- the first coefficient of y adds x or nothing; the others go with x · t
pub one-turn : (x y : Gf128) → Proper x → Proper y
    → product x y ≡ added (cond (odd y) x zero) (product (product x (power 1)) (element (value y / 2)))
one-turn x y p q =
    product_is x y ∙ ap element (⊗-step (value x) (value y)) ∙ element-⊕ _ _
    ∙ ap₂ added
    (ap (λ (c : ℕ). element (scale c (value x))) (sym (bit-first (value y))) ∙ multiple (bit (value y) 0) (bit-lt (value y) 0))
    (ap element (ap₂ ◌⊗◌ (sym (value-times-t p)) (sym (value-down 1 q))) ∙ sym (product_is _ _))
  where
    multiple : (c : ℕ) → c < 2 → element (scale c (value x)) ≡ cond (eqb c 1) x zero
    multiple =
        zero-or-one (λ (c : ℕ). element (scale c (value x)) ≡ cond (eqb c 1) x zero)
        (ap element (scale-zero (value x)) ∙ element-zero) (ap element (scale_one (value x)) ∙ element-value p)
