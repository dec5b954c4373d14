-- What the tests on elements say.
use Rattle.std.specs.Prelude.{◌≡◌, refl, Bool, true, false, not, ◌&&◌, ◌||◌, ℕ, eqb}
use Rattle.std.proofs.Common.{sym, ap, ap₂, ◌∙◌, eqb-true, eq-eqb}
use Rattle.std.proofs.lemmas.Bool.{false≢true, not-true, not-false}
use Rattle.std.proofs.Math.Bool.{or-true}
use Rattle.base.specs.Laws.Tests.{both}
use Rattle.field.specs.declared.Gf128.{Gf128}
use Rattle.field.specs.Gf.{bit, of_words, low, high, zero, one, same, is_bit, of_bit, odd}
use Rattle.field.specs.Gf.Words.{same-is}
use Rattle.field.specs.Gf.Coefficient.{bit-first}
use Rattle.field.specs.Gf.Element.{value-zero, value-one}
use Rattle.field.specs.Gf.Laws.{words}

-- `same` is equality
pub same_true : (x y : Gf128) → same x y ≡ true → x ≡ y
unfolding same
same_true x y e =
    let t = both _ _ e in
    sym (words x) ∙ ap₂ of_words (eqb-true (low x) (low y) t.0) (eqb-true (high x) (high y) t.1) ∙ words y

pub same_self : (x : Gf128) → same x x ≡ true
unfolding same
same_self x = ap₂ ◌&&◌ (eq-eqb (low x) (low x) refl) (eq-eqb (high x) (high x) refl)

pub same_false : (x y : Gf128) → same x y ≡ false → x ≡ y → ⊥
same_false x y f e = false≢true (sym f ∙ ap (same x) (sym e) ∙ same_self x)

-- what `==` and `!=` answer of two elements
pub eq_same : {r : Bool} (x y : Gf128) → r ≡ (eqb x.lo y.lo && eqb x.hi y.hi) → r ≡ same x y
eq_same x y e = e ∙ same-is x y

pub ne_not : {r : Bool} (x y : Gf128) → r ≡ not (eqb x.lo y.lo && eqb x.hi y.hi) → r ≡ not (same x y)
ne_not x y e = e ∙ ap not (same-is x y)

pub ne_differ : {r : Bool} (x y : Gf128) → r ≡ not (eqb x.lo y.lo && eqb x.hi y.hi) → r ≡ true → same x y ≡ false
ne_differ x y e h = not-true _ (sym (ne_not x y e) ∙ h)

pub ne_same : {r : Bool} (x y : Gf128) → r ≡ not (eqb x.lo y.lo && eqb x.hi y.hi) → r ≡ false → same x y ≡ true
ne_same x y e h = not-false _ (sym (ne_not x y e) ∙ h)

-- `is_bit` holds of 0 and 1, and of nothing else
pub is_bit-bit : (b : Bool) → is_bit (of_bit b) ≡ true
unfolding is_bit
is_bit-bit true = ap (◌||◌ (same one zero)) (same_self one) ∙ or-true (same one zero)
is_bit-bit false = ap (λ (b : Bool). b || same zero one) (same_self zero)

odd-zero : odd zero ≡ false
odd-zero = ap (λ (n : ℕ). eqb (bit n 0) 1) value-zero ∙ ap (λ (n : ℕ). eqb n 1) (bit-first 0)

odd-one : odd one ≡ true
odd-one = ap (λ (n : ℕ). eqb (bit n 0) 1) value-one ∙ ap (λ (n : ℕ). eqb n 1) (bit-first 1)

pub is_bit-true : (x : Gf128) → is_bit x ≡ true → x ≡ of_bit (odd x)
unfolding is_bit
is_bit-true x e = go (same x zero) refl e
  where
    from : {y : Gf128} {b : Bool} → x ≡ y → odd y ≡ b → y ≡ of_bit b → x ≡ of_bit (odd x)
    from {y} q o h = q ∙ h ∙ ap (λ (b : Bool). of_bit b) (sym (ap (λ (z : Gf128). odd z) q ∙ o))

    go : (b : Bool) → same x zero ≡ b → (b || same x one) ≡ true → x ≡ of_bit (odd x)
    go true z t = from (same_true x zero z) odd-zero refl
    go false z t = from (same_true x one t) odd-one refl
