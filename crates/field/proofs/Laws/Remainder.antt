-- What the field's product is: the one polynomial of degree below 128 that differs from the carry-less product by a
-- multiple of the modulus.
use Rattle.std.specs.Prelude.{◌≡◌, ℕ, zero, suc, ◌+◌, ◌*◌, ◌/◌, ◌%◌, ◌^◌, ◌<◌}
use Rattle.std.proofs.Common.{sym, ap, ap₂, ◌∙◌, subst, pow-suc, arith, lit<}
use Rattle.std.proofs.Math.Arith.{bin_ind, digits_mod, digits_div}
use Rattle.field.specs.declared.Gf128.{Gf128}
use Rattle.field.specs.Gf.{bit, ◌⊕◌, scale, ◌⊗◌, clmul, modulus, value, Proper, product, IsProduct}
use Rattle.field.specs.Gf.Coefficient.{bit-lt}
use Rattle.field.specs.Gf.Sum.{⊕-assoc, ⊕-swap, ⊕-self, ⊕-equal, zero-⊕, ⊕-lt}
use Rattle.field.specs.Gf.Product.{⊗-zero, ⊗-horner, ⊗-lt}
use Rattle.field.specs.Gf.Carryless.{double-⊕, clmul-zero, clmul-horner, clmul-⊕}
use Rattle.field.specs.Gf.Element.{value-lt, value-injective, value-product}
use Rattle.field.specs.Gf.Laws.{proper-product}
use Rattle.field.specs.Gf.Remainder.{reduced, multiple-zero}

-- ---- the product is one

pub ⊗-is-product : (a b : ℕ) → a < 2 ^ 128 → IsProduct a b (a ⊗ b)
⊗-is-product a b h = let r = go b in record { small = ⊗-lt b h; quotient = r.0; divides = r.1 }
  where
    go : (b : ℕ) → (q : ℕ) × (clmul a b ≡ a ⊗ b ⊕ clmul modulus q)
    go =
        bin_ind (λ (b : ℕ). (q : ℕ) × (clmul a b ≡ a ⊗ b ⊕ clmul modulus q)) (0, simp (clmul-zero, ⊗-zero, zero-⊕))
        (λ b ih. let x = a ⊗ (b / 2) in let c = bit x 127 in let q = ih.0 in (
          q * 2 + c,
          clmul-horner a b
              ∙ ap (λ (y : ℕ). scale (b % 2) a ⊕ y)
              (ap (λ (y : ℕ). y * 2) ih.1 ∙ double-⊕ x (clmul modulus q)
              ∙ ap (λ (y : ℕ). y ⊕ clmul modulus q * 2) (reduced x (⊗-lt (b / 2) h)) ∙ ⊕-assoc _ _ _)
              ∙ sym (⊕-assoc _ _ _)
              ∙ ap₂ ◌⊕◌ (sym (⊗-horner a b))
              (sym (rw (clmul-horner modulus (q * 2 + c), digits_mod q (bit-lt x 127), digits_div q (bit-lt x 127)))),
        ))

-- ---- there is no other

lt-power : (n : ℕ) → n < 2 ^ n
lt-power zero = lit< tt
lt-power (suc n) = let h = lt-power n in rw pow-suc (omega arith)

pub product-unique : (a b r : ℕ) → a < 2 ^ 128 → IsProduct a b r → r ≡ a ⊗ b
product-unique a b r h p =
    let t = ⊗-is-product a b h in let x = a ⊗ b in
    let Q = clmul modulus p.quotient in let R = clmul modulus t.quotient in
    let z = p.quotient ⊕ t.quotient in
    let e : r ⊕ Q ≡ x ⊕ R = sym p.divides ∙ t.divides in
    let d : r ⊕ x ≡ clmul modulus z =
    ⊕-equal (r ⊕ x) (Q ⊕ R) (⊕-swap r x Q R ∙ ap (λ (n : ℕ). n ⊕ (x ⊕ R)) e ∙ ⊕-self (x ⊕ R))
    ∙ sym (clmul-⊕ modulus p.quotient t.quotient) in
    let none = multiple-zero z z (lt-power z) (subst (λ (n : ℕ). n < 2 ^ 128) d (⊕-lt 128 p.small t.small)) in
    ⊕-equal r x (d ∙ ap (clmul modulus) none ∙ clmul-zero modulus)

-- ---- the same of elements

pub product-is-remainder : (x y : Gf128) → Proper x → IsProduct (value x) (value y) (value (product x y))
product-is-remainder x y p = subst (IsProduct (value x) (value y)) (sym (value-product y p)) (⊗-is-product (value x) (value y) (value-lt p))

pub remainder-is-product : (x y r : Gf128) → Proper x → Proper r → IsProduct (value x) (value y) (value r) → r ≡ product x y
remainder-is-product x y r p q h =
    value-injective q (proper-product x y) (product-unique (value x) (value y) (value r) (value-lt p) h ∙ sym (value-product y p))
