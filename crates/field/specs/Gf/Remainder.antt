-- What the modulus is to a product: `times-t` takes it off once, and no multiple of it but 0 has a degree below 128. What follows, that the
-- field's product is the one remainder, stands in proofs/Laws/Remainder.antt.
use Rattle.std.specs.Prelude.{◌≡◌, ℕ, zero, suc, ◌*◌, ◌/◌, ◌%◌, ◌^◌, ◌<◌}
use Rattle.std.proofs.Common.{sym, ap, ◌∙◌, subst, mod-lt, div-add-mod', lt_of_lt_of_le, arith, pow_pos, pow_mono, shr_lt, shr-shr, lit<}
use Rattle.std.proofs.Math.Nat.{div-eq_of_lt}
use Rattle.std.proofs.Math.Arith.{lt-one}
use Rattle.std.proofs.lemmas.Nat.{shl-shr}
use Rattle.std.proofs.Math.Pow.{shr_mod}
use Rattle.field.specs.Gf.{bit, ◌⊕◌, scale, times-t, clmul, modulus}
use Rattle.field.specs.Gf.Coefficient.{bit_is, bit-lt}
use Rattle.field.specs.Gf.Sum.{⊕-comm, ⊕-swap, ⊕-self, ⊕-equal, ⊕-zero, ⊕-shr, ⊕-disjoint, scale-⊕, scale-is}
use Rattle.field.specs.Gf.Carryless.{⊕-clmul, clmul-lt, power-clmul}

-- t times a polynomial of degree below 128: times-t takes the modulus off once, where t^128 comes up
pub reduced : (a : ℕ) → a < 2 ^ 128 → a * 2 ≡ times-t a ⊕ scale (bit a 127) modulus
unfolding times-t modulus
reduced a h = let c = bit a 127 in
    sym (div-add-mod' (a * 2) (2 ^ 128)) ∙ sym (⊕-disjoint (a * 2 / 2 ^ 128) 128 (mod-lt (a * 2) (pow_pos 128)))
    ∙ ⊕-comm _ _
    ∙ ap (λ (x : ℕ). a * 2 % 2 ^ 128 ⊕ x) (ap (λ (x : ℕ). x * 2 ^ 128) top ∙ sym (scale-is c (2 ^ 128) (bit-lt a 127)))
    ∙ sym (⊕-zero _) ∙ ap (λ (x : ℕ). a * 2 % 2 ^ 128 ⊕ scale c (2 ^ 128) ⊕ x) (sym (⊕-self (scale c 0x87)))
    ∙ ⊕-swap _ _ _ _ ∙ ap (λ (x : ℕ). times-t a ⊕ x) (sym (scale-⊕ c (2 ^ 128) 0x87) ∙ ap (scale c) (⊕-disjoint 1 128 (lit< tt)))
  where
    top : a * 2 / 2 ^ 128 ≡ bit a 127
    top = sym (shr-shr (a * 2) 1 127) ∙ ap (λ (x : ℕ). x / 2 ^ 127) (shl-shr a 1) ∙ sym (shr_mod 1 127 h) ∙ sym (bit_is a 127)

-- no multiple of the modulus but 0 has a degree below 128: the factor would equal its own part above t^128 of the product
-- with 0x87, which is shorter
pub multiple-zero : (m z : ℕ) → z < 2 ^ m → clmul modulus z < 2 ^ 128 → z ≡ 0
unfolding modulus
multiple-zero zero z h l = lt-one h
multiple-zero (suc m) z h l =
    let c = clmul 0x87 z in
    let parts : clmul modulus z ≡ z * 2 ^ 128 ⊕ c =
    ap (λ (x : ℕ). clmul x z) (sym (⊕-disjoint 1 128 (lit< tt))) ∙ ⊕-clmul (2 ^ 128) 0x87 z ∙ ap (λ (x : ℕ). x ⊕ c) (power-clmul 128 z) in
    let above : z ⊕ c / 2 ^ 128 ≡ 0 =
    ap (λ (x : ℕ). x ⊕ c / 2 ^ 128) (sym (shl-shr z 128)) ∙ sym (⊕-shr (z * 2 ^ 128) c 128)
    ∙ ap (λ (x : ℕ). x / 2 ^ 128) (sym parts) ∙ div-eq_of_lt l in
    let shorter = shr_lt m 128 (lt_of_lt_of_le (clmul-lt 8 (suc m) 0x87 z (lit< tt) h) (pow_mono (omega arith))) in
    multiple-zero m z (subst (λ (x : ℕ). x < 2 ^ m) (sym (⊕-equal z (c / 2 ^ 128) above)) shorter) l
