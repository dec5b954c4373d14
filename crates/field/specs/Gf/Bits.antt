-- A bit as an element: 0 or 1.
use Rattle.std.specs.Prelude.{◌≡◌, refl, ◌↔◌, Bool, true, false, cond, ℕ, eqb}
use Rattle.std.proofs.Common.{sym, ap, ◌∙◌}
use Rattle.std.proofs.lemmas.Bool.{false≢true}
use Rattle.base.specs.Bits.{digit}
use Rattle.field.specs.declared.Gf128.{Gf128}
use Rattle.field.specs.Gf.{of_words, low, Proper, zero, product, of_bit}
use Rattle.field.specs.Gf.Laws.{words-zero, words-one, low-words, proper-zero, proper-one, zero-mul, mul-zero, one-mul, mul-one}

pub proper-bit : (b : Bool) → Proper (of_bit b)
proper-bit true = proper-one
proper-bit false = proper-zero

-- its words
pub bit-words : (b : Bool) → of_words (digit b) 0 ≡ of_bit b
bit-words true = words-one
bit-words false = words-zero

-- its low word tells which it is
pub low_bit : (b : Bool) → eqb (low (of_bit b)) 1 ≡ b
low_bit true = ap (λ (x : Gf128). eqb (low x) 1) (sym words-one) ∙ ap (λ (n : ℕ). eqb n 1) (low-words 1 0)
low_bit false = ap (λ (x : Gf128). eqb (low x) 1) (sym words-zero) ∙ ap (λ (n : ℕ). eqb n 1) (low-words 0 0)

pub as-bit : {x : Gf128} (b : Bool) → x ≡ of_bit b → x ≡ of_bit (eqb (low x) 1)
as-bit b e = e ∙ ap (λ (c : Bool). of_bit c) (sym (ap (λ (y : Gf128). eqb (low y) 1) e ∙ low_bit b))

-- times a bit: all or nothing
pub bit-mul : (b : Bool) (x : Gf128) → Proper x → product (of_bit b) x ≡ cond b x zero
bit-mul true x p = one-mul x p
bit-mul false x p = zero-mul x

pub mul-bit : (x : Gf128) (b : Bool) → Proper x → product x (of_bit b) ≡ cond b x zero
mul-bit x true p = mul-one x p
mul-bit x false p = mul-zero x

-- a bit times an element is zero exactly when the element is, where the bit is 1
pub bit-gates : (b : Bool) (x : Gf128) → Proper x → (product (of_bit b) x ≡ zero) ↔ (b ≡ true → x ≡ zero)
bit-gates true x p = (λ h e. sym (bit-mul true x p) ∙ h, λ h. bit-mul true x p ∙ h refl)
bit-gates false x p = (λ h e. absurd (false≢true e), λ h. bit-mul false x p)
