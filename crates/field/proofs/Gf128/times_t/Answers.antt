-- The bits move up, and the one that passes bit 127 comes back as t^7 + t^2 + t + 1.
use mathlib.Core.Path.{◌≡◌, sym, ap, ap₂, ◌∙◌}
use Prim.Native.Nat.{ℕ, ◌+◌, ◌*◌, ◌/◌, ◌%◌, ◌^◌}
use native.Mathlib.Nat.{zero-add, mul_comm}
use native.Mathlib.Omega.{arith}
use lib.Pow.{high, shr-shr, shr_mod}
use Rattle.field.specs.declared.Gf128.{Gf128}
use Rattle.field.specs.Gf.{◌⊕◌, bit, value, Proper}
use Rattle.field.specs.Gf.Coefficient.{bit_is, bit-lt}
use Rattle.field.specs.Gf.Sum.{scale-is}
use Rattle.field.specs.Gf.Product.{times-t-is}
use Rattle.field.specs.Gf.Element.{value-injective, value-element, value-added, value-times-t, shifted-is}
use Rattle.field.specs.Gf.Words.{value-is}
use Rattle.field.specs.Gf.Laws.{proper-product}
use Rattle.field.proofs.Gf128.times_t.Goals as goal

-- the coefficient of t^127 is the high word's highest bit
top_bit : {x : Gf128} → Proper x → bit (value x) 127 ≡ x.hi / 2 ^ 63
top_bit {x} p =
    bit_is (value x) 127 ∙ ap (λ (n : ℕ). n / 2 ^ 127 % 2) (value-is x)
    ∙ ap (λ (n : ℕ). n % 2) (sym (shr-shr (x.hi * 2 ^ 64 + x.lo) 64 63) ∙ ap (λ (n : ℕ). n / 2 ^ 63) (high x.hi 64 p.lo-fits))
    ∙ shr_mod 1 63 p.hi-fits

pub returns : goal.returns
returns c =
    let x = c.args.self in let v = value x in
    let up = c.shl in
    let p : Proper x = omega arith in let q : Proper up.result = omega arith in let r : Proper c.add.result = omega arith in
    value-injective r (proper-product x _)
    (ap value c.add.ensures ∙ value-added q (omega arith)
    ∙ ap₂ ◌⊕◌ (ap value (up.ensures ∙ shifted-is x 1) ∙ value-element (v * 2))
    (value-is _ ∙ zero-add _ ∙ mul_comm _ _ ∙ ap (λ (d : ℕ). d * 0x87) (sym (top_bit p)) ∙ sym (scale-is (bit v 127) 0x87 (bit-lt v 127)))
    ∙ sym (value-times-t p ∙ times-t-is v))
