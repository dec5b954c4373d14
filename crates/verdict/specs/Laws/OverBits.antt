-- Over columns that hold 0 or 1, a row whose coefficients are 0 or 1 says over the field what it says over bits.
-- Assumes nothing.
use Rattle.std.specs.Prelude.{◌≡◌, Bool, true, false, not, ◌&&◌, ℕ}
use Rattle.std.proofs.Math.Path.{refl, ap₂}
use Rattle.std.proofs.Common.{sym, ap, ◌∙◌, eqb-true}
use mathlib.Core.List.{List, [], ◌∷◌}
use Rattle.base.specs.Bits.{◌⊻◌}
use Rattle.base.specs.Laws.Tests.{both}
use Rattle.field.specs.declared.Gf128.{Gf128}
use Rattle.field.specs.Gf.{zero, one, same, added, product, power, of_bit}
use Rattle.field.specs.Gf.Tests.{same_true, same_self}
use Rattle.field.specs.Gf.Laws.{zero≢one, proper-zero, proper-one, add-zero, zero-add, add-self, zero-mul, mul-one, one-mul, power_zero}
use Rattle.circuit.specs.declared.Coefficient.{Coefficient}
use Rattle.circuit.specs.declared.Coefficient.TheVariants.{Zero, Power}
use Rattle.circuit.specs.Rows.{Term, Sides}
use Rattle.verdict.specs.Row.{times, sum_of, balanced, holds}
use Rattle.verdict.specs.OverBits.{is_plain, is_one, plain, sum_bits, plain_row, holds_bits}

-- ---- bits in the field

pub add-bits : (x y : Bool) → added (of_bit x) (of_bit y) ≡ of_bit (x ⊻ y)
add-bits true true = add-self one
add-bits true false = add-zero one
add-bits false y = zero-add (of_bit y)

pub mul-bits : (x y : Bool) → product (of_bit x) (of_bit y) ≡ of_bit (x && y)
mul-bits true true = one-mul one proper-one
mul-bits true false = one-mul zero proper-zero
mul-bits false y = zero-mul (of_bit y)

pub same_bits_lem : (x y : Bool) → same (of_bit x) (of_bit y) ≡ not (x ⊻ y)
same_bits_lem true true = same_self one
same_bits_lem false false = same_self zero
same_bits_lem true false = differ (same one zero) refl
  where
    differ : (b : Bool) → same one zero ≡ b → same one zero ≡ false
    differ true e = absurd (zero≢one (sym (same_true one zero e)))
    differ false e = e
same_bits_lem false true = differ (same zero one) refl
  where
    differ : (b : Bool) → same zero one ≡ b → same zero one ≡ false
    differ true e = absurd (zero≢one (same_true zero one e))
    differ false e = e

module _ (z : ℕ → Gf128) (b : ℕ → Bool) (bits : (c : ℕ) → z c ≡ of_bit (b c)) where
  term-bits : (k : Coefficient) (c : ℕ) → is_plain k ≡ true → times k (z c) ≡ of_bit (is_one k && b c)
  term-bits Zero c e = refl
  term-bits (Power k) c e =
      ap₂ product (bits c) (ap power (eqb-true k 0 e) ∙ power_zero) ∙ by_bit (b c)
    where
      by_bit : (x : Bool) → product (of_bit x) one ≡ of_bit x
      by_bit true = mul-one one proper-one
      by_bit false = zero-mul one

  pub sum-bits : (ts : List Term) → plain ts ≡ true → sum_of z ts ≡ of_bit (sum_bits b ts)
  unfolding sum_of plain sum_bits
  sum-bits [] e = refl
  sum-bits (t ∷ ts) e =
      let p = both (is_plain t.coefficient) (plain ts) e in
      ap₂ added (term-bits t.coefficient t.column p.0) (sum-bits ts p.1)
      ∙ add-bits (is_one t.coefficient && b t.column) (sum_bits b ts)

  pub holds-bits : (s : Sides) → plain_row s ≡ true → holds z s ≡ holds_bits b s
  unfolding balanced
  holds-bits s e =
      let p = both (plain s.a) (plain s.b && plain s.c) e in let q = both (plain s.b) (plain s.c) p.1 in
      ap₂ same (ap₂ product (sum-bits s.a p.0) (sum-bits s.b q.0) ∙ mul-bits (sum_bits b s.a) (sum_bits b s.b))
      (sum-bits s.c q.1)
      ∙ same_bits_lem (sum_bits b s.a && sum_bits b s.b) (sum_bits b s.c)
