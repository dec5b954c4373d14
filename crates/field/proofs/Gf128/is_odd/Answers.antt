-- The coefficient of t^0 is the low word's lowest bit.
use mathlib.Core.Path.{◌≡◌, sym, ap, ◌∙◌}
use Prim.Native.Nat.{ℕ, ◌%◌}
use native.Mathlib.Omega.{arith}
use lib.Dec.{eqb}
use lib.Bits.{and_mask}
use Rattle.field.specs.Gf.{value}
use Rattle.field.specs.Gf.Coefficient.{bit-first}
use Rattle.field.specs.Gf.Words.{value-is}
use Rattle.field.proofs.Gf128.is_odd.Goals as goal

pub returns : goal.returns
returns c =
    let x = c.args.self in
    let e : x.lo % 2 ≡ value x % 2 = omega (arith, value-is x) in
    ap (λ (n : ℕ). eqb n 1) (and_mask x.lo 1 ∙ e ∙ sym (bit-first (value x)))
