-- A factor 0 or 1 takes all of the other or nothing; any other product goes step by step.
use mathlib.Core.Path.{sym, ap, ◌∙◌}
use mathlib.Core.Bool.{Bool, cond}
use native.Mathlib.Omega.{arith}
use Rattle.field.specs.declared.Gf128.{Gf128}
use Rattle.field.specs.Gf.{zero, product, odd}
use Rattle.field.specs.Gf.Tests.{is_bit-true}
use Rattle.field.specs.Gf.Bits.{bit-mul, mul-bit}
use Rattle.field.proofs.Gf128.mul.Goals as goal

pub returns-then-is_bit : goal.returns-then-is_bit
returns-then-is_bit c =
    let a = c.args in let x = a.self in let y = a.rhs in
    let is = is_bit-true x (sym c.is_bit.ensures ∙ c.if-is_bit.true) in
    c.times_bit.ensures ∙ ap (λ (b : Bool). cond b y zero) c.is_odd.ensures
    ∙ sym (ap (λ (z : Gf128). product z y) is ∙ bit-mul (odd x) y (omega arith))

pub returns-then-is_bit-2 : goal.returns-then-is_bit-2
returns-then-is_bit-2 c =
    let a = c.args in let x = a.self in let y = a.rhs in
    let is = is_bit-true y (sym c.is_bit-2.ensures ∙ c.if-is_bit-2.true) in
    c.times_bit-then-is_bit-2.ensures ∙ ap (λ (b : Bool). cond b x zero) c.is_odd-then-is_bit-2.ensures
    ∙ sym (ap (product x) is ∙ mul-bit x (odd y) (omega arith))
