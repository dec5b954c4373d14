-- Where nothing passes bit 127 the shift is the product; else after i turns r is the product with t^i.
use mathlib.Core.Path.{sym, ap, ◌∙◌}
use Prim.Native.Nat.{ℕ, ◌-◌}
use native.Mathlib.Numerals.{add-one}
use native.Mathlib.Omega.{arith}
use Rattle.field.specs.declared.Gf128.{Gf128}
use Rattle.field.specs.Gf.{value, Proper, zero, same, product, power}
use Rattle.field.specs.Gf.Tests.{eq_same}
use Rattle.field.specs.Gf.Tests.{same_true}
use Rattle.field.specs.Gf.Element.{value-zero}
use Rattle.field.specs.Gf.Laws.{mul-zero, power-past, shift-is-product}
use Rattle.field.specs.Gf.Loops.{no-factor, one-factor, value-down}
use Rattle.field.proofs.Shift.{stays}
use Rattle.field.proofs.Gf128.times_power.Goals as goal

pub returns-then-k-eq0 : goal.returns-then-k-eq0
returns-then-k-eq0 c =
    let x = c.args.self in
    let p : Proper x = omega arith in
    sym (ap (λ (k : ℕ). product x (power k)) c.if-k-eq0.true ∙ no-factor x p)

pub returns-then-k-ge128 : goal.returns-then-k-ge128
returns-then-k-ge128 c =
    let a = c.args in
    c.zero.ensures ∙ sym (ap (product a.self) (power-past a.k (omega arith)) ∙ mul-zero a.self)

pub returns-then-eq : goal.returns-then-eq
returns-then-eq c =
    let a = c.args in let x = a.self in
    let p : Proper x = omega arith in
    let above = c.shr in
    let test = eq_same above.result _ c.eq.ensures ∙ ap (same above.result) c.zero-2.ensures in
    let empty = same_true above.result zero (sym test ∙ c.if-eq.true) in
    let none = sym (value-down (128 - a.k) p) ∙ ap value (sym above.ensures ∙ empty) ∙ value-zero in
    c.shl.ensures ∙ shift-is-product x a.k (omega arith) (stays 128 (128 - a.k) a.k (value x) (omega arith) none)

pub loop-init : goal.loop-init
loop-init c = (omega arith, sym (no-factor c.args.self (omega arith)))

pub loop-preserved : goal.loop-preserved
loop-preserved c =
    let l = c.loop in
    let x = c.args.self in (
      omega arith,
      c.times_t-r.ensures ∙ ap (λ (y : Gf128). product y (power 1)) l.invariant.1 ∙ one-factor x l.counter (omega arith) (omega arith)
          ∙ ap (λ (k : ℕ). product x (power k)) (sym (add-one l.counter)),
    )
