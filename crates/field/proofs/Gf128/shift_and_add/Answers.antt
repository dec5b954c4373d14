-- The sum so far, and a times the rest of b, make the product all along. The rest of b is halved at each turn.
use mathlib.Core.Path.{◌≡◌, sym, ap, ap₂, ◌∙◌}
use mathlib.Core.Bool.{Bool, cond}
use Prim.Native.Nat.{ℕ, ◌/◌, ◌<◌}
use native.Mathlib.Omega.{arith}
use Rattle.field.specs.declared.Gf128.{Gf128}
use Rattle.field.specs.Gf.{value, zero, same, added, product}
use Rattle.field.specs.Gf.Tests.{ne_differ, ne_same}
use Rattle.field.specs.Gf.Tests.{same_true, same_false}
use Rattle.field.specs.Gf.Element.{value-injective, value-zero}
use Rattle.field.specs.Gf.Laws.{proper-zero, zero-add, add-zero, add_assoc, mul-zero}
use Rattle.field.specs.Gf.Loops.{value-down, one-turn}
use Rattle.field.proofs.Gf128.shift_and_add.Goals as goal

half-less : (m n : ℕ) → m ≡ n / 2 → (n ≡ 0 → ⊥) → m < n
half-less m n e f = omega arith

pub loop-a-init : goal.loop-a-init
loop-a-init c =
    let a = c.args in
    (omega arith, omega arith, ap (λ (x : Gf128). added x (product a.self a.rhs)) c.zero-sum.ensures ∙ zero-add _)

pub loop-a-smaller : goal.loop-a-smaller
loop-a-smaller c =
    let l = c.loop-a in
    let differs = same_false l.b zero (ap (same l.b) (sym c.zero.ensures) ∙ ne_differ l.b _ c.ne.ensures c.loop-a-test.true) in
    half-less _ _ (ap value c.shr-b.ensures ∙ value-down 1 l.invariant.1)
    (λ e. differs (value-injective l.invariant.1 proper-zero (e ∙ sym value-zero)))

pub loop-a-preserved : goal.loop-a-preserved
loop-a-preserved c =
    let l = c.loop-a in
    let odd_is = c.is_odd.ensures in
    let part = c.times_bit.ensures ∙ ap (λ (b : Bool). cond b l.a zero) odd_is in (
      omega arith,
      omega arith,
      ap₂ added (c.add-sum.ensures ∙ ap (added l.sum) part) (ap₂ product c.times_t-a.ensures c.shr-b.ensures)
          ∙ add_assoc _ _ _ ∙ ap (added l.sum) (sym (one-turn l.a l.b l.invariant.0 l.invariant.1)) ∙ l.invariant.2,
    )

pub returns : goal.returns
returns c =
    let l = c.loop-a in
    let done = same_true l.b zero (ap (same l.b) (sym c.zero.ensures) ∙ ne_same l.b _ c.ne.ensures c.loop-a-test.false) in
    sym (ap (added l.sum) (ap (product l.a) done ∙ mul-zero l.a) ∙ add-zero l.sum) ∙ l.invariant.2
