-- By how many words the bits pass, none, one or both: each word of the result is made of the bits that come to lie there.
use mathlib.Core.Path.{sym, ap, ◌∙◌}
use Prim.Native.Nat.{ℕ, ◌-◌, ◌*◌, ◌/◌, ◌%◌, ◌^◌}
use native.Mathlib.Nat.{mul-one, mul-mod_left}
use native.Mathlib.Omega.{arith}
use borrow.Author.Rules.{rules}
use lib.Pow.{shl-shr}
use Rattle.field.specs.Gf.{value, Proper, element}
use Rattle.field.specs.Gf.Element.{element-value, shifted-is, shl-past, shifted_past}
use Rattle.field.specs.Gf.Words.{value-is, element-words}
use Rattle.field.proofs.Shift.{up-low, up-high}
use Rattle.field.proofs.Gf128.shl.Goals as goal

pub returns-then-k-eq0 : goal.returns-then-k-eq0
returns-then-k-eq0 c =
    let x = c.args.self in
    let p : Proper x = omega arith in
    sym (shifted-is x _ ∙ ap (λ (k : ℕ). element (value x * 2 ^ k)) c.if-k-eq0.true ∙ ap element (mul-one (value x)) ∙ element-value p)

pub returns-then-k-lt64 : goal.returns-then-k-lt64
returns-then-k-lt64 c =
    let a = c.args in let x = a.self in
    let p : Proper x = omega arith in
    element-words _ _ _ (ap (λ (n : ℕ). n * 2 ^ a.k % 2 ^ 64) (value-is x) ∙ up-low 64 a.k x.hi x.lo)
    (ap (λ (n : ℕ). n * 2 ^ a.k / 2 ^ 64 % 2 ^ 64) (value-is x) ∙ up-high 64 (64 - a.k) a.k x.hi x.lo (omega arith) p.lo-fits)
    ∙ sym (shifted-is x a.k)

pub returns-then-k-lt128 : goal.returns-then-k-lt128
returns-then-k-lt128 c =
    let a = c.args in let x = a.self in
    let e = shl-past 64 a.k (value x) (omega arith) in
    element-words _ _ _ (ap (λ (n : ℕ). n % 2 ^ 64) e ∙ mul-mod_left _ (2 ^ 64))
    (ap (λ (n : ℕ). n / 2 ^ 64 % 2 ^ 64) e
    ∙ ap (λ (n : ℕ). n % 2 ^ 64) (shl-shr (value x * 2 ^ (a.k - 64)) 64 ∙ ap (λ (n : ℕ). n * 2 ^ (a.k - 64)) (value-is x))
    ∙ up-low 64 (a.k - 64) x.hi x.lo)
    ∙ sym (shifted-is x a.k)

pub returns : goal.returns
returns c = search (shifted_past, rules)
