-- As `shl`, the other way: by how many words the bits pass.
use mathlib.Core.Path.{◌≡◌, sym, ap, ap₂, ◌∙◌}
use Prim.Native.Nat.{ℕ, ◌+◌, ◌-◌, ◌/◌, ◌%◌, ◌^◌}
use native.Mathlib.Nat.{div-one, div-eq_of_lt, lt_of_lt_of_le, lt_of_le_of_lt}
use native.Mathlib.Omega.{arith}
use lib.Pow.{pow_mono, shr_le}
use Rattle.field.specs.Gf.{value, Proper, element}
use Rattle.field.specs.Gf.Element.{value-lt, element-value, element-word, element-zero}
use Rattle.field.specs.Gf.Words.{words_are, value-is, element-words}
use Rattle.field.proofs.Shift.{straddle, down-high, down-past}
use Rattle.field.proofs.Gf128.shr.Goals as goal

pub returns-then-k-eq0 : goal.returns-then-k-eq0
returns-then-k-eq0 c =
    let x = c.args.self in
    let p : Proper x = omega arith in
    sym (ap (λ (k : ℕ). element (value x / 2 ^ k)) c.if-k-eq0.true ∙ ap element (div-one (value x)) ∙ element-value p)

pub returns-then-k-lt64 : goal.returns-then-k-lt64
returns-then-k-lt64 c =
    let a = c.args in let x = a.self in
    let p : Proper x = omega arith in
    element-words _ _ _
    (ap (λ (n : ℕ). n / 2 ^ a.k % 2 ^ 64) (value-is x) ∙ straddle 64 a.k (64 - a.k) x.hi x.lo (omega arith) p.lo-fits)
    (ap (λ (n : ℕ). n / 2 ^ a.k / 2 ^ 64 % 2 ^ 64) (value-is x) ∙ down-high 64 a.k x.hi x.lo p.lo-fits p.hi-fits)

pub returns-then-k-lt128 : goal.returns-then-k-lt128
returns-then-k-lt128 c =
    let a = c.args in let x = a.self in
    let p : Proper x = omega arith in
    let e : a.k ≡ 64 + (a.k - 64) = omega arith in
    words_are _ 0 ∙ sym (element-word (lt_of_le_of_lt (shr_le x.hi (a.k - 64)) p.hi-fits))
    ∙ ap element (sym (ap₂ (λ (n k : ℕ). n / 2 ^ k) (value-is x) e ∙ down-past 64 (a.k - 64) x.hi x.lo p.lo-fits))

pub returns : goal.returns
returns c =
    let a = c.args in let x = a.self in
    let p : Proper x = omega arith in
    c.zero.ensures ∙ sym element-zero
    ∙ ap element (sym (div-eq_of_lt (lt_of_lt_of_le (value-lt p) (pow_mono {i = 128} {j = a.k} (omega arith)))))
