-- `text::hex_digits` meets its contract: the digits passed are those of the number without its lower ones.
-- Assumes nothing.
use Rattle.std.proofs.Common.{◌≡◌, ℕ, List, [], ◌∷◌, ◌++◌, ◌+◌, ◌-◌, ◌*◌, ◌/◌, ◌%◌, ◌^◌, ◌<◌, suc, refl, sym, ap, ap₂, ◌∙◌, pow-add, arith, length-set, add-one}
use Rattle.std.proofs.Math.Nat.{div-div-eq-div-mul}
use Rattle.std.proofs.lemmas.List.{take_more_set, take_all}
use Rattle.text.specs.Digits.{hex_digit, hex}
use Rattle.text.proofs.hex_digits.Goals as goal

-- one digit more behind those of the number without it
hex_more : (n i : ℕ) → i < 16
    → hex i (n / 2 ^ (64 - 4 * i)) ++ (hex_digit (n / 2 ^ (60 - 4 * i) % 16) ∷ []) ≡ hex (suc i) (n / 2 ^ (64 - 4 * (i + 1)))
unfolding hex
hex_more n i l =
    let k = 60 - 4 * i in
    let e : 64 - 4 * i ≡ k + 4 = omega arith in
    let f : 64 - 4 * (i + 1) ≡ k = omega arith in
    let p : 2 ^ (k + 4) ≡ 2 ^ k * 16 = pow-add 2 k 4 in
    let d : n / 2 ^ (64 - 4 * i) ≡ n / 2 ^ k / 16 =
    ap (λ (m : ℕ). n / 2 ^ m) e ∙ ap (λ (m : ℕ). n / m) p ∙ sym (div-div-eq-div-mul n (2 ^ k) 16) in
    ap (λ (m : ℕ). hex i m ++ (hex_digit (n / 2 ^ k % 16) ∷ [])) d
    ∙ ap (λ (m : ℕ). hex i (n / 2 ^ m / 16) ++ (hex_digit (n / 2 ^ m % 16) ∷ [])) (sym f)

pub loop-i-init : goal.loop-i-init
unfolding hex
loop-i-init c = (omega arith, refl, refl)

pub loop-i-preserved : goal.loop-i-preserved
loop-i-preserved c =
    let l = c.loop-i in let n = c.args.n in let d = c.hex_digit.result in let long = l.invariant.1 in (
      omega (arith, c.loop-i-test.true),
      length-set l.digit-items l.i d ∙ long,
      take_more_set l.digit-items l.i d (omega (arith, long, c.loop-i-test.true))
          ∙ ap₂ (λ (ds : List ℕ) (x : ℕ). ds ++ (x ∷ [])) l.invariant.2 c.hex_digit.ensures
          ∙ hex_more n l.i c.loop-i-test.true ∙ ap (λ (k : ℕ). hex k (n / 2 ^ (64 - 4 * (l.i + 1)))) (sym (add-one l.i)),
    )

pub returns : goal.returns
returns c =
    let l = c.loop-i in let n = c.args.n in
    let e : l.i ≡ 16 = omega (arith, l.invariant.0, c.loop-i-test.false) in
    sym (take_all l.i l.digit-items (omega (arith, l.invariant.1))) ∙ l.invariant.2
    ∙ ap (λ (k : ℕ). hex k (n / 2 ^ (64 - 4 * k))) e ∙ ap (hex 16) (omega arith)
