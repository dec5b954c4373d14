-- The exponent of a batch size, and what it is for: a shift by it is the quotient by cpi, and a mask the remainder.
-- Assumes nothing.
use Rattle.std.specs.Prelude.{◌≡◌, refl, Bool, true, false, ℕ, ◌*◌, ◌-◌, ◌/◌, ◌%◌, ◌^◌, ◌<◌, eqb, ltb}
use Rattle.std.proofs.Common.{sym, ap, subst, ◌∙◌, eqb-true, lt-ltb, lit<}
use Rattle.std.proofs.lemmas.Bool.{false≢true}
use Rattle.std.specs.Int.Bits.{bit_and}
use Rattle.std.proofs.lemmas.Nat.{and_mask}
use Rattle.std.specs.Int.Count.{count_trailing_zeros}
use Rattle.base.specs.Tests.{first_from}
use Rattle.base.specs.Laws.First.{first-none}
use Rattle.base.specs.Laws.Lists.{◌and◌, below_at}
use Rattle.layout.specs.Batch.{allowed, exponent_of}
use Rattle.layout.specs.Laws.Sizes.{each-size}

-- ---- 2 to it is cpi

pub exponent-power : (cpi : ℕ) → allowed cpi ≡ true → 2 ^ exponent_of cpi ≡ cpi
unfolding exponent_of first_from
exponent-power = each-size (λ n. 2 ^ exponent_of n ≡ n) (refl and refl and refl and refl and refl and refl and refl and refl and refl and tt)

pub exponent-below : (cpi : ℕ) → allowed cpi ≡ true → exponent_of cpi < 9
unfolding exponent_of first_from
exponent-below =
    each-size (λ n. exponent_of n < 9)
    (lit< tt and lit< tt and lit< tt and lit< tt and lit< tt and lit< tt and lit< tt and lit< tt and lit< tt and tt)

-- every power from 2 ^ 0 to 2 ^ 8 is a size, and has its exponent
pub power-allowed : (k : ℕ) → k < 9 → allowed (2 ^ k) ≡ true
unfolding allowed
power-allowed = below_at 9 (λ k. allowed (2 ^ k)) refl

pub power-exponent : (k : ℕ) → k < 9 → exponent_of (2 ^ k) ≡ k
unfolding exponent_of first_from
power-exponent k h = eqb-true _ k (below_at 9 (λ j. eqb (exponent_of (2 ^ j)) j) refl k h)

-- a number that is no size gets 9
pub exponent-none : (cpi : ℕ) → (allowed cpi ≡ true → ⊥) → exponent_of cpi ≡ 9
unfolding exponent_of
exponent-none cpi f = first-none (λ k. eqb (2 ^ k) cpi) 9 0 (λ k l m. differs k m (eqb (2 ^ k) cpi) refl)
  where
    differs : (k : ℕ) → k < 9 → (b : Bool) → eqb (2 ^ k) cpi ≡ b → eqb (2 ^ k) cpi ≡ false
    differs k m true e = absurd (f (ap allowed (sym (eqb-true (2 ^ k) cpi e)) ∙ power-allowed k m))
    differs k m false e = e

-- so question 1 asks whether there is one
pub exponent-allowed : (cpi : ℕ) → ltb (exponent_of cpi) 9 ≡ allowed cpi
exponent-allowed cpi = by-test (allowed cpi) refl
  where
    by-test : (b : Bool) → allowed cpi ≡ b → ltb (exponent_of cpi) 9 ≡ b
    by-test true e = lt-ltb _ 9 (exponent-below cpi e)
    by-test false e = ap (λ (k : ℕ). ltb k 9) (exponent-none cpi (λ t. false≢true (sym e ∙ t)))

-- ---- as the code finds it: the zeros below the lowest digit that is set, where 2 to their number is cpi

pub exponent-zeros : (cpi : ℕ) → allowed cpi ≡ true → count_trailing_zeros 64 cpi ≡ exponent_of cpi
unfolding exponent_of first_from count_trailing_zeros
exponent-zeros =
    each-size (λ n. count_trailing_zeros 64 n ≡ exponent_of n) (refl and refl and refl and refl and refl and refl and refl and refl and refl and tt)

-- 1 << k, which is 1 * 2 ^ k cut to a word
pub one_shifted : (k : ℕ) → k < 9 → 1 * 2 ^ k % 2 ^ 64 ≡ 2 ^ k
one_shifted k h = eqb-true _ _ (below_at 9 (λ j. eqb (1 * 2 ^ j % 2 ^ 64) (2 ^ j)) refl k h)

pub exponent-found : (cpi k : ℕ) → k < 9 → 2 ^ k ≡ cpi → k ≡ exponent_of cpi
exponent-found cpi k h e = sym (ap exponent_of (sym e) ∙ power-exponent k h)

pub exponent-missed : (cpi : ℕ) → (count_trailing_zeros 64 cpi < 9 → 2 ^ count_trailing_zeros 64 cpi ≡ cpi → ⊥) → 9 ≡ exponent_of cpi
exponent-missed cpi f =
    sym (exponent-none cpi (λ ok.
    let e = exponent-zeros cpi ok in
    f (subst (λ (k : ℕ). k < 9) (sym e) (exponent-below cpi ok)) (ap (λ (k : ℕ). 2 ^ k) e ∙ exponent-power cpi ok)))

-- ---- the way back, for every allowed size

-- the program's b >> k is b / 2 ^ k, and its b & m is bit_and b m
pub shift-and-mask : (cpi b : ℕ) → allowed cpi ≡ true → (b / 2 ^ exponent_of cpi ≡ b / cpi) × (bit_and b (cpi - 1) ≡ b % cpi)
shift-and-mask cpi b ok =
    let e = exponent-power cpi ok in (
      ap (λ (n : ℕ). b / n) e,
      ap (λ (n : ℕ). bit_and b (n - 1)) (sym e) ∙ and_mask b (exponent_of cpi) ∙ ap (λ (n : ℕ). b % n) e,
    )

-- batch column 22 of four cycles is column 5 of cycle 2
pub given_back : (22 / 2 ^ exponent_of 4 ≡ 5) × (bit_and 22 (4 - 1) ≡ 2)
unfolding exponent_of first_from
given_back = (refl, refl)
