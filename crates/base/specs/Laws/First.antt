-- The search for the first number that passes a test, turn by turn, and what it finds.
-- Assumes nothing.
use Rattle.std.specs.Prelude.{◌≡◌, Bool, ltb}
use Rattle.std.proofs.Math.Path.{refl, sym, ap}
use Rattle.std.proofs.Common.{◌∙◌, true≢false, add-zero, eq-or-lt_of_le, ltb-true, ltb-false}
use Rattle.std.proofs.Math.Logic.{⊎_elim}
use Rattle.std.proofs.Math.Bool.{true, false, cond}
use Prim.Native.Nat.{ℕ, zero, suc, ◌+◌, ◌-◌, ◌<◌, ◌≤◌}
use native.Mathlib.Omega.{arith}
use Rattle.base.specs.Tests.{first_from}

-- ---- the search: a turn at i with up to the limit to go

module _ (test : ℕ → Bool) where
  pub first_stops : (i limit : ℕ) → i < limit → test i ≡ true → first_from test i (limit - i) ≡ i
  unfolding first_from
  first_stops i limit h e = let s : limit - i ≡ suc (limit - (i + 1)) = omega arith in rw (s, e)

  pub first_goes : (i limit : ℕ) → i < limit → test i ≡ false → first_from test i (limit - i) ≡ first_from test (i + 1) (limit - (i + 1))
  unfolding first_from
  first_goes i limit h e = let s : limit - i ≡ suc (limit - (i + 1)) = omega arith in rw (s, e)

  pub first_ends : (i limit : ℕ) → limit ≤ i → first_from test i (limit - i) ≡ i
  unfolding first_from
  first_ends i limit h = let s : limit - i ≡ 0 = omega arith in rw s

  -- it starts at its first number
  pub first-from : (n i : ℕ) → i ≤ first_from test i n
  unfolding first_from
  first-from zero i = omega arith
  first-from (suc n) i = by-test (test i) (first-from n (i + 1))
    where
      by-test : (b : Bool) → i + 1 ≤ first_from test (i + 1) n → i ≤ cond b i (first_from test (i + 1) n)
      by-test true h = omega arith
      by-test false h = omega arith

  -- it passes the test where it is one of the n, and none before it does
  pub first_passes : (n i : ℕ) → first_from test i n < i + n → test (first_from test i n) ≡ true
  unfolding first_from
  first_passes zero i h = absurd (omega arith)
  first_passes (suc n) i h = by-test (test i) refl (first_passes n (i + 1)) h
    where
      by-test : (b : Bool) → test i ≡ b → (first_from test (i + 1) n < i + 1 + n → test (first_from test (i + 1) n) ≡ true)
          → cond b i (first_from test (i + 1) n) < i + suc n → test (cond b i (first_from test (i + 1) n)) ≡ true
      by-test true e later l = e
      by-test false e later l = later (omega arith)

  pub first-least : (n i k : ℕ) → i ≤ k → k < first_from test i n → test k ≡ false
  unfolding first_from
  first-least zero i k l h = absurd (omega arith)
  first-least (suc n) i k l h = by-test (test i) refl (first-least n (i + 1) k) h
    where
      by-test : (b : Bool) → test i ≡ b → (i + 1 ≤ k → k < first_from test (i + 1) n → test k ≡ false)
          → k < cond b i (first_from test (i + 1) n) → test k ≡ false
      by-test true e later h = absurd (omega arith)
      by-test false e later h = ⊎_elim (λ q. ap test (sym q) ∙ e) (λ g. later (omega arith) h) (eq-or-lt_of_le l)

  -- where none passes, it ends
  pub first-none : (n i : ℕ) → ((k : ℕ) → i ≤ k → k < i + n → test k ≡ false) → first_from test i n ≡ i + n
  unfolding first_from
  first-none zero i h = sym (add-zero i)
  first-none (suc n) i h =
      ap (λ (b : Bool). cond b i (first_from test (i + 1) n)) (h i (omega arith) (omega arith))
      ∙ first-none n (i + 1) (λ k l m. h k (omega arith) (omega arith)) ∙ omega arith

  -- it is the one that is known to pass, and before which none does
  pub first-at : (n x : ℕ) → x < n → test x ≡ true → ((k : ℕ) → k < x → test k ≡ false) → first_from test 0 n ≡ x
  first-at n x l t none = go (ltb f x) (ltb x f) refl refl
    where
      f : ℕ
      f = first_from test 0 n

      go : (i j : Bool) → ltb f x ≡ i → ltb x f ≡ j → f ≡ x
      go true j p q = let m = ltb-true f x p in absurd (true≢false (sym (first_passes n 0 (omega arith)) ∙ none f m))
      go false true p q = absurd (true≢false (sym t ∙ first-least n 0 x (omega arith) (ltb-true x f q)))
      go false false p q = let m = ltb-false f x p in let k = ltb-false x f q in omega arith

  -- the same, from any start
  pub first-at-from : (n i x : ℕ) → i ≤ x → x < i + n → test x ≡ true → ((k : ℕ) → i ≤ k → k < x → test k ≡ false) → first_from test i n ≡ x
  first-at-from n i x s l t none = go (ltb f x) (ltb x f) refl refl
    where
      f : ℕ
      f = first_from test i n

      go : (a b : Bool) → ltb f x ≡ a → ltb x f ≡ b → f ≡ x
      go true b p q =
          let m = ltb-true f x p in absurd (true≢false (sym (first_passes n i (omega arith)) ∙ none f (first-from n i) m))
      go false true p q = absurd (true≢false (sym t ∙ first-least n i x s (ltb-true x f q)))
      go false false p q = let m = ltb-false f x p in let k = ltb-false x f q in omega arith
