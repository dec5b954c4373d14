-- Counting fillings: a test that passes just one counts 1, one that passes none 0, and one that passes all 2^(419 · cpi).
-- Assumes nothing.
use Rattle.std.specs.Prelude.{◌≡◌, Bool, not, List}
use Rattle.std.proofs.Math.Path.{refl, sym, ap, ap₂}
use Rattle.std.proofs.Common.{◌∙◌, zero-add, ne_eqb}
use Rattle.std.proofs.Math.Bool.{true, false, cond}
use Prim.Native.Nat.{ℕ, zero, suc, ◌+◌, ◌*◌, ◌^◌, ◌≤◌, ◌<◌}
use Rattle.std.proofs.Math.Nat.{pow-suc}
use native.Mathlib.Omega.{arith}
use Rattle.base.specs.Bits.{digit}
use Rattle.base.specs.Laws.Cases.{no_true, not-self}
use Rattle.step.specs.Derived.{derived_in, tally}
use Rattle.step.specs.Solve.{set_bit}
use Rattle.step.specs.Filling.{put, put_each, count, count_fillings}
use Rattle.step.proofs.Laws.Derived.{derived-in-batch}
use Rattle.step.proofs.Laws.Solvable.{set_same, set_other}

module _ (q : ℕ → Bool) where
  -- equal bits in the columns make equal fillings
  pub put-same-bits : (n x : ℕ) (v w : ℕ → Bool) (s : List ℕ) → ((c : ℕ) → x ≤ c → c < x + n → q c ≡ true → v c ≡ w c)
      → put_each q n x v s ≡ put_each q n x w s
  unfolding put_each
  put-same-bits zero x v w s h = refl
  put-same-bits (suc n) x v w s h =
      ap (put_each q n (suc x) v) (here (q x) refl) ∙ put-same-bits n (suc x) v w _ (λ c l m k. h c (omega arith) (omega arith) k)
    where
      here : (k : Bool) → q x ≡ k → cond k (put s x (v x)) s ≡ cond k (put s x (w x)) s
      here true e = ap (put s x) (h x (omega arith) (omega arith) e)
      here false e = refl

  module _ (n x : ℕ) (s : List ℕ) where
    -- the first column's bit, and then the others'
    put_first : (v : ℕ → Bool) (b : Bool) → q x ≡ true → put_each q (suc n) x (set_bit v x b) s ≡ put_each q n (suc x) v (put s x b)
    unfolding put_each
    put_first v b e =
        ap₂ (λ (k a : Bool). put_each q n (suc x) (set_bit v x b) (cond k (put s x a) s)) e (set_same v x b)
        ∙ put-same-bits n (suc x) _ _ _ (λ c l m k. set_other v x b c (ne_eqb c x (omega arith)))

    put-skip : (v : ℕ → Bool) → q x ≡ false → put_each q (suc n) x v s ≡ put_each q n (suc x) v s
    unfolding put_each
    put-skip v e = ap (λ (k : Bool). put_each q n (suc x) v (cond k (put s x (v x)) s)) e

    module _ (p : List ℕ → Bool) where
      count-both : q x ≡ true → count q p (suc n) x s ≡ count q p n (suc x) (put s x false) + count q p n (suc x) (put s x true)
      unfolding count
      count-both e = ap (λ (k : Bool). cond k (count q p n (suc x) (put s x false) + count q p n (suc x) (put s x true))
          (count q p n (suc x) s)) e

      count-skip : q x ≡ false → count q p (suc n) x s ≡ count q p n (suc x) s
      unfolding count
      count-skip e = ap (λ (k : Bool). cond k (count q p n (suc x) (put s x false) + count q p n (suc x) (put s x true))
          (count q p n (suc x) s)) e

      count_by : (m : ℕ) → (q x ≡ true → count q p n (suc x) (put s x false) + count q p n (suc x) (put s x true) ≡ m)
          → (q x ≡ false → count q p n (suc x) s ≡ m) → count q p (suc n) x s ≡ m
      count_by m f g = go (q x) refl
        where
          go : (k : Bool) → q x ≡ k → count q p (suc n) x s ≡ m
          go true e = count-both e ∙ f e
          go false e = count-skip e ∙ g e

  pub count_none : (p : List ℕ → Bool) (n x : ℕ) (s : List ℕ) → ((v : ℕ → Bool) → p (put_each q n x v s) ≡ false) → count q p n x s ≡ 0
  unfolding count put_each
  count_none p zero x s h = ap (λ (b : Bool). digit b) (h (λ c. false))
  count_none p (suc n) x s h =
      let without : ((b : Bool) → q x ≡ true → count q p n (suc x) (put s x b) ≡ 0) =
      λ b e. count_none p n (suc x) (put s x b) (λ v. ap p (sym (put_first n x s v b e)) ∙ h _) in
      count_by n x s p 0 (λ e. ap₂ ◌+◌ (without false e) (without true e))
      (λ e. count_none p n (suc x) s (λ v. ap p (sym (put-skip n x s v e)) ∙ h v))

  -- just one passes: that with bits w
  pub count-one : (p : List ℕ → Bool) (n x : ℕ) (s : List ℕ) (w : ℕ → Bool) → p (put_each q n x w s) ≡ true
      → ((v : ℕ → Bool) → p (put_each q n x v s) ≡ true → (c : ℕ) → x ≤ c → c < x + n → q c ≡ true → v c ≡ w c) → count q p n x s ≡ 1
  unfolding count put_each
  count-one p zero x s w t u = ap (λ (b : Bool). digit b) t
  count-one p (suc n) x s w t u =
      count_by n x s p 1
      (λ e. two (w x)
      (count-one p n (suc x) (put s x (w x)) w (ap p (ap (λ (k : Bool). put_each q n (suc x) w (cond k (put s x (w x)) s)) (sym e)) ∙ t)
      (λ v h c l m k.
      sym (set_other v x (w x) c (ne_eqb c x (omega arith)))
      ∙ u (set_bit v x (w x)) (ap p (put_first n x s v (w x) e) ∙ h) c (omega arith) (omega arith) k))
      (count_none p n (suc x) (put s x (not (w x)))
      (λ v. no_true _ (λ h. not-self (w x)
      (sym (set_same v x (not (w x))) ∙ u (set_bit v x (not (w x))) (ap p (put_first n x s v (not (w x)) e) ∙ h) x (omega arith)
      (omega arith) e)))))
      (λ e. count-one p n (suc x) s w (ap p (sym (put-skip n x s w e)) ∙ t)
      (λ v h c l m k. u v (ap p (put-skip n x s v e) ∙ h) c (omega arith) (omega arith) k))
    where
      two : (b : Bool) → count q p n (suc x) (put s x b) ≡ 1 → count q p n (suc x) (put s x (not b)) ≡ 0
          → count q p n (suc x) (put s x false) + count q p n (suc x) (put s x true) ≡ 1
      two true f g = ap₂ ◌+◌ g f
      two false f g = ap₂ ◌+◌ f g

  -- all of them: two for each of the columns
  pub count-all : (n x : ℕ) (s : List ℕ) → count q (λ u. true) n x s ≡ 2 ^ tally q n x
  unfolding count tally
  count-all zero x s = refl
  count-all (suc n) x s = go (q x) (count-all n (suc x) (put s x false)) (count-all n (suc x) (put s x true)) (count-all n (suc x) s)
    where
      go : (k : Bool) {a b c : ℕ} → a ≡ 2 ^ tally q n (suc x) → b ≡ 2 ^ tally q n (suc x) → c ≡ 2 ^ tally q n (suc x)
          → cond k (a + b) c ≡ 2 ^ (digit k + tally q n (suc x))
      go true e f g = let m = tally q n (suc x) in let k : 1 + m ≡ suc m = omega arith in
          omega (arith, e, f, pow-suc 2 m, ap (λ (i : ℕ). 2 ^ i) k)
      go false e f g = g ∙ ap (λ (m : ℕ). 2 ^ m) (sym (zero-add _))

-- a batch has 2^(419 · cpi) fillings
pub all-fillings : (cpi : ℕ) → 0 < cpi → (batch : List ℕ) → count_fillings cpi (λ u. true) batch ≡ 2 ^ (419 * cpi)
unfolding count_fillings
all-fillings cpi some batch = count-all (derived_in cpi) (2048 * cpi) 0 batch ∙ ap (λ (n : ℕ). 2 ^ n) (derived-in-batch cpi some)
