-- Lists made from an index: what is so of all is so at each index, how long they are, and which element stands where.
-- Assumes nothing.
use Rattle.std.specs.Prelude.{◌≡◌, refl, ◌↔◌, List, [], ◌++◌, length, get_or}
use Rattle.std.proofs.Common.{sym, ap, ap₂, ◌∙◌, append_assoc, add-zero, zero-add, eq-or-lt_of_le, not-suc-le-zero, le_of_suc-le-suc, add-one, arith}
use Rattle.std.proofs.Math.Path.{subst}
use Rattle.std.proofs.Math.Logic.{⊎_elim}
use Prim.Native.Nat.{ℕ, zero, suc, ◌+◌, ◌-◌, ◌≤◌, ◌<◌}
use Rattle.base.specs.Lists.{All, from, from_each}
use Rattle.base.specs.Laws.Lists.{all_append, all_left, all_right}

module _ {A : Type 0} (P : A → Type 0) where
  from_at : (i n : ℕ) (f : ℕ → A) → All P (from i n f) → (k : ℕ) → i ≤ k → k < i + n → P (f k)
  unfolding from
  from_at i zero f h k l m = absurd (omega arith)
  from_at i (suc n) f h k l m =
      ⊎_elim (λ e. subst (λ (j : ℕ). P (f j)) e h.0) (λ l. from_at (suc i) n f h.1 k l (omega arith)) (eq-or-lt_of_le l)

  at_from : (i n : ℕ) (f : ℕ → A) → ((k : ℕ) → i ≤ k → k < i + n → P (f k)) → All P (from i n f)
  unfolding from
  at_from i zero f h = tt
  at_from i (suc n) f h = (h i (omega arith) (omega arith), at_from (suc i) n f (λ k l m. h k (omega arith) (omega arith)))

  pub all_from : (i n : ℕ) (f : ℕ → A) → All P (from i n f) ↔ ((k : ℕ) → i ≤ k → k < i + n → P (f k))
  all_from i n f = (from_at i n f, at_from i n f)

  each_at : (i n : ℕ) (f : ℕ → List A) → All P (from_each i n f) → (k : ℕ) → i ≤ k → k < i + n → All P (f k)
  unfolding from_each
  each_at i zero f h k l m = absurd (omega arith)
  each_at i (suc n) f h k l m =
      ⊎_elim (λ e. subst (λ (j : ℕ). All P (f j)) e (all_left P (f i) (from_each (suc i) n f) h))
      (λ l. each_at (suc i) n f (all_right P (f i) (from_each (suc i) n f) h) k l (omega arith)) (eq-or-lt_of_le l)

  at_each : (i n : ℕ) (f : ℕ → List A) → ((k : ℕ) → i ≤ k → k < i + n → All P (f k)) → All P (from_each i n f)
  unfolding from_each
  at_each i zero f h = tt
  at_each i (suc n) f h =
      all_append P (f i) (from_each (suc i) n f) (h i (omega arith) (omega arith))
      (at_each (suc i) n f (λ k l m. h k (omega arith) (omega arith)))

  pub all-each : (i n : ℕ) (f : ℕ → List A) → All P (from_each i n f) ↔ ((k : ℕ) → i ≤ k → k < i + n → All P (f k))
  all-each i n f = (each_at i n f, at_each i n f)

-- ---- a list made from its index

pub length_from : {A : Type 0} (f : ℕ → A) (n i : ℕ) → length (from i n f) ≡ n
unfolding from
length_from f zero i = refl
length_from f (suc n) i = ap suc (length_from f n (suc i))

pub get_or-from : {A : Type 0} (f : ℕ → A) (d : A) (n i k : ℕ) → k < n → get_or (from i n f) k d ≡ f (i + k)
unfolding from
get_or-from f d zero i k h = absurd (not-suc-le-zero h)
get_or-from f d (suc n) i zero h = rw add-zero
get_or-from f d (suc n) i (suc k) h = get_or-from f d n (suc i) k (le_of_suc-le-suc h) ∙ ap f (omega arith)

-- piece by piece, as a loop up to n makes it
pub each_step : {A : Type 0} (f : ℕ → List A) (n i : ℕ) → i < n → from_each i (n - i) f ≡ f i ++ from_each (i + 1) (n - (i + 1)) f
unfolding from_each
each_step f n i h = let e : n - i ≡ suc (n - (i + 1)) = omega arith in rw (e, add-one)

pub each-end : {A : Type 0} (f : ℕ → List A) (n i : ℕ) → n ≤ i → from_each i (n - i) f ≡ []
unfolding from_each
each-end f n i h = let e : n - i ≡ 0 = omega arith in rw e

-- so many pieces, and so many more behind them
pub each_append : {A : Type 0} (f : ℕ → List A) (n m i : ℕ) → from_each i (n + m) f ≡ from_each i n f ++ from_each (i + n) m f
unfolding from_each
each_append f zero m i = ap₂ (λ (j l : ℕ). from_each j l f) (sym (add-zero i)) (zero-add m)
each_append f (suc n) m i =
    let e : suc n + m ≡ suc (n + m) = omega arith in let s : suc i + n ≡ i + suc n = omega arith in
    ap (λ (l : ℕ). from_each i l f) e
    ∙ ap (λ ls. f i ++ ls) (each_append f n m (suc i) ∙ ap (λ (j : ℕ). from_each (suc i) n f ++ from_each j m f) s)
    ∙ sym (append_assoc (f i) (from_each (suc i) n f) (from_each (i + suc n) m f))
