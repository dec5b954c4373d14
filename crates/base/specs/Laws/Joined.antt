-- Lists one after the other: how long they are, and where each stands, where all have one length.
-- Assumes nothing.
use Rattle.std.specs.Prelude.{◌≡◌, get_or, drop}
use Rattle.std.proofs.Math.Path.{refl, sym, ap}
use Rattle.std.proofs.Common.{◌∙◌, mul-zero, not-suc-le-zero, le_of_suc-le-suc}
use mathlib.Core.List.{List, [], ◌∷◌, ◌++◌, append_assoc}
use Prim.Native.Nat.{ℕ, zero, suc, ◌+◌, ◌*◌, ◌<◌}
use Rattle.std.proofs.Math.Nat.{mul-suc}
use native.Mathlib.Omega.{arith}
use Rattle.std.proofs.Math.ListN.{length, take, length-append}
use Rattle.std.proofs.Math.Seq.{take_at, drop-append-add}
use Rattle.base.specs.Lists.{All, joined}

module _ {A : Type 0} where
  pub joined-append : (xs ys : List (List A)) → joined (xs ++ ys) ≡ joined xs ++ joined ys
  unfolding joined
  joined-append [] ys = refl
  joined-append (x ∷ xs) ys = ap (λ l. x ++ l) (joined-append xs ys) ∙ sym (append_assoc x (joined xs) (joined ys))

  -- lists of n elements each
  pub joined_length : (n : ℕ) (xs : List (List A)) → All (λ x. length x ≡ n) xs → length (joined xs) ≡ n * length xs
  unfolding joined
  joined_length n [] h = omega arith
  joined_length n (x ∷ xs) h = length-append x (joined xs) ∙ omega (arith, h.0, joined_length n xs h.1, mul-suc n (length xs))

  pub joined_at : (n : ℕ) (xs : List (List A)) → All (λ x. length x ≡ n) xs → (i : ℕ) → i < length xs → (rest : List A)
      → take n (drop (n * i) (joined xs ++ rest)) ≡ get_or xs i []
  unfolding joined
  joined_at n [] h i l rest = absurd (not-suc-le-zero l)
  joined_at n (x ∷ xs) h zero l rest =
      ap (λ (k : ℕ). take n (drop k (x ++ joined xs ++ rest))) (mul-zero n) ∙ ap (take n) (append_assoc x (joined xs) rest)
      ∙ take_at x (joined xs ++ rest) n h.0
  joined_at n (x ∷ xs) h (suc i) l rest =
      ap (λ (k : ℕ). take n (drop k (x ++ joined xs ++ rest))) further
      ∙ ap (λ l. take n (drop (length x + n * i) l)) (append_assoc x (joined xs) rest)
      ∙ ap (take n) (drop-append-add x (joined xs ++ rest) (n * i)) ∙ joined_at n xs h.1 i (le_of_suc-le-suc l) rest
    where
      further : n * suc i ≡ length x + n * i
      further = omega (arith, h.0, mul-suc n i)
