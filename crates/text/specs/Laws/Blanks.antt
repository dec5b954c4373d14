-- Blanks in part, and a digit written before those that stand.
-- Assumes nothing.
use Rattle.std.specs.Prelude.{◌≡◌, refl, List, [], ◌∷◌, ◌++◌, ℕ, zero, suc, ◌-◌, ◌≤◌, ◌<◌, length, take, drop, set}
use Rattle.std.proofs.Common.{sym, ap, ◌∙◌, not-suc-le-zero, le_of_suc-le-suc, arith, length-take-le, drop_at}
use Rattle.std.proofs.Math.Nat.{sub-zero, zero-sub, suc-sub-suc}
use Rattle.std.proofs.Math.Seq.{append_snoc}
use Rattle.std.proofs.lemmas.List.{set_split}
use Rattle.base.specs.Text.{blanks}

pub blanks-less : (n m : ℕ) → drop m (blanks n) ≡ blanks (n - m)
blanks-less n zero = ap blanks (sym (sub-zero n))
blanks-less zero (suc m) = ap blanks (sym (zero-sub (suc m)))
blanks-less (suc n) (suc m) = blanks-less n m ∙ ap blanks (sym (suc-sub-suc n m))

pub blanks-first : (n m : ℕ) → n ≤ m → take n (blanks m) ≡ blanks n
blanks-first zero m h = refl
blanks-first (suc n) zero h = absurd (not-suc-le-zero h)
blanks-first (suc n) (suc m) h = ap (λ (l : List ℕ). 0x20 ∷ l) (blanks-first n m (le_of_suc-le-suc h))

-- a digit written before those that stand
pub digit-before : (front bytes : List ℕ) (i d : ℕ) → i < length bytes
    → front ++ (d ∷ []) ++ drop (suc i) bytes ≡ front ++ drop i (set bytes i d)
digit-before front bytes i d h =
    append_snoc front d (drop (suc i) bytes)
    ∙ ap (λ (rest : List ℕ). front ++ rest)
    (sym (ap (drop i) (set_split bytes i d h) ∙ drop_at (take i bytes) (d ∷ drop (suc i) bytes) i (length-take-le i bytes (omega arith))))
