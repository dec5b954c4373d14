-- Equal terms make equal sums.
-- Assumes nothing.
use Rattle.std.specs.Prelude.{◌≡◌, refl, ℕ, zero, suc, ◌<◌}
use Rattle.std.proofs.Common.{ap₂, arith}
use Rattle.base.specs.Sums.{sum}

-- equal terms, equal sums
pub sum_same : {A : Type 0} (none : A) (add : A → A → A) (n : ℕ) (f g : ℕ → A) → ((i : ℕ) → i < n → f i ≡ g i) → sum none add n f
    ≡ sum none add n g
unfolding sum
sum_same none add zero f g h = refl
sum_same none add (suc n) f g h =
    ap₂ add (h 0 (omega arith)) (sum_same none add n (λ i. f (suc i)) (λ i. g (suc i)) (λ i l. h (suc i) (omega arith)))
