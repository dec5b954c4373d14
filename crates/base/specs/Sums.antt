-- A finite sum, over any type with a sum of two: so that a proof about any field can speak of it.
-- Assumes nothing.
use Rattle.std.specs.Prelude.{ℕ, zero, suc}

-- f 0 + f 1 + .. + f (n - 1)
module _ {A : Type 0} (none : A) (add : A → A → A) where
  unfoldable pub sum : ℕ → (ℕ → A) → A
  sum zero f = none
  sum (suc n) f = add (f 0) (sum n (λ i. f (suc i)))
