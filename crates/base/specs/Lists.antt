-- What is so of every element of a list, lists one after the other, and lists made from an index.
-- Assumes nothing.
use Rattle.std.specs.Prelude.{Bool, true, ◌&&◌, List, [], ◌∷◌, ◌++◌, ℕ, zero, suc}

-- something is so of every element of a list
abbrev pub All : {A : Type 0} → (A → Type 0) → List A → Type 0
All P [] = Unit
All P (x ∷ xs) = P x × All P xs

unfoldable pub joined : {A : Type 0} → List (List A) → List A
joined [] = []
joined (x ∷ xs) = x ++ joined xs

-- a test of every number below n
abbrev pub all_below : ℕ → (ℕ → Bool) → Bool
all_below zero f = true
all_below (suc n) f = f n && all_below n f

-- f i, f (i + 1), .., n of them
unfoldable pub from : {A : Type 0} → ℕ → ℕ → (ℕ → A) → List A
from i zero f = []
from i (suc n) f = f i ∷ from (suc i) n f

-- the lists f i, f (i + 1), .., n of them, one after the other
unfoldable pub from_each : {A : Type 0} → ℕ → ℕ → (ℕ → List A) → List A
from_each i zero f = []
from_each i (suc n) f = f i ++ from_each (suc i) n f
