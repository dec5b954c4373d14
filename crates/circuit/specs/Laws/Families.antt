-- Families of rows by their index: from all rows of a family to each of them, how many there are, and which stands where.
-- Assumes nothing.
use Rattle.std.specs.Prelude.{◌↔◌, List, [], ◌∷◌, ℕ, suc}
use Rattle.base.specs.Lists.{All}
use Rattle.circuit.specs.declared.Relation.{Relation}
use Rattle.circuit.specs.Rows.{Sides, numbered}

-- rows with their numbers
pub all-numbered : (P : Sides → Type 0) (rel : Relation) (n : ℕ) (ss : List Sides) → All (λ r. P r.sides) (numbered rel n ss) ↔ All P ss
unfolding numbered
all-numbered P rel n [] = (λ h. h, λ h. h)
all-numbered P rel n (s ∷ ss) =
    let k = all-numbered P rel (suc n) ss in (λ h. (h.0, k.0 h.1), λ h. (h.0, k.1 h.1))
