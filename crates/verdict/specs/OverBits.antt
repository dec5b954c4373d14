-- A side's sum and a row over bits, where sums are exclusive or and products are and; rows whose coefficients are 0 or 1.
-- Assumes nothing.
use Rattle.std.specs.Prelude.{Bool, true, false, not, ◌&&◌, List, [], ◌∷◌, ℕ, eqb}
use Rattle.base.specs.Bits.{◌⊻◌}
use Rattle.circuit.specs.declared.Coefficient.{Coefficient}
use Rattle.circuit.specs.declared.Coefficient.TheVariants.{Zero, Power}
use Rattle.circuit.specs.Rows.{Term, Sides}

-- coefficients 0 and 1
abbrev pub is_plain : Coefficient → Bool
is_plain Zero = true
is_plain (Power k) = eqb k 0

abbrev pub is_one : Coefficient → Bool
is_one Zero = false
is_one (Power k) = true

unfoldable pub plain : List Term → Bool
plain [] = true
plain (t ∷ ts) = is_plain t.coefficient && plain ts

abbrev pub plain_row : Sides → Bool
plain_row s = plain s.a && (plain s.b && plain s.c)

-- a side's sum, and a row, over bits
module _ (b : ℕ → Bool) where
  unfoldable pub sum_bits : List Term → Bool
  sum_bits [] = false
  sum_bits (t ∷ ts) = (is_one t.coefficient && b t.column) ⊻ sum_bits ts

  abbrev pub holds_bits : Sides → Bool
  holds_bits s = not ((sum_bits s.a && sum_bits s.b) ⊻ sum_bits s.c)
