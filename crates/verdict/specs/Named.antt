-- The columns that a row names: those of its terms whose coefficient is not zero.
-- Assumes nothing.
use Rattle.std.specs.Prelude.{List, [], ◌∷◌, ◌++◌, ℕ}
use Rattle.circuit.specs.declared.Coefficient.{Coefficient}
use Rattle.circuit.specs.declared.Coefficient.TheVariants.{Zero, Power}
use Rattle.circuit.specs.Rows.{Term, Sides}

-- the column of a term, unless its coefficient is zero
abbrev pub name : Coefficient → ℕ → List ℕ
name Zero c = []
name (Power k) c = c ∷ []

unfoldable pub named : List Term → List ℕ
named [] = []
named (t ∷ ts) = name t.coefficient t.column ++ named ts

abbrev pub named_by : Sides → List ℕ
named_by s = named s.a ++ (named s.b ++ named s.c)
