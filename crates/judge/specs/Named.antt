-- The columns that rows name, and a batch that has bits in these alone. (Laws/Named: the others decide nothing.)
-- Assumes nothing.
use Rattle.std.specs.Prelude.{◌≡◌, Bool, true, List, [], ◌∷◌, ◌++◌, ℕ, ◌+◌, ◌*◌, ◌^◌, ◌<◌, length, get_or}
use Rattle.field.specs.Gf.{one, is_bit}
use Rattle.layout.specs.Batch.{among, batch_words}
use Rattle.circuit.specs.Rows.{Row}
use Rattle.circuit.specs.Circuit.{circuit_rows}
use Rattle.verdict.specs.Row.{element_at}
use Rattle.verdict.specs.Named.{named_by}

-- the columns that rows name: those of their terms, but for terms of coefficient zero, which count as 0 whatever stands in the column
unfoldable pub named_columns : List Row → List ℕ
named_columns [] = []
named_columns (r ∷ rs) = named_by r.sides ++ named_columns rs

-- does a row of the house listing name a column?
unfoldable pub named : ℕ → Bool
named c = among c (named_columns circuit_rows)

-- as OverBits, but of the columns that are named
pub record NamedBits (cpi : ℕ) (batch : List ℕ) : Type 0 where
  pub words : length batch ≡ batch_words cpi
  pub fit : (i : ℕ) → get_or batch i 0 < 2 ^ 64
  pub bits : (c d : ℕ) → c < 2048 → named c ≡ true → d < cpi → is_bit (element_at batch (c * cpi + d)) ≡ true
  pub one-is : element_at batch (2048 * cpi) ≡ one
