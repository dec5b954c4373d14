-- What a row says of a cycle. A cycle is seen as a function from its columns to elements, whatever batch it stands in.
-- Assumes nothing.
use Rattle.std.specs.Prelude.{Bool, List, [], ◌∷◌, ℕ, ◌+◌, ◌*◌, get_or, eqb}
use Rattle.field.specs.declared.Gf128.{Gf128}
use Rattle.field.specs.Gf.{of_words, zero, added, product, power, same, low}
use Rattle.layout.specs.Batch.{column_at}
use Rattle.circuit.specs.declared.Coefficient.{Coefficient}
use Rattle.circuit.specs.declared.Coefficient.TheVariants.{Zero, Power}
use Rattle.circuit.specs.Rows.{Term, Sides}
use Rattle.verdict.specs.declared.Sums.{Sums}

-- element c of a list of words: two words an element, the low one first
abbrev pub element_at : List ℕ → ℕ → Gf128
element_at words c = of_words (get_or words (2 * c) 0) (get_or words (2 * c + 1) 0)

-- cycle d of a batch
unfoldable pub cycle_of : ℕ → List ℕ → ℕ → ℕ → Gf128
cycle_of cpi batch d c = element_at batch (column_at cpi c d)

-- a coefficient times an element: zero counts as 0, whatever it multiplies
abbrev pub times : Coefficient → Gf128 → Gf128
times Zero x = zero
times (Power k) x = product x (power k)

module _ (z : ℕ → Gf128) where
  -- the sum of a side: coefficient times column, term by term
  unfoldable pub sum_of : List Term → Gf128
  sum_of [] = zero
  sum_of (t ∷ ts) = added (times t.coefficient (z t.column)) (sum_of ts)

  abbrev pub sums_of : Sides → Sums
  sums_of s = record { a = sum_of s.a; b = sum_of s.b; c = sum_of s.c }

-- A · B = C
unfoldable pub balanced : Sums → Bool
balanced s = same (product s.a s.b) s.c

abbrev pub holds : (ℕ → Gf128) → Sides → Bool
holds z s = balanced (sums_of z s)

-- an element as a bit: whether its low word is 1. (Of the elements 0 and 1, that is which of them it is.)
abbrev pub as_bit : Gf128 → Bool
as_bit x = eqb (low x) 1

-- cycle d of a batch as bits
unfoldable pub bits_of : ℕ → List ℕ → ℕ → ℕ → Bool
bits_of cpi batch d c = as_bit (cycle_of cpi batch d c)
