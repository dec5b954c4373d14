-- The filling of one cycle, as a definition: rows that each name one new column are solved for it, in turn.
-- Assumes nothing.
use Rattle.std.specs.Prelude.{◌≡◌, Bool, false, cond, ◌&&◌, List, [], ◌∷◌, ℕ, eqb}
use Rattle.base.specs.Bits.{◌⊻◌}
use Rattle.circuit.specs.Rows.{Term, Sides}
use Rattle.verdict.specs.OverBits.{sum_bits}

-- what a row lacks over bits, A · B + C: 0 where the row holds
unfoldable pub lacks : (ℕ → Bool) → Sides → Bool
lacks b s = (sum_bits b s.a && sum_bits b s.b) ⊻ sum_bits b s.c

abbrev pub Holds : (ℕ → Bool) → Sides → Type 0
Holds b s = lacks b s ≡ false

-- the column that a row is solved for: the first of C or, where C is empty, the first of A
abbrev pub first_column : List Term → ℕ → ℕ
first_column [] n = n
first_column (t ∷ ts) n = t.column

abbrev pub target : Sides → ℕ
target s = first_column s.c (first_column s.a 0)

-- one column set
abbrev pub set_bit : (ℕ → Bool) → ℕ → Bool → ℕ → Bool
set_bit b t v c = cond (eqb c t) v (b c)

-- the bit that its target needs: what the row lacks with 0 there
abbrev pub solution : (ℕ → Bool) → Sides → Bool
solution b s = lacks (set_bit b (target s) false) s

abbrev pub solve : List Sides → (ℕ → Bool) → ℕ → Bool
solve [] b = b
solve (s ∷ ss) b = solve ss (set_bit b (target s) (solution b s))
