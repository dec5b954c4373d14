-- The rows that a listing's words stand for. It reads from the right: a mark heads a row of the terms behind it.
-- Assumes nothing.
use Rattle.std.specs.Prelude.{List, [], ◌∷◌, ℕ}
use Rattle.circuit.specs.declared.Side.{Side}
use Rattle.circuit.specs.declared.Side.TheVariants.{A, B, C}
use Rattle.circuit.specs.declared.Word.{Word}
use Rattle.circuit.specs.declared.Word.TheVariants.{Mark, Term as TermWord}
use Rattle.circuit.specs.Words.{word_of}
use Rattle.circuit.specs.Rows.{Term, Sides, Row}

-- the terms up to the next mark, and the rows from there
pub record Parsed : Type 0 where
  pub before : Sides
  pub rows : List Row

abbrev pub empty : Sides
empty = record { a = []; b = []; c = [] }

-- one more term in front of a side
abbrev pub in_front : Side → Term → Sides → Sides
in_front A t s = record { a = t ∷ s.a; b = s.b; c = s.c }
in_front B t s = record { a = s.a; b = t ∷ s.b; c = s.c }
in_front C t s = record { a = s.a; b = s.b; c = t ∷ s.c }

abbrev pub add_word : Word → Parsed → Parsed
add_word (Mark rel n) p = record { before = empty; rows = record { relation = rel; number = n; sides = p.before } ∷ p.rows }
add_word (TermWord side k column) p =
    record { before = in_front side (record { coefficient = k; column = column }) p.before; rows = p.rows }

unfoldable pub parse : List ℕ → Parsed
parse [] = record { before = empty; rows = [] }
parse (w ∷ ws) = add_word (word_of w) (parse ws)

-- terms before the first mark belong to no row
abbrev pub rows_of : List ℕ → List Row
rows_of ws = (parse ws).rows
