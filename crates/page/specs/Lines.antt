-- The lines of a bench page (document 02, request 1), in bytes of ASCII.
-- Assumes nothing.
use Rattle.std.specs.Prelude.{List, ◌∷◌, ◌++◌, map, ℕ}
use Rattle.base.specs.Text.{ascii, blanks, left}
use Rattle.text.specs.Digits.{right, hex}
use Rattle.field.specs.Gf.{value}
use Rattle.layout.specs.Batch.{column_at}
use Rattle.layout.specs.Segments.{segment_name}
use Rattle.circuit.specs.declared.Relation.{Relation}
use Rattle.circuit.specs.declared.Relation.TheVariants.{Bin, Fld}
use Rattle.circuit.specs.declared.Coefficient.{Coefficient}
use Rattle.circuit.specs.declared.Coefficient.TheVariants.{Zero, Power}
use Rattle.circuit.specs.declared.Side.{Side}
use Rattle.circuit.specs.declared.Side.TheVariants.{A, B, C}
use Rattle.circuit.specs.Rows.{Term, Sides}
use Rattle.circuit.specs.Batched.{batch_row}
use Rattle.verdict.specs.Row.{cycle_of}

abbrev pub relation_text : Relation → List ℕ
relation_text Bin = ascii "bin"
relation_text Fld = ascii "fld"

abbrev pub side_text : Side → List ℕ
side_text A = ascii "A"
side_text B = ascii "B"
side_text C = ascii "C"

-- right-aligned in 3
abbrev pub exponent_text : Coefficient → List ℕ
exponent_text (Power k) = right 3 k
exponent_text Zero = ascii " --"

-- the first line: relation in 3, a blank, the batch row right-aligned in 7, then blanks
unfoldable pub head_line : Relation → ℕ → List ℕ
head_line rel row = left 60 (relation_text rel ++ blanks 1 ++ right 7 row)

-- the line of a term: side in 1, batch column right-aligned in 7, segment left-aligned in 9, exponent right-aligned in 3 and 32 digits, a
-- blank between each two, then blanks
unfoldable pub line_of : Side → ℕ → List ℕ → Coefficient → ℕ → List ℕ
line_of side column segment k element =
    left 60
    (side_text side ++ blanks 1 ++ right 7 column ++ blanks 1 ++ left 9 segment ++ blanks 1 ++ exponent_text k ++ blanks 1
    ++ hex 32 element)

-- cycle d of a batch
module _ (cpi : ℕ) (batch : List ℕ) (d : ℕ) where
  -- a term's column stands at its batch column, and its element there is the one that a check of this cycle reads (of coefficient zero it
  -- reads none)
  unfoldable pub term_line : Side → Coefficient → ℕ → List ℕ
  term_line side k c = line_of side (column_at cpi c d) (segment_name c) k (value (cycle_of cpi batch d c))

  abbrev pub side_lines : Side → List Term → List (List ℕ)
  side_lines side ts = map (λ t. term_line side t.coefficient t.column) ts

  -- a line for each term: those of A, of B, of C
  abbrev pub term_lines : Sides → List (List ℕ)
  term_lines s = side_lines A s.a ++ side_lines B s.b ++ side_lines C s.c

  -- the lines of a row: its head, and its terms
  unfoldable pub row_lines : Relation → ℕ → Sides → List (List ℕ)
  row_lines rel n s = head_line rel (batch_row rel d n) ∷ term_lines s
