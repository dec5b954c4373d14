-- Where a row of a listing stands: question 13. The search covers the whole listing, whether or not it is in order.
-- Assumes nothing.
use Rattle.std.specs.Prelude.{Bool, cond, List, [], ◌∷◌, ℕ, suc, ◌+◌, ◌-◌, eqb, ltb, length, take, drop, Ok, Err}
use Rattle.layout.specs.Questions.{no, Answer}
use Rattle.circuit.specs.declared.Relation.{Relation}
use Rattle.circuit.specs.declared.Relation.TheVariants.{Bin, Fld}
use Rattle.circuit.specs.Words.{is_mark, mark_word}
use Rattle.layout.specs.declared.questions.Question.TheVariants.{RowSought}
use Rattle.circuit.specs.declared.search.Place.{Place}

-- rows of a cycle with its padding; a row number from there on stands in no mark, and so is not found
abbrev pub rows_a_cycle : Relation → ℕ
rows_a_cycle Bin = 512
rows_a_cycle Fld = 32

-- how many words stand before the first that passes the test
unfoldable pub until : (ℕ → Bool) → List ℕ → ℕ
until p [] = 0
until p (w ∷ ws) = cond (p w) 0 (suc (until p ws))

abbrev pub is_word : ℕ → ℕ → Bool
is_word w x = eqb x w

abbrev pub place_at : ℕ → ℕ → Answer Place
place_at start end = Ok (record { start = start; end = end })

-- the mark at start and its terms, up to the next mark; past the last word there is no row
unfoldable pub row_at : List ℕ → ℕ → Answer Place
row_at ws start =
    cond (ltb start (length ws)) (place_at start (start + 1 + until is_mark (drop (start + 1) ws))) (Err (no RowSought 0))

unfoldable pub found : List ℕ → Relation → ℕ → Answer Place
found ws rel n = cond (ltb n (rows_a_cycle rel)) (row_at ws (until (is_word (mark_word rel n)) ws)) (Err (no RowSought 0))

-- the words of the row; a row that is not there has none
abbrev pub part_of : Answer Place → List ℕ → List ℕ
part_of (Ok p) ws = take (p.end - p.start) (drop p.start ws)
part_of (Err r) ws = []
