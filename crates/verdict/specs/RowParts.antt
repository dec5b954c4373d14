-- A row's words in a listing that is in order: its mark, and then the terms of A, of B and of C, each side a run of words.
-- Assumes nothing.
use Rattle.std.specs.Prelude.{Bool, true, cond, ◌&&◌, List, [], ◌∷◌, map, ℕ, ◌%◌, ◌^◌, leb, take}
use Rattle.circuit.specs.declared.Side.{Side}
use Rattle.circuit.specs.Words.{kind_of, past, is_mark, coefficient_of, relation_of}
use Rattle.circuit.specs.Rows.{Term, Row}
use Rattle.circuit.specs.Parse.{parse}
use Rattle.circuit.specs.Found.{until}

-- a side's run is as long as no word stands behind it
abbrev pub run_length : Side → List ℕ → ℕ
run_length side ws = until (past side) ws

-- the term of a word
abbrev pub term_of : ℕ → Term
term_of w = record { coefficient = coefficient_of w; column = w % 2 ^ 12 }

abbrev pub run_terms : Side → List ℕ → List Term
run_terms side ws = map term_of (take (run_length side ws) ws)

-- up to each mark the kinds of the terms do not fall: what question 10 asks, from the kind on that stands before
unfoldable pub sorted : ℕ → List ℕ → Bool
sorted kind [] = true
sorted kind (w ∷ ws) = cond (is_mark w) (sorted 0 ws) (leb kind (kind_of w) && sorted (kind_of w) ws)

-- the row that a mark heads
abbrev pub row_of : ℕ → List ℕ → Row
row_of w ws = record { relation = relation_of w; number = w % 2 ^ 9; sides = (parse ws).before }
