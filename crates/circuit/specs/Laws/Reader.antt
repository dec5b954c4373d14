-- The reader's position stays inside the listing.
-- Assumes nothing.
use Rattle.std.specs.Prelude.{List, ℕ, ◌≤◌, length, Ok, Err}
use Rattle.circuit.specs.declared.Relation.{Relation}
use Rattle.circuit.specs.Found.{found}
use Rattle.circuit.specs.Reader.{position_after}
use Rattle.circuit.specs.Laws.Search.{Within, found_within}
use Rattle.layout.specs.Questions.{Answer}
use Rattle.circuit.specs.declared.search.Place.{Place}

-- so whatever a reader is asked, its position stays one from which its words can be read on
pub position-within : (ws : List ℕ) (rel : Relation) (n position : ℕ) → position ≤ length ws
    → position_after (found ws rel n) position ≤ length ws
position-within ws rel n position h = by_place (found ws rel n) (found_within ws rel n)
  where
    by_place : (f : Answer Place) → Within ws f → position_after f position ≤ length ws
    by_place (Ok p) within = within.1
    by_place (Err r) within = h
