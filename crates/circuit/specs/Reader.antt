-- The listing reader (document 01, "Listing"): what opening and asking for a row answer, and what they make of words and position.
-- Assumes nothing.
use Rattle.std.specs.Prelude.{◌≡◌, List, [], ℕ, Err, Ok}
use Rattle.circuit.specs.declared.Relation.{Relation}
use Rattle.circuit.specs.declared.reader.ListingReader.{ListingReader}
use Rattle.circuit.specs.declared.reader.Opened.{Opened}
use Rattle.circuit.specs.declared.reader.RowAnswer.{RowAnswer}
use Rattle.circuit.specs.Valid.{validated}
use Rattle.circuit.specs.Found.{found, part_of}
use Rattle.layout.specs.Questions.{Answer, Asked}
use Rattle.circuit.specs.declared.search.Place.{Place}

-- a refused opening gives a reader over no words
abbrev pub admitted : Asked → List ℕ → List ℕ
admitted (Ok _) ws = ws
admitted (Err r) ws = []

-- opening answers questions 6 to 10, and puts the position at 0
pub record OpensTo (ws : List ℕ) (o : Opened) : Type 0 where
  pub asked : o.asked ≡ validated ws
  pub words : o.reader.listing.now ≡ admitted (validated ws) ws
  pub position : o.reader.position ≡ 0

-- the position becomes the index just after the part, and a refusal keeps it
abbrev pub position_after : Answer Place → ℕ → ℕ
position_after (Ok place) position = place.end
position_after (Err r) position = position

-- reader r, asked for a row, answers a and is r' afterwards: the row is sought in all its words, the part is empty where it is
-- refused, and the words stay the same lent words
pub record AnswersRow (r : ListingReader) (rel : Relation) (n : ℕ) (a : RowAnswer) (r' : ListingReader) : Type 0 where
  pub place : a.place ≡ found r.listing.now rel n
  pub part : a.part.now ≡ part_of (found r.listing.now rel n) r.listing.now
  pub words : r'.listing ≡ r.listing
  pub position : r'.position ≡ position_after (found r.listing.now rel n) r.position

-- the refusal of the opening comes before that of the search
abbrev pub row_of : Asked → Answer Place → Answer Place
row_of (Ok _) place = place
row_of (Err r) place = Err r

-- a listing opened and asked for one row: 6 to 10, and then 13
abbrev pub row_read : List ℕ → Relation → ℕ → Answer Place
row_read ws rel n = row_of (validated ws) (found ws rel n)
