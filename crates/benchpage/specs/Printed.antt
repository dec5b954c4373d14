-- What is printed of the bytes that were read (document 02, request 1): the pages of the first failing row, or rowcheck's line.
-- Assumes nothing.
use Rattle.std.specs.Prelude.{List, [], ◌++◌, ℕ, zero, suc, ◌/◌, length, take, drop, Err, Ok}
use Rattle.base.specs.Text.{ascii}
use Rattle.circuit.specs.declared.Relation.{Relation}
use Rattle.circuit.specs.Rows.{Sides}
use Rattle.circuit.specs.Parse.{empty}
use Rattle.circuit.specs.Circuit.{circuit_words}
use Rattle.circuit.specs.Reader.{row_read}
use Rattle.verdict.specs.declared.Verdict.TheVariants.{Accepted, Failed}
use Rattle.page.specs.Line.{answer_line}
use Rattle.page.specs.Lines.{row_lines}
use Rattle.page.specs.Pages.{pages, sides_at}
use Rattle.cellprism.specs.Bytes.{row_of}
use Rattle.cellprism.specs.Answer.{row_checked}
use Rattle.layout.specs.Questions.{Answer}
use Rattle.circuit.specs.declared.search.Place.{Place}
use Rattle.verdict.specs.declared.Verdict.{Verdict}

-- n lines of 60 characters, a line end after each
unfoldable pub lined : ℕ → List ℕ → List ℕ
lined zero text = []
lined (suc n) text = take 60 text ++ ascii "\n" ++ lined n (drop 60 text)

-- a line end after every 60 characters; a page has 3,600, so none is left over
abbrev pub with_line_ends : List ℕ → List ℕ
with_line_ends text = lined (length text / 60) text

-- the terms of a row of a listing; of one that is not there, none
abbrev pub sides_in : List ℕ → Answer Place → Sides
sides_in listing (Ok place) = sides_at listing place.start
sides_in listing (Err r) = empty

abbrev pub sides_of : List ℕ → Relation → ℕ → Sides
sides_of listing rel n = sides_in listing (row_read listing rel n)

-- the pages of a row of the house listing over a row's words, which are a batch of one cycle, cycle 0
unfoldable pub pages_of : List ℕ → Relation → ℕ → List ℕ
pages_of words rel n = pages (row_lines 1 words 0 rel n (sides_of circuit_words rel n))

-- where the check fails, the pages of the row that it names (of one cycle, the batch row is the listing's); else rowcheck's line
abbrev pub answer_printed : List ℕ → Answer Verdict → List ℕ
answer_printed words (Ok (Failed rel n tested)) = with_line_ends (pages_of words rel n)
answer_printed words (Ok (Accepted tested)) = answer_line (Ok (Accepted tested))
answer_printed words (Err r) = answer_line (Err r)

unfoldable pub printed : List ℕ → List ℕ
printed bytes = answer_printed (row_of bytes) (row_checked bytes)
