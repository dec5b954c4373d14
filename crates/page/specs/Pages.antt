-- The bench page of a row (document 02, request 1): what a call answers, and what it leaves in the lent bytes.
-- Assumes nothing.
use Rattle.std.specs.Prelude.{cond, List, ℕ, ◌+◌, ◌*◌, ◌/◌, eqb, ltb, length, drop, Err, Ok}
use Rattle.base.specs.Lists.{joined}
use Rattle.base.specs.Text.{left}
use Rattle.layout.specs.declared.questions.Refusal.{Refusal}
use Rattle.layout.specs.Batch.{batch_asked}
use Rattle.layout.specs.Questions.{no, if_yes, Answer, Asked}
use Rattle.circuit.specs.declared.Relation.{Relation}
use Rattle.circuit.specs.Rows.{Sides}
use Rattle.circuit.specs.Parse.{parse}
use Rattle.circuit.specs.Reader.{row_read}
use Rattle.page.specs.Lines.{row_lines}
use Rattle.layout.specs.declared.questions.Question.TheVariants.{CycleRange, PageLength}
use Rattle.circuit.specs.declared.search.Place.{Place}

-- so many lines need so many pages of 60; a page has 60 lines of 60 characters
unfoldable pub page_count : ℕ → ℕ
page_count lines = (lines + 59) / 60

unfoldable pub page_bytes : ℕ → ℕ
page_bytes lines = 3600 * page_count lines

-- the lines one after the other, and blanks to the end of the last page
unfoldable pub pages : List (List ℕ) → List ℕ
pages ls = left (page_bytes (length ls)) (joined ls)

-- how many lines a row has: its head, and one for each term
abbrev pub line_count : Sides → ℕ
line_count s = 1 + (length s.a + length s.b + length s.c)

-- the terms of the row whose mark stands at an index
abbrev pub sides_at : List ℕ → ℕ → Sides
sides_at listing start = (parse (drop (start + 1) listing)).before

-- ---- how many bytes the pages of a row take: questions 6 to 10, 13

abbrev pub bytes_at : List ℕ → Answer Place → Answer ℕ
bytes_at listing (Ok place) = Ok (page_bytes (line_count (sides_at listing place.start)))
bytes_at listing (Err r) = Err r

unfoldable pub bytes_for : List ℕ → Relation → ℕ → Answer ℕ
bytes_for listing rel n = bytes_at listing (row_read listing rel n)

-- ---- the pages

-- the answer, and the lent bytes afterwards: a refusal leaves them as they came
pub record Laid : Type 0 where
  pub answer : Asked
  pub page : List ℕ

abbrev pub laid : List ℕ → Laid
laid made = record { answer = Ok tt; page = made }

abbrev pub not_laid : List ℕ → Refusal → Laid
not_laid there r = record { answer = Err r; page = there }

-- the row of a listing that a caller names, in a cycle of a batch, and the bytes that are lent for it
module _ (cpi : ℕ) (listing batch : List ℕ) (rel : Relation) (n d : ℕ) (there : List ℕ) where
  -- 16: the bytes are exactly as many as the row's pages take; 15: the cycle is one of the batch
  unfoldable pub laid_at : Answer Place → Laid
  laid_at (Ok place) =
      cond (eqb (length there) (page_bytes (line_count (sides_at listing place.start))))
      (cond (ltb d cpi) (laid (pages (row_lines cpi batch d rel n (sides_at listing place.start))))
      (not_laid there (no CycleRange 0)))
      (not_laid there (no PageLength 0))
  laid_at (Err r) = not_laid there r

  -- questions 1, 2, 6 to 10, 13, 16, 15
  unfoldable pub laid_out : Laid
  laid_out = if_yes (not_laid there) (batch_asked cpi (length batch)) (laid_at (row_read listing rel n))
