-- What a bench page shows, for the reader who holds it beside document 02, request 1: statements, which Laws proves.
-- Assumes nothing.
use Rattle.std.specs.Prelude.{◌≡◌, false, List, ◌∷◌, ℕ, ◌+◌, ◌*◌, ◌-◌, ◌%◌, ◌^◌, ◌<◌, ◌≤◌, length, get_or, take, drop, Ok}
use Rattle.base.specs.Text.{blanks, left}
use Rattle.text.specs.Digits.{right, hex}
use Rattle.field.specs.Gf.{value}
use Rattle.layout.specs.Batch.{mapped}
use Rattle.layout.specs.Segments.{segment_name}
use Rattle.circuit.specs.declared.Relation.{Relation}
use Rattle.circuit.specs.Words.{side_of, coefficient_of}
use Rattle.circuit.specs.Found.{found, place_at}
use Rattle.circuit.specs.Rows.{Sides}
use Rattle.circuit.specs.Batched.{batch_row, unmapped_row, cycle_row}
use Rattle.verdict.specs.Row.{cycle_of, holds}
use Rattle.page.specs.Lines.{side_text, exponent_text, head_line, term_lines}
use Rattle.page.specs.Pages.{page_bytes, pages, line_count, bytes_for, laid, laid_out}

-- line i: the 60 characters from 60 · i on
abbrev pub line_at : ℕ → List ℕ → List ℕ
line_at i page = take 60 (drop (60 * i) page)

-- the blanks of a term's line: one between each two fields, and all behind the last
pub record Blanks (line : List ℕ) : Type 0 where
  pub second : take 1 (drop 1 line) ≡ blanks 1
  pub tenth : take 1 (drop 9 line) ≡ blanks 1
  pub twentieth : take 1 (drop 19 line) ≡ blanks 1
  pub before-digits : take 1 (drop 23 line) ≡ blanks 1
  pub behind-digits : drop 56 line ≡ blanks 4

-- a term's line, field by field, from the listing's word: what stands where
pub record TermShown (cpi : ℕ) (batch : List ℕ) (d w : ℕ) (line : List ℕ) : Type 0 where
  pub side : take 1 line ≡ side_text (side_of w)
  -- the batch column that `map_z_col` answers
  pub column : (b : ℕ) → mapped 4096 cpi (w % 2 ^ 12) d ≡ Ok b → take 7 (drop 2 line) ≡ right 7 b
  pub segment : take 9 (drop 10 line) ≡ left 9 (segment_name (w % 2 ^ 12))
  pub exponent : take 3 (drop 20 line) ≡ exponent_text (coefficient_of w)
  -- the digits of the column's element in that cycle, which is what the check reads for the term where its coefficient is not zero
  pub digits : take 32 (drop 24 line) ≡ hex 32 (value (cycle_of cpi batch d (w % 2 ^ 12)))
  pub between : Blanks line

-- the pages of listing row n in cycle d
pub record Shown (cpi : ℕ) (listing batch : List ℕ) (rel : Relation) (n d : ℕ) (page : List ℕ) : Type 0 where
  -- the row's words: its mark, and from there its terms
  pub start : ℕ
  pub end : ℕ
  pub place : found listing rel n ≡ place_at start end
  -- whole pages of 60 lines of 60 characters, enough of them for a line to each word, and one less is not enough
  pub count : ℕ
  pub whole : length page ≡ 60 * 60 * count
  pub enough : end - start ≤ 60 * count
  pub needed : 60 * count < end - start + 60
  -- line 0 is the head, line k + 1 the row's term k, and from there on all is blank
  pub head : line_at 0 page ≡ head_line rel (batch_row rel d n)
  pub term : (k : ℕ) → k < end - (start + 1) → TermShown cpi batch d (get_or listing (start + 1 + k) 0) (line_at (k + 1) page)
  pub blank : (i : ℕ) → end - start ≤ i → i < 60 * count → line_at i page ≡ blanks 60

-- the page asked for with the row and the cycle of a failing verdict, whose batch row is b, shows the row that fails
pub record RowShown (cpi : ℕ) (listing batch : List ℕ) (rel : Relation) (b : ℕ) : Type 0 where
  pub cycle : ℕ
  pub number : ℕ
  pub sides : Sides
  -- cycle and row are those that `unmap_row` answers
  pub back : unmapped_row cpi rel b ≡ cycle_row cycle number
  pub fails : holds (cycle_of cpi batch cycle) sides ≡ false
  -- so many bytes are to be lent; the head has the verdict's batch row, and the lines are those of the terms of the row that fails
  pub bytes : bytes_for listing rel number ≡ Ok (page_bytes (line_count sides))
  pub page : (there : List ℕ) → length there ≡ page_bytes (line_count sides)
      → laid_out cpi listing batch rel number cycle there ≡ laid (pages (head_line rel b ∷ term_lines cpi batch cycle sides))
