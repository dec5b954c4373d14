-- What a call that is answered with yes leaves is what a bench page shows.
-- Assumes nothing.
use Rattle.std.specs.Prelude.{◌≡◌, false, List, [], ◌∷◌, length, get_or, take, drop, Ok}
use Rattle.std.proofs.Common.{sym, ◌∙◌, add-one, arith, length-drop, length-take-le, get_or-drop, get_or-take}
use Rattle.std.proofs.Math.Path.{ap, subst}
use Prim.Native.Nat.{ℕ, ◌+◌, ◌-◌, ◌%◌, ◌^◌, ◌<◌}
use Rattle.base.specs.Laws.Lists.{get_or-mapped}
use Rattle.field.specs.Gf.{value}
use Rattle.layout.specs.Batch.{column_at}
use Rattle.text.specs.Digits.{right}
use Rattle.circuit.specs.declared.Coefficient.{Coefficient}
use Rattle.circuit.specs.declared.Side.{Side}
use Rattle.circuit.specs.declared.Relation.{Relation}
use Rattle.circuit.specs.Words.{is_mark, side_of, coefficient_of, word_of}
use Rattle.circuit.specs.Found.{rows_a_cycle, place_at}
use Rattle.circuit.specs.Batched.{batch_row}
use Rattle.circuit.specs.Reader.{row_read}
use Rattle.circuit.specs.Laws.Search.{until-past}
use Rattle.verdict.specs.Row.{cycle_of}
use Rattle.page.specs.Lines.{head_line, term_line, row_lines}
use Rattle.page.specs.Pages.{page_count, page_bytes, pages, sides_at, laid_out}
use Rattle.page.specs.Paper.{line_at, TermShown, Shown}
use Rattle.page.specs.Promises.{InBatch, RowAt, Short, word_line, word_lines}
use Rattle.page.specs.Laws.Places.{placed-column, short-of}
use Rattle.page.specs.Laws.Fields.{line-side, line-column, line-name, line-exponent, line-digits, line-blanks}
use Rattle.page.specs.Laws.Rows.{row_read_lem, read-place}
use Rattle.page.specs.Laws.Pages.{lines_are, lines-count, row-lines}
use Rattle.page.specs.Laws.Terms.{term-word}
use Rattle.page.specs.Laws.Sixty.{Sixty, terms-fit, column-small, row-sixty, pages-length, pages-line, pages-blank}
use Rattle.page.specs.Laws.Answered.{laid_out_lem}

-- ---- a term's line

module _ (cpi : ℕ) (batch : List ℕ) (d : ℕ) (b : InBatch cpi d batch) where
  term-shown : (w : ℕ) → is_mark w ≡ false → TermShown cpi batch d w (word_line cpi batch d (word_of w))
  unfolding term_line
  term-shown w m =
      subst (λ x. TermShown cpi batch d w (word_line cpi batch d x)) (sym (term-word w m))
      (record {
        side = line-side side place c k x few short;
        column = λ p e. line-column side place c k x few short
            ∙ ap (λ (n : ℕ). right 7 n) (sym (placed-column cpi c d p b.size (omega arith) b.inside e));
        segment = line-name side place c k x few short;
        exponent = line-exponent side place c k x few short;
        digits = line-digits side place c k x few short;
        between = line-blanks side place c k x few short;
      })
    where
      c : ℕ
      c = w % 2 ^ 12

      place : ℕ
      place = column_at cpi c d

      side : Side
      side = side_of w

      k : Coefficient
      k = coefficient_of w

      x : ℕ
      x = value (cycle_of cpi batch d c)

      few : place < 10 ^ 7
      few = column-small cpi batch d b c (omega arith)

      short : Short k
      short = short-of w

-- ---- the page

module _ (cpi : ℕ) (listing batch : List ℕ) (rel : Relation) (n d start end : ℕ) (place : row_read listing rel n ≡ place_at start end)
    (b : InBatch cpi d batch) where
  abbrev lines : List (List ℕ)
  lines = row_lines cpi batch d rel n (sides_at listing start)

  row : RowAt listing start end × (n < rows_a_cycle rel)
  row = row_read_lem listing rel n start end place

  abbrev words : List ℕ
  words = take (end - (start + 1)) (drop (start + 1) listing)

  words_count : length words ≡ end - (start + 1)
  words_count =
      length-take-le (end - (start + 1)) (drop (start + 1) listing) (let r = row.0.fits in omega (arith, length-drop (start + 1) listing))

  count : length lines ≡ end - start
  count = lines-count cpi batch d rel n (sides_at listing start) ∙ lines_are listing start end row.0

  sixty : Sixty lines
  sixty = row-sixty cpi batch d b rel n (sides_at listing start) row.1 (terms-fit (drop (start + 1) listing))

  line-of-term : (k : ℕ) → k < end - (start + 1) → line_at (k + 1) (pages lines) ≡ word_line cpi batch d (word_of (get_or listing
      (start + 1 + k) 0))
  line-of-term k h =
      pages-line lines sixty (k + 1) (omega (arith, count))
      ∙ ap (λ ls. get_or ls (k + 1) []) (row-lines cpi batch d listing start end rel n row.0)
      ∙ ap (λ (i : ℕ). get_or (head_line rel (batch_row rel d n) ∷ word_lines cpi batch d words) i []) (add-one k)
      ∙ get_or-mapped (λ w. word_line cpi batch d (word_of w)) words k 0 [] (omega (arith, words_count))
      ∙ ap (λ w. word_line cpi batch d (word_of w))
      (get_or-take (end - (start + 1)) (drop (start + 1) listing) k 0 h ∙ get_or-drop (start + 1) listing k 0)

  no-mark : (k : ℕ) → k < end - (start + 1) → is_mark (get_or listing (start + 1 + k) 0) ≡ false
  no-mark k h =
      ap is_mark (sym (get_or-drop (start + 1) listing k 0))
      ∙ until-past is_mark (drop (start + 1) listing) k (omega (arith, row.0.ends))

  shown-pages : Shown cpi listing batch rel n d (pages lines)
  unfolding page_count page_bytes row_lines
  shown-pages =
      record {
        start = start;
        end = end;
        place = read-place listing rel n start end place;
        count = page_count (length lines);
        whole = pages-length lines sixty;
        enough = omega (arith, count);
        needed = omega (arith, count);
        head = pages-line lines sixty 0 (omega (arith, count, row.0.begins));
        term = λ k h. subst (TermShown cpi batch d (get_or listing (start + 1 + k) 0)) (sym (line-of-term k h))
            (term-shown cpi batch d b (get_or listing (start + 1 + k) 0) (no-mark k h));
        blank = λ i l h. pages-blank lines sixty i (omega (arith, count)) h;
      }

pub shown : (cpi : ℕ) (listing batch : List ℕ) (rel : Relation) (n d : ℕ) (there : List ℕ)
    → (laid_out cpi listing batch rel n d there).answer ≡ Ok tt → Shown cpi listing batch rel n d
    (laid_out cpi listing batch rel n d there).page
shown cpi listing batch rel n d there y =
    let l = laid_out_lem cpi listing batch rel n d there y in
    subst (Shown cpi listing batch rel n d) (sym l.page-is)
    (shown-pages cpi listing batch rel n d l.start l.end l.place l.in-batch)
