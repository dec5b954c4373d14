-- Pages: the lines of a row, one after the other, and blanks to the end of the last page.
-- Assumes nothing.
use Rattle.std.specs.Prelude.{◌≡◌, true, List, [], ◌∷◌, ◌++◌, ℕ, ◌+◌, ◌-◌, ◌*◌, ◌≤◌, ◌<◌, length, take, drop}
use Rattle.std.proofs.Common.{ap, ◌∙◌, append-nil, arith, length-append, drop_of_length-le}
use Rattle.std.proofs.lemmas.List.{length-map}
use Rattle.base.specs.Lists.{joined}
use Rattle.base.specs.Text.{blanks, left}
use Rattle.layout.specs.Batch.{allowed}
use Rattle.circuit.specs.declared.Side.TheVariants.{A, B, C}
use Rattle.circuit.specs.Rows.{Sides}
use Rattle.circuit.proofs.Laws.BatchRows.{batch-row-below, batch-rows-at-most}
use Rattle.text.specs.Laws.Left.{left_in}
use Rattle.text.specs.Laws.Put.{put-here, placed-then}
use Rattle.circuit.specs.declared.Relation.{Relation}
use Rattle.circuit.specs.Words.{is_mark}
use Rattle.circuit.specs.Found.{rows_a_cycle, until}
use Rattle.circuit.specs.Batched.{batch_row}
use Rattle.text.specs.Put.{Put, Placed}
use Rattle.page.specs.Lines.{head_line, term_line, side_lines, row_lines}
use Rattle.page.specs.Pages.{page_count, page_bytes, pages, line_count, sides_at}
use Rattle.page.specs.Promises.{RowAt, word_lines}
use Rattle.page.specs.Laws.Terms.{term-count, term-lines}

-- a row has as many lines as words, its mark's the head
pub lines_are : (ws : List ℕ) (start end : ℕ) → RowAt ws start end → line_count (sides_at ws start) ≡ end - start
lines_are ws start end r = term-count (drop (start + 1) ws) ∙ omega (arith, r.ends)

-- room for all of them
pub room : (lines : ℕ) → 60 * lines ≤ page_bytes lines
unfolding page_bytes page_count
room lines = omega arith

-- the lines of a row that was found
pub row-lines : (cpi : ℕ) (batch : List ℕ) (d : ℕ) (ws : List ℕ) (start end : ℕ) (rel : Relation) (n : ℕ) → RowAt ws start end
    → row_lines cpi batch d rel n (sides_at ws start)
    ≡ head_line rel (batch_row rel d n) ∷ word_lines cpi batch d (take (end - (start + 1)) (drop (start + 1) ws))
unfolding row_lines
row-lines cpi batch d ws start end rel n r =
    ap (λ ls. head_line rel (batch_row rel d n) ∷ ls)
    (term-lines cpi batch d 0 (drop (start + 1) ws) r.in_order
    ∙ ap (λ (k : ℕ). word_lines cpi batch d (take k (drop (start + 1) ws))) less)
  where
    less : until is_mark (drop (start + 1) ws) ≡ end - (start + 1)
    less = omega (arith, r.ends)

-- as many as the sides say
pub lines-count : (cpi : ℕ) (batch : List ℕ) (d : ℕ) (rel : Relation) (n : ℕ) (s : Sides) → length (row_lines cpi batch d rel n s)
    ≡ line_count s
unfolding row_lines
lines-count cpi batch d rel n s =
    omega (
      arith,
      length-append (side_lines cpi batch d A s.a ++ side_lines cpi batch d B s.b) (side_lines cpi batch d C s.c),
      length-append (side_lines cpi batch d A s.a) (side_lines cpi batch d B s.b),
      length-map s.a (λ t. term_line cpi batch d A t.coefficient t.column),
      length-map s.b (λ t. term_line cpi batch d B t.coefficient t.column),
      length-map s.c (λ t. term_line cpi batch d C t.coefficient t.column),
    )

-- a batch row has at most six digits
pub row_small : (cpi : ℕ) (rel : Relation) (d n : ℕ) → allowed cpi ≡ true → d < cpi → n < rows_a_cycle rel → batch_row rel d n < 131072
row_small cpi rel d n size hd hn = omega (arith, batch-row-below cpi size rel d n hd hn, batch-rows-at-most cpi size rel)

pub number_small : (cpi : ℕ) (rel : Relation) (d n rows : ℕ) → allowed cpi ≡ true → d < cpi → n < rows_a_cycle rel → rows ≡ rows_a_cycle rel
    → rows * d + n < 131072
number_small cpi rel d n rows size hd hn e = rw e (row_small cpi rel d n size hd hn)

-- lines and then blanks to the end, put over all bytes, are pages
pub pages-put : (ls : List (List ℕ)) (b m e : List ℕ) (s k t : ℕ) → Placed 0 (joined ls) b m s → Put s (left k []) m e t
    → length b ≡ page_bytes (length ls) → length m ≡ length b → s + k ≡ length b → e ≡ pages ls
unfolding pages
pages-put ls b m e s k t p q room kept width =
    whole.after_is ∙ ap (λ l. joined ls ++ left k [] ++ l) (drop_of_length-le b {i = 0 + length (joined ls ++ left k [])} (omega
    (arith, all)))
    ∙ append-nil (joined ls ++ left k []) ∙ ap (λ (n : ℕ). joined ls ++ blanks n) rest
  where
    whole : Placed 0 (joined ls ++ left k []) b e t
    whole = placed-then (omega arith) p (put-here s k (left k []) m e t (left_in k [] (omega arith)) (omega arith) q).0

    all : length (joined ls ++ left k []) ≡ length b
    all = length-append (joined ls) (left k []) ∙ omega (arith, left_in k [] (omega arith), p.answer-is)

    rest : k - length {A = ℕ} [] ≡ page_bytes (length ls) - length (joined ls)
    rest = omega (arith, p.answer-is)
