-- Every line of a row has 60 characters, so line i of its pages is line i of the row, and behind the last all is blank.
-- Assumes nothing.
use Rattle.std.specs.Prelude.{◌≡◌, refl, Bool, true, false, List, [], ◌∷◌, ◌++◌, get_or, drop}
use Rattle.std.proofs.Common.{sym, subst, ◌∙◌, arith}
use Rattle.std.proofs.Math.Path.{ap}
use Prim.Native.Nat.{ℕ, ◌+◌, ◌*◌, ◌-◌, ◌^◌, ◌<◌, ◌≤◌}
use Rattle.std.proofs.Math.ListN.{length, take, length-append, length-replicate}
use Rattle.std.proofs.Math.Seq.{drop-append-add}
use Rattle.base.specs.Lists.{All, joined}
use Rattle.base.specs.Text.{blanks}
use Rattle.base.specs.Laws.Lists.{all_append}
use Rattle.base.specs.Laws.Joined.{joined_length, joined_at}
use Rattle.text.specs.Laws.Blanks.{blanks-less, blanks-first}
use Rattle.layout.specs.Batch.{column_at}
use Rattle.layout.specs.Laws.Mapping.{column-inside}
use Rattle.layout.specs.Laws.Sizes.{allowed-range}
use Rattle.circuit.specs.declared.Relation.{Relation}
use Rattle.circuit.specs.declared.Side.{Side}
use Rattle.circuit.specs.declared.Side.TheVariants.{A, B, C}
use Rattle.circuit.specs.Words.{is_mark, side_of}
use Rattle.circuit.specs.Rows.{Term, Sides}
use Rattle.circuit.specs.Parse.{in_front, parse}
use Rattle.circuit.specs.Found.{rows_a_cycle}
use Rattle.circuit.specs.Batched.{batch_row}
use Rattle.verdict.specs.RowParts.{term_of}
use Rattle.verdict.specs.Laws.RowParts.{parse-mark, parse-term}
use Rattle.page.specs.Lines.{term_line, side_lines, row_lines}
use Rattle.page.specs.Pages.{page_count, page_bytes, pages}
use Rattle.page.specs.Paper.{line_at}
use Rattle.page.specs.Promises.{InBatch, Short}
use Rattle.page.specs.Laws.Lines.{line-sixty, head-sixty}
use Rattle.page.specs.Laws.Places.{short-of}
use Rattle.page.specs.Laws.Pages.{row_small}

-- ---- the terms of a listing's rows

-- a column of a cycle's row, and an exponent of at most three digits
pub record Fitting (t : Term) : Type 0 where
  pub column_fits : t.column < 4096
  pub short : Short t.coefficient

abbrev pub AllFit : Sides → Type 0
AllFit s = All Fitting s.a × All Fitting s.b × All Fitting s.c

fit-in-front : (side : Side) (t : Term) (s : Sides) → Fitting t → AllFit s → AllFit (in_front side t s)
fit-in-front A t s f h = ((f, h.0), h.1, h.2)
fit-in-front B t s f h = (h.0, (f, h.1), h.2)
fit-in-front C t s f h = (h.0, h.1, (f, h.2))

fitting-word : (w : ℕ) → Fitting (term_of w)
fitting-word w = record { column_fits = omega arith; short = short-of w }

pub terms-fit : (ws : List ℕ) → AllFit (parse ws).before
unfolding parse
terms-fit [] = (tt, tt, tt)
terms-fit (w ∷ ws) = by-test (is_mark w) refl (terms-fit ws)
  where
    by-test : (m : Bool) → is_mark w ≡ m → AllFit (parse ws).before → AllFit (parse (w ∷ ws)).before
    by-test true m h = subst (λ p. AllFit p.before) (sym (parse-mark w ws m)) (tt, tt, tt)
    by-test false m h =
        subst (λ p. AllFit p.before) (sym (parse-term w ws m)) (fit-in-front (side_of w) (term_of w) (parse ws).before (fitting-word w) h)

-- ---- 60 characters

abbrev pub Sixty : List (List ℕ) → Type 0
Sixty ls = All (λ l. length l ≡ 60) ls

module _ (cpi : ℕ) (batch : List ℕ) (d : ℕ) (b : InBatch cpi d batch) where
  -- a batch column has at most seven digits
  pub column-small : (c : ℕ) → c < 4096 → column_at cpi c d < 10 ^ 7
  column-small c h = omega (arith, column-inside cpi c d h b.inside, allowed-range cpi b.size)

  term-sixty : (side : Side) (t : Term) → Fitting t → length (term_line cpi batch d side t.coefficient t.column) ≡ 60
  unfolding term_line
  term-sixty side t f = line-sixty side (column_at cpi t.column d) t.column t.coefficient _ (column-small t.column
      f.column_fits) f.short

  side-sixty : (side : Side) (ts : List Term) → All Fitting ts → Sixty (side_lines cpi batch d side ts)
  side-sixty side [] h = tt
  side-sixty side (t ∷ ts) h = (term-sixty side t h.0, side-sixty side ts h.1)

  pub row-sixty : (rel : Relation) (n : ℕ) (s : Sides) → n < rows_a_cycle rel → AllFit s → Sixty (row_lines cpi batch d rel n s)
  unfolding row_lines
  row-sixty rel n s l h = (
    head-sixty rel (batch_row rel d n) (omega (arith, row_small cpi rel d n b.size b.inside l)),
    all_append _ (side_lines cpi batch d A s.a ++ side_lines cpi batch d B s.b) (side_lines cpi batch d C s.c)
        (all_append _ (side_lines cpi batch d A s.a) (side_lines cpi batch d B s.b) (side-sixty A s.a h.0) (side-sixty B
        s.b h.1))
        (side-sixty C s.c h.2),
  )

-- ---- pages of such lines

bytes-are : (lines : ℕ) → page_bytes lines ≡ 3600 * page_count lines
unfolding page_bytes
bytes-are lines = refl

module _ (ls : List (List ℕ)) (sixty : Sixty ls) where
  pub pages-length : length (pages ls) ≡ page_bytes (length ls)
  unfolding pages page_bytes page_count
  pages-length =
      length-append (joined ls) (blanks (page_bytes (length ls) - length (joined ls)))
      ∙ omega (arith, joined_length 60 ls sixty, length-replicate {A = ℕ} (page_bytes (length ls) - length (joined ls)) 0x20)

  pub pages-line : (i : ℕ) → i < length ls → line_at i (pages ls) ≡ get_or ls i []
  unfolding pages
  pages-line i h = joined_at 60 ls sixty i h (blanks (page_bytes (length ls) - length (joined ls)))

  pub pages-blank : (i : ℕ) → length ls ≤ i → i < 60 * page_count (length ls) → line_at i (pages ls) ≡ blanks 60
  unfolding pages
  pages-blank i h l =
      ap (λ (k : ℕ). take 60 (drop k (joined ls ++ blanks rest))) place
      ∙ ap (take 60) (drop-append-add (joined ls) (blanks rest) (60 * i - length (joined ls)))
      ∙ ap (take 60) (blanks-less rest (60 * i - length (joined ls))) ∙ blanks-first 60 (rest - (60 * i - length (joined ls))) far
    where
      rest : ℕ
      rest = page_bytes (length ls) - length (joined ls)

      place : 60 * i ≡ length (joined ls) + (60 * i - length (joined ls))
      place = omega (arith, joined_length 60 ls sixty)

      far : 60 ≤ rest - (60 * i - length (joined ls))
      far = omega (arith, joined_length 60 ls sixty, bytes-are (length ls))
