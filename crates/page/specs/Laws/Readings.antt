-- What is read off a page are the numbers: the head's batch row, a term's batch column, and its element.
-- Assumes nothing.
use Rattle.std.specs.Prelude.{◌≡◌, List, [], ◌∷◌, ◌++◌, ℕ, ◌-◌, ◌+◌, ◌*◌, ◌%◌, ◌^◌, ◌<◌, length, get_or, take, drop, Ok}
use Rattle.std.proofs.Math.Path.{ap}
use Rattle.std.proofs.Common.{◌∙◌, arith, length-append}
use Rattle.base.specs.Text.{blanks}
use Rattle.text.specs.Digits.{right}
use Rattle.text.specs.Laws.ReadBack.{stands_for, read-hex, read_right}
use Rattle.field.specs.Gf.{value}
use Rattle.field.specs.Gf.Element.{value-lt}
use Rattle.field.specs.Gf.Laws.{proper-words}
use Rattle.layout.specs.Batch.{column_at, mapped}
use Rattle.circuit.specs.declared.Relation.{Relation}
use Rattle.verdict.specs.Row.{cycle_of}
use Rattle.page.specs.Lines.{relation_text, head_line}
use Rattle.page.specs.Paper.{TermShown}
use Rattle.page.specs.Promises.{InBatch}
use Rattle.page.specs.Laws.Fields.{part}
use Rattle.page.specs.Laws.Lines.{relation-three, seven}
use Rattle.page.specs.Laws.Places.{placed-column}
use Rattle.page.specs.Laws.Sixty.{column-small}

pub head_read : (rel : Relation) (row : ℕ) → row < 10 ^ 7 → stands_for 10 (take 7 (drop 4 (head_line rel row))) ≡ row
unfolding head_line
head_read rel row h = ap (stands_for 10) field ∙ read_right 7 row (omega arith)
  where
    field : take 7 (drop 4 (relation_text rel ++ blanks 1 ++ right 7 row ++ blanks (60 - length
        (relation_text rel ++ blanks 1 ++ right 7 row))))
        ≡ right 7 row
    field =
        part 4 7 (relation_text rel ++ blanks 1) (right 7 row) (blanks (60 - length (relation_text rel ++ blanks 1 ++ right 7 row)) ∷ [])
        (length-append (relation_text rel) (blanks 1) ∙ omega (arith, relation-three rel)) (seven row h)

module _ (cpi : ℕ) (batch : List ℕ) (d w : ℕ) (line : List ℕ) (t : TermShown cpi batch d w line) where
  pub column-read : InBatch cpi d batch → (b : ℕ) → mapped 4096 cpi (w % 2 ^ 12) d ≡ Ok b → stands_for 10 (take 7 (drop 2 line)) ≡ b
  column-read i b e =
      ap (stands_for 10) (t.column b e)
      ∙ read_right 7 b
      (omega (
        arith,
        placed-column cpi (w % 2 ^ 12) d b i.size (omega arith) i.inside e,
        column-small cpi batch d i (w % 2 ^ 12)
            (omega arith),
      ))

  -- of words of 64 bits, as a caller lends them
  pub element-read : ((i : ℕ) → get_or batch i 0 < 2 ^ 64)
      → stands_for 16 (take 32 (drop 24 line)) ≡ value (cycle_of cpi batch d (w % 2 ^ 12))
  unfolding cycle_of
  element-read fit =
      ap (stands_for 16) t.digits
      ∙ read-hex 32 (value (cycle_of cpi batch d (w % 2 ^ 12)))
      (value-lt (proper-words _ _ (fit (2 * column_at cpi (w % 2 ^ 12) d)) (fit (2 * column_at cpi (w % 2 ^ 12) d + 1))))
