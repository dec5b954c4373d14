-- `circuit::search::find_row` meets its contract: each way out peels off the tests before it, once the mark's word and the counts are
-- those of the definition.
-- Assumes nothing.
use Rattle.std.proofs.Common.{◌≡◌, ◌∙◌, ap, List, ℕ, ◌+◌, ◌<◌, ◌≤◌, length, drop, arith, lt-ltb, le-ltb}
use Rattle.layout.specs.Questions.{no}
use Rattle.base.specs.Laws.Tests.{passed, refused}
use Rattle.circuit.specs.declared.Relation.{Relation}
use Rattle.circuit.specs.Words.{is_mark, mark_word}
use Rattle.circuit.specs.Found.{rows_a_cycle, until, is_word, row_at, found, place_at}
use Rattle.circuit.proofs.search.find_row.Goals as goal
use Rattle.layout.specs.declared.questions.Question.TheVariants.{RowSought}
use Rattle.std.specs.Prelude.{Err}

module _ (ws : List ℕ) (rel : Relation) (n limit start m : ℕ) (rows : limit ≡ rows_a_cycle rel) (mark : m ≡ mark_word rel n)
    (first : start ≡ until (is_word m) ws) (small : n < limit) where
  there : row_at ws start ≡ found ws rel n
  unfolding found
  there =
      ap (row_at ws) (first ∙ ap (λ (w : ℕ). until (is_word w) ws) mark)
      ∙ passed _ _ _ (lt-ltb n (rows_a_cycle rel) (omega arith))

  inside : (end : ℕ) → start < length ws → end ≡ start + 1 + until is_mark (drop (start + 1) ws) → place_at start end ≡ found ws rel n
  unfolding row_at
  inside end h e = ap (place_at start) e ∙ passed _ _ _ (lt-ltb start (length ws) h) ∙ there

  past : length ws ≤ start → Err (no RowSought 0) ≡ found ws rel n
  unfolding row_at
  past h = refused _ _ _ (le-ltb start (length ws) h) ∙ there

pub returns-then-rows_a_cycle-row : goal.returns-then-rows_a_cycle-row
unfolding found
returns-then-rows_a_cycle-row c =
    let a = c.args in let e = c.rows_a_cycle.ensures in
    ap Err c.refused.ensures ∙ refused _ _ _ (le-ltb a.row (rows_a_cycle a.relation) (omega arith))

pub returns-then-listing-start : goal.returns-then-listing-start
returns-then-listing-start c =
    ap Err c.refused-then-listing-start.ensures
    ∙ past _ _ _ _ _ _ c.rows_a_cycle.ensures c.mark_word.ensures c.index_of-start.ensures c.if-rows_a_cycle-row.false c.if-listing-start.true

pub returns : goal.returns
returns c =
    inside _ _ _ _ _ _ c.rows_a_cycle.ensures c.mark_word.ensures c.index_of-start.ensures c.if-rows_a_cycle-row.false _
    c.if-listing-start.false c.next_mark-end.ensures
