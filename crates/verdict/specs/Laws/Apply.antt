-- The row that the search finds is a row of the listing, and its terms are in order.
-- Assumes nothing.
use Rattle.std.specs.Prelude.{◌≡◌, refl, Bool, true, false, cond, ◌&&◌, List, [], ◌∷◌, ℕ, zero, suc, ◌+◌, ◌<◌, leb, ltb, length, get_or, drop, Err, Ok}
use Rattle.std.proofs.Common.{sym, ap, subst, ◌∙◌, not-suc-le-zero, le_of_suc-le-suc, add-one, arith, eqb-true, ltb-true, lt-ltb}
use Rattle.base.specs.Laws.Tests.{both, passed, refused}
use Rattle.layout.specs.Questions.{no}
use Rattle.layout.specs.Laws.Questions.{answered}
use Rattle.circuit.specs.declared.Relation.{Relation}
use Rattle.circuit.specs.declared.Relation.TheVariants.{Bin, Fld}
use Rattle.circuit.specs.Words.{kind_of, is_mark, mark_word}
use Rattle.circuit.specs.Valid.{valid_from, validated}
use Rattle.circuit.specs.Found.{rows_a_cycle, until, is_word, row_at, found, place_at}
use Rattle.circuit.specs.Laws.Search.{rows-at-most, until-finds}
use Rattle.verdict.specs.RowParts.{sorted}
use Rattle.verdict.specs.Apply.{RowFound}
use Rattle.verdict.specs.Laws.Order.{valid-rows}
use Rattle.layout.specs.declared.questions.Question.TheVariants.{ListingLength, RowSought}

-- ---- in a listing in order every row that is found is such

mark-is : (rel : Relation) (n : ℕ) → n < 512 → is_mark (mark_word rel n) ≡ true
mark-is Bin n h = lt-ltb 2 (kind_of (mark_word Bin n)) (omega arith)
mark-is Fld n h = lt-ltb 2 (kind_of (mark_word Fld n)) (omega arith)

sorted-behind : (i kind : ℕ) (ws : List ℕ) → sorted kind ws ≡ true → i < length ws
    → is_mark (get_or ws i 0) ≡ true → sorted 0 (drop (suc i) ws) ≡ true
unfolding sorted
sorted-behind i kind [] s h m = absurd (not-suc-le-zero h)
sorted-behind zero kind (w ∷ ws) s h m = passed (is_mark w) (sorted 0 ws) _ m ∙ s
sorted-behind (suc i) kind (w ∷ ws) s h m = by-test (is_mark w) refl (λ k g. sorted-behind i k ws g (le_of_suc-le-suc h) m)
  where
    by-test : (b : Bool) → is_mark w ≡ b
        → ((k : ℕ) → sorted k ws ≡ true → sorted 0 (drop (suc i) ws) ≡ true) → sorted 0 (drop (suc i) ws) ≡ true
    by-test true e later = later 0 (passed (is_mark w) (sorted 0 ws) _ e ∙ s)
    by-test false e later =
        later (kind_of w) (both (leb kind (kind_of w)) (sorted (kind_of w) ws)
        (refused (is_mark w) _ (leb kind (kind_of w) && sorted (kind_of w) ws) e ∙ s)).1

row-at : (ws : List ℕ) (rel : Relation) (n : ℕ) → sorted 3 ws ≡ true → n < 512 → RowFound ws (row_at ws (until (is_word (mark_word rel n)) ws))
unfolding row_at
row-at ws rel n s small = by-test (ltb at (length ws)) refl
  where
    at : ℕ
    at = until (is_word (mark_word rel n)) ws

    by-test : (b : Bool) → ltb at (length ws) ≡ b
        → RowFound ws (cond b (place_at at (at + 1 + until is_mark (drop (at + 1) ws))) (Err (no RowSought 0)))
    by-test true e =
        let h = ltb-true at (length ws) e in
        let w : get_or ws at 0 ≡ mark_word rel n = eqb-true (get_or ws at 0) (mark_word rel n) (until-finds (is_word (mark_word rel n)) ws h) in (
          h,
          subst (λ (k : ℕ). sorted 0 (drop k ws) ≡ true) (sym (add-one at)) (sorted-behind at 3 ws s h (ap is_mark w ∙ mark-is rel n small)),
        )
    by-test false e = tt

pub row-found : (ws : List ℕ) (rel : Relation) (n : ℕ) → validated ws ≡ Ok tt → RowFound ws (found ws rel n)
unfolding found validated
row-found ws rel n e = by-test (ltb n (rows_a_cycle rel)) refl
  where
    by-test : (b : Bool) → ltb n (rows_a_cycle rel) ≡ b
        → RowFound ws (cond b (row_at ws (until (is_word (mark_word rel n)) ws)) (Err (no RowSought 0)))
    by-test true l =
        row-at ws rel n (valid-rows ws (answered (leb (length ws) 16384) (valid_from 0 0 0 ws) (no ListingLength 0) e).1)
        (omega (arith, ltb-true n (rows_a_cycle rel) l, rows-at-most rel))
    by-test false l = tt
