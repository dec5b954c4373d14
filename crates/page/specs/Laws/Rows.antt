-- A row that opening and searching a listing gives.
-- Assumes nothing.
use Rattle.std.specs.Prelude.{◌≡◌, refl, Bool, true, false, cond, List, ℕ, ◌+◌, ◌-◌, ◌<◌, ◌≤◌, leb, ltb, length, drop, Err, Ok}
use Rattle.std.proofs.Common.{subst, arith, leb-true, ltb-true}
use Rattle.layout.specs.Questions.{no, Answer, Asked}
use Rattle.layout.specs.Laws.Questions.{answered}
use Rattle.circuit.specs.declared.Relation.{Relation}
use Rattle.circuit.specs.Words.{is_mark, mark_word}
use Rattle.circuit.specs.Valid.{valid_from, validated}
use Rattle.circuit.specs.Found.{rows_a_cycle, until, is_word, row_at, found, place_at}
use Rattle.circuit.specs.Reader.{row_of, row_read}
use Rattle.circuit.specs.Laws.Search.{Within, found_within}
use Rattle.verdict.specs.Apply.{RowFound}
use Rattle.verdict.specs.Laws.Apply.{row-found}
use Rattle.page.specs.Promises.{RowAt}
use Rattle.layout.specs.declared.questions.Question.TheVariants.{ListingLength, RowSought}
use Rattle.circuit.specs.declared.search.Place.{Place}

-- it was opened, and found
read_found : (a : Asked) (f : Answer Place) (start end : ℕ) → row_of a f ≡ place_at start end → (a ≡ Ok tt) × (f ≡ place_at start end)
read_found (Ok _) f start end e = (refl, e)
read_found (Err r) f start end e = let z : ◌≡◌ {A = ℕ} 0 1 = cc in absurd (omega arith)

pub read-place : (ws : List ℕ) (rel : Relation) (n start end : ℕ) → row_read ws rel n ≡ place_at start end → found ws rel n ≡ place_at start end
read-place ws rel n start end e = (read_found (validated ws) (found ws rel n) start end e).1

-- where it was found, it ends before the next mark
Ends : List ℕ → Answer Place → Type 0
Ends ws (Ok place) = place.end ≡ place.start + 1 + until is_mark (drop (place.start + 1) ws)
Ends ws (Err r) = Unit

found-ends : (ws : List ℕ) (rel : Relation) (n : ℕ) → Ends ws (found ws rel n)
unfolding found row_at Ends
found-ends ws rel n = by_tests (ltb n (rows_a_cycle rel)) (until (is_word (mark_word rel n)) ws)
  where
    inner : (b : Bool) (at : ℕ) → Ends ws (cond b (place_at at (at + 1 + until is_mark (drop (at + 1) ws))) (Err (no RowSought 0)))
    inner true at = refl
    inner false at = tt

    by_tests : (b : Bool) (at : ℕ) → Ends ws (cond b (row_at ws at) (Err (no RowSought 0)))
    by_tests true at = inner (ltb at (length ws)) at
    by_tests false at = tt

-- and its number is one that a mark can carry
found_number_lem : (ws : List ℕ) (rel : Relation) (n start end : ℕ) → found ws rel n ≡ place_at start end → n < rows_a_cycle rel
unfolding found
found_number_lem ws rel n start end = by-test (ltb n (rows_a_cycle rel)) refl
  where
    by-test : (b : Bool) → ltb n (rows_a_cycle rel) ≡ b
        → cond b (row_at ws (until (is_word (mark_word rel n)) ws)) (Err (no RowSought 0)) ≡ place_at start end → n < rows_a_cycle rel
    by-test true e f = ltb-true n (rows_a_cycle rel) e
    by-test false e f = let z : ◌≡◌ {A = ℕ} 0 1 = cc in absurd (omega arith)

pub row_read_lem : (ws : List ℕ) (rel : Relation) (n start end : ℕ) → row_read ws rel n ≡ place_at start end → RowAt ws start end ×
    (n < rows_a_cycle rel)
unfolding Ends validated
row_read_lem ws rel n start end e =
    let p = read_found (validated ws) (found ws rel n) start end e in
    let w = subst (Within ws) p.1 (found_within ws rel n) in (
      record {
        begins = w.0;
        fits = w.1;
        few = leb-true (length ws) 16384 (answered (leb (length ws) 16384) (valid_from 0 0 0 ws) (no ListingLength 0) p.0).0;
        ends = subst (Ends ws) p.1 (found-ends ws rel n);
        in_order = (subst (RowFound ws) p.1 (row-found ws rel n p.0)).1;
      },
      found_number_lem ws rel n start end p.1,
    )

-- it starts before it ends, and is no longer than a listing
pub read-few : (ws : List ℕ) (rel : Relation) (n start end : ℕ) → row_read ws rel n ≡ place_at start end → (start ≤ end) × (end - start ≤ 16384)
read-few ws rel n start end e =
    let r = (row_read_lem ws rel n start end e).0 in let b = r.begins in (omega arith, omega (arith, r.fits, r.few))
