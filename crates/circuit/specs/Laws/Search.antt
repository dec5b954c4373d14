-- The laws of a search through words, for any test, and where a row that is found lies.
-- Assumes nothing.
use Rattle.std.specs.Prelude.{◌≡◌, refl, Bool, true, false, cond, List, [], ◌∷◌, ℕ, zero, suc, ◌+◌, ◌<◌, ◌≤◌, ltb, length, get_or, drop, Ok, Err}
use Rattle.std.proofs.Common.{sym, ◌∙◌, add-zero, not-suc-le-zero, le_of_suc-le-suc, add-one, arith, ltb-true, lt-ltb, drop_of_length-le, length-drop}
use Rattle.std.proofs.Math.Seq.{drop-cons}
use Rattle.base.specs.Laws.Tests.{passed}
use Rattle.layout.specs.Questions.{no, Answer}
use Rattle.circuit.specs.declared.Relation.{Relation}
use Rattle.circuit.specs.declared.Relation.TheVariants.{Bin, Fld}
use Rattle.circuit.specs.Words.{is_mark, mark_word}
use Rattle.circuit.specs.Found.{rows_a_cycle, until, is_word, row_at, found, place_at}
use Rattle.layout.specs.declared.questions.Question.TheVariants.{RowSought}
use Rattle.circuit.specs.declared.search.Place.{Place}

pub rows-at-most : (rel : Relation) → rows_a_cycle rel ≤ 512
rows-at-most Bin = omega arith
rows-at-most Fld = omega arith

pub rows-some : (rel : Relation) → 0 < rows_a_cycle rel
rows-some Bin = omega arith
rows-some Fld = omega arith

-- a turn of the search at index i: it stops, goes on, or has no words left
module _ (p : ℕ → Bool) (ws : List ℕ) (i : ℕ) where
  pub stops : i < length ws → p (get_or ws i 0) ≡ true → i + until p (drop i ws) ≡ i
  unfolding until
  stops h e = rw (drop-cons ws i 0) (rw e (add-zero i))

  pub goes : i < length ws → p (get_or ws i 0) ≡ false → i + until p (drop i ws) ≡ i + 1 + until p (drop (i + 1) ws)
  unfolding until
  goes h e = rw (add-one, drop-cons ws i 0) (rw e (omega arith))

  pub ends : length ws ≤ i → i + until p (drop i ws) ≡ i
  unfolding until
  ends h = rw (drop_of_length-le ws h) (add-zero i)

pub until-le : (p : ℕ → Bool) (ws : List ℕ) → until p ws ≤ length ws
unfolding until
until-le p [] = omega arith
until-le p (w ∷ ws) = by-test (p w) (until-le p ws)
  where
    by-test : (b : Bool) → until p ws ≤ length ws → cond b 0 (suc (until p ws)) ≤ length (w ∷ ws)
    by-test true h = omega arith
    by-test false h = omega arith

-- what the search stops at passes the test
pub until-finds : (p : ℕ → Bool) (ws : List ℕ) → until p ws < length ws → p (get_or ws (until p ws) 0) ≡ true
unfolding until
until-finds p [] h = absurd (not-suc-le-zero h)
until-finds p (w ∷ ws) h = by-test (p w) refl (until-finds p ws) h
  where
    by-test : (b : Bool) → p w ≡ b → (until p ws < length ws → p (get_or ws (until p ws) 0) ≡ true)
        → cond b 0 (suc (until p ws)) < length (w ∷ ws) → p (get_or (w ∷ ws) (cond b 0 (suc (until p ws))) 0) ≡ true
    by-test true e later l = e
    by-test false e later l = later (le_of_suc-le-suc l)

-- what it goes past does not
pub until-past : (p : ℕ → Bool) (ws : List ℕ) (k : ℕ) → k < until p ws → p (get_or ws k 0) ≡ false
unfolding until
until-past p [] k h = absurd (not-suc-le-zero h)
until-past p (w ∷ ws) k h = by-test (p w) refl k (until-past p ws) h
  where
    by-test : (b : Bool) → p w ≡ b → (i : ℕ) → ((j : ℕ) → j < until p ws → p (get_or ws j 0) ≡ false)
        → i < cond b 0 (suc (until p ws)) → p (get_or (w ∷ ws) i 0) ≡ false
    by-test true e i later l = absurd (not-suc-le-zero l)
    by-test false e zero later l = e
    by-test false e (suc i) later l = later i (le_of_suc-le-suc l)

-- what is found has its mark, and ends in the listing
abbrev pub Within : List ℕ → Answer Place → Type 0
Within ws (Ok p) = (p.start < p.end) × (p.end ≤ length ws)
Within ws (Err r) = Unit

row_within : (ws : List ℕ) (start : ℕ) → Within ws (row_at ws start)
unfolding row_at
row_within ws start = by-test (ltb start (length ws)) refl
  where
    by-test : (b : Bool) → ltb start (length ws) ≡ b
        → Within ws (cond b (place_at start (start + 1 + until is_mark (drop (start + 1) ws))) (Err (no RowSought 0)))
    by-test true e =
        (omega arith, omega (arith, ltb-true start (length ws) e, until-le is_mark (drop (start + 1) ws), length-drop (start + 1) ws))
    by-test false e = tt

pub found_within : (ws : List ℕ) (rel : Relation) (n : ℕ) → Within ws (found ws rel n)
unfolding found
found_within ws rel n = by-test (ltb n (rows_a_cycle rel))
  where
    by-test : (b : Bool) → Within ws (cond b (row_at ws (until (is_word (mark_word rel n)) ws)) (Err (no RowSought 0)))
    by-test true = row_within ws (until (is_word (mark_word rel n)) ws)
    by-test false = tt

-- a row that its relation can have is found at the first word that is its mark's, where there is one
pub found_first : (ws : List ℕ) (rel : Relation) (n : ℕ) → n < rows_a_cycle rel → until (is_word (mark_word rel n)) ws < length ws
    → found ws rel n
    ≡ place_at (until (is_word (mark_word rel n)) ws)
    (until (is_word (mark_word rel n)) ws + 1 + until is_mark (drop (until (is_word (mark_word rel n)) ws + 1) ws))
unfolding found row_at
found_first ws rel n few inside =
    sym (passed _ _ _ (lt-ltb (until (is_word (mark_word rel n)) ws) (length ws) inside) ∙ passed _ _ _ (lt-ltb n (rows_a_cycle rel) few))
