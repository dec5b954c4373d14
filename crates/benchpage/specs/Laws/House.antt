-- A row of the house listing takes five pages at most, and its words are of 32 bits: by computation, once.
-- Assumes nothing.
use Rattle.std.specs.Prelude.{◌≡◌, refl, Bool, true, false, cond, ◌&&◌, List, [], ◌∷◌, ℕ, zero, suc, ◌+◌, ◌^◌, ◌≤◌, ◌<◌, ltb, get_or, drop}
use Rattle.std.proofs.Common.{ap, ap₂, arith, ltb-true, lit<}
use Rattle.base.specs.Lists.{joined, from, from_each}
use Rattle.base.specs.Laws.Tests.{both}
use Rattle.circuit.specs.declared.Relation.{Relation}
use Rattle.circuit.specs.Words.{is_mark}
use Rattle.circuit.specs.Rows.{numbered, side_words, encode}
use Rattle.circuit.specs.Circuit.{bin_families, fld_families, circuit_rows, circuit_words}
use Rattle.circuit.specs.Found.{until, found, place_at}
use Rattle.circuit.specs.Reader.{row_of, row_read}
use Rattle.circuit.specs.Laws.House.{in_order}
use Rattle.page.specs.Pages.{page_count, page_bytes, line_count, sides_at, bytes_at, bytes_for}
use Rattle.page.specs.Laws.Terms.{term-count}
use Rattle.benchpage.specs.Promises.{FivePages}

-- ---- the computed tests

-- words of 32 bits
fit : List ℕ → Bool
fit [] = true
fit (w ∷ ws) = ltb w (2 ^ 32) && fit ws

-- at most so many terms before the first mark, and at most 299 behind each mark: with the head, 300 lines
few_terms : ℕ → List ℕ → Bool
few_terms most [] = true
few_terms zero (w ∷ ws) = is_mark w && few_terms 299 ws
few_terms (suc most) (w ∷ ws) = cond (is_mark w) (few_terms 299 ws) (few_terms most ws)

house-fit : fit circuit_words ≡ true
unfolding fit circuit_words circuit_rows bin_families fld_families from from_each joined numbered side_words encode
house-fit = refl

house-few : few_terms 299 circuit_words ≡ true
unfolding few_terms circuit_words circuit_rows bin_families fld_families from from_each joined numbered side_words encode
house-few = refl

-- ---- what they say

fit_at : (ws : List ℕ) → fit ws ≡ true → (i : ℕ) → get_or ws i 0 < 2 ^ 32
unfolding fit
fit_at [] h i = lit< tt
fit_at (w ∷ ws) h zero = ltb-true w (2 ^ 32) (both (ltb w (2 ^ 32)) (fit ws) h).0
fit_at (w ∷ ws) h (suc i) = fit_at ws (both (ltb w (2 ^ 32)) (fit ws) h).1 i

pub house-words : (i : ℕ) → get_or circuit_words i 0 < 2 ^ 32
house-words i = fit_at circuit_words house-fit i

few-first : (most : ℕ) (ws : List ℕ) → few_terms most ws ≡ true → until is_mark ws ≤ most
unfolding few_terms until
few-first most [] h = omega arith
few-first zero (w ∷ ws) h = rw (both (is_mark w) (few_terms 299 ws) h).0 (omega arith)
few-first (suc most) (w ∷ ws) h = by-test (is_mark w) h (few-first most ws)
  where
    by-test : (m : Bool) → cond m (few_terms 299 ws) (few_terms most ws) ≡ true → (few_terms most ws ≡ true → until is_mark ws ≤ most)
        → cond m 0 (suc (until is_mark ws)) ≤ suc most
    by-test true e rest = omega arith
    by-test false e rest = let l = rest e in omega arith

few-behind : (most : ℕ) (ws : List ℕ) (i : ℕ) → most ≤ 299 → few_terms most ws ≡ true → until is_mark (drop i ws) ≤ 299
unfolding few_terms until
few-behind most ws zero l h = omega (arith, few-first most ws h)
few-behind most [] (suc i) l h = omega arith
few-behind zero (w ∷ ws) (suc i) l h = few-behind 299 ws i (omega arith) (both (is_mark w) (few_terms 299 ws) h).1
few-behind (suc most) (w ∷ ws) (suc i) l h = by-test (is_mark w) h (few-behind 299 ws i (omega arith)) (few-behind most ws i (omega arith))
  where
    by-test : (m : Bool) → cond m (few_terms 299 ws) (few_terms most ws) ≡ true → (few_terms 299 ws ≡ true → until is_mark (drop i ws) ≤ 299)
        → (few_terms most ws ≡ true → until is_mark (drop i ws) ≤ 299) → until is_mark (drop i ws) ≤ 299
    by-test true e here there = here e
    by-test false e here there = there e

-- ---- a row that is found

pub row_opened : (rel : Relation) (n start end : ℕ) → found circuit_words rel n ≡ place_at start end → row_read circuit_words rel n ≡ place_at start end
row_opened rel n start end e = ap₂ row_of in_order e

five-at-most : (lines : ℕ) → lines ≤ 300 → page_bytes lines ≤ 18000
unfolding page_bytes page_count
five-at-most lines h = omega arith

pub five-pages : (rel : Relation) (n start end : ℕ) → found circuit_words rel n ≡ place_at start end → FivePages rel n
unfolding bytes_for
five-pages rel n start end e =
    record {
      bytes = page_bytes (line_count (sides_at circuit_words start));
      taken = ap (bytes_at circuit_words) (row_opened rel n start end e);
      few = five-at-most _ (omega (
        arith,
        term-count (drop (start + 1) circuit_words),
        few-behind 299 circuit_words (start + 1) (omega arith) house-few,
      ));
    }
