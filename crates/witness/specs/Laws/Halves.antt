-- The halves of a row or a batch, by word and by element: what its maker says of the lower one, the one column, the public values.
-- Assumes nothing.
use Rattle.std.specs.Prelude.{◌≡◌, ℕ, ◌+◌, ◌-◌, ◌*◌, ◌<◌, ◌≤◌, List, length, slice_index, slice_set}
use Rattle.std.proofs.Common.{sym, ◌∙◌, zero-add, length-set}
use Rattle.std.proofs.Math.Path.{ap, ap₂}
use native.Mathlib.Omega.{arith}
use Rattle.std.proofs.Math.ListN.{get_or-eq_default}
use Rattle.base.specs.Lists.{from}
use Rattle.base.specs.Written.{Written, copied}
use Rattle.base.specs.Laws.From.{get_or-from}
use Rattle.base.specs.Laws.Written.{written_none, written-more, written-to, written_same, written_then, written_all, copied-fits}
use Rattle.field.specs.Gf.{of_words}
use Rattle.field.specs.Gf.Laws.{words-zero, words-one}
use Rattle.verdict.specs.Row.{element_at}
use Rattle.witness.specs.Upper.{upper_word, upper_from, batch_word}
use Rattle.witness.specs.Laws.Upper.{public-word, in-lower, in-upper}
use Rattle.field.specs.Gf as gf

-- the upper half written in three pieces: the one column, the public words, zeros
module _ (start : ℕ) (public : List ℕ) where
  abbrev f : ℕ → ℕ
  f = upper_from start public

  one-low : 1 ≡ f start
  unfolding upper_word
  one-low = let z : 0 ≡ start - start = omega arith in ap (upper_word public) z

  one-high : 0 ≡ f (start + 1)
  unfolding upper_word
  one-high = let z : 1 ≡ start + 1 - start = omega arith in ap (upper_word public) z

  behind : (i : ℕ) → start + 2 + length public ≤ i → 0 ≡ f i
  behind i l = sym (public-word public (i - start) (omega arith) ∙ get_or-eq_default public 0 (omega arith))

  values-written : (before after : List ℕ) → start + 2 + length public ≤ length before
      → Written (copied public (start + 2) before) (start + 2) (length before) before after
      → Written f (start + 2) (start + 2 + length public) before after
  values-written before after room w =
      written_same _ f (start + 2) (start + 2 + length public) before after
      (λ i l m.
      let place : i - (start + 2) ≡ i - start - 2 = omega arith in
      ap (λ (n : ℕ). slice_index public n) place ∙ sym (public-word public (i - start) (omega arith)))
      (copied-fits public (start + 2) before after room w)

  abbrev ones : List ℕ → List ℕ
  ones before = slice_set (slice_set before start 1) (start + 1) 0

  pub upper-written : (before between cleared : List ℕ) → start + 2 + length public ≤ length before
      → Written (copied public (start + 2) (ones before)) (start + 2) (length (ones before)) (ones before) between
      → Written (λ i. 0) (start + 2 + length public) (length between) between cleared → Written f start (length before) before cleared
  upper-written before between cleared room w z =
      let size : length (ones before) ≡ length before = length-set (slice_set before start 1) (start + 1) 0 ∙ length-set before start 1 in
      let low = written-more f start start before before 1 one-low (omega arith) (omega arith) (written_none f start before) in
      let high = written-more f start (start + 1) before (slice_set before start 1) 0 one-high (omega arith) (omega arith) low in
      let one = written-to f start (start + 1 + 1) (start + 2) before _ (omega arith) high in
      let values = written_then f start (start + 2) (start + 2 + length public) before _ between (omega arith) (omega arith) one
      (values-written (ones before) between (omega arith) w) in
      let rest = written_same (λ i. 0) f (start + 2 + length public) (length between) between cleared (λ i l _. behind i l) z in
      written-to f start (length between) (length before) before cleared values.lengths
      (written_then f start (start + 2 + length public) (length between) before between cleared (omega arith)
      (omega (arith, values.lengths)) values rest)

-- n words, whose one column is in the middle
module _ (n one : ℕ) (half : n ≡ 4 * one) (lower : ℕ → ℕ) (public : List ℕ) where
  abbrev pub whole : List ℕ
  whole = from 0 n (batch_word one lower public)

  word_at : (k : ℕ) → k < n → slice_index whole k ≡ batch_word one lower public k
  word_at k h = get_or-from (batch_word one lower public) 0 n 0 k h ∙ ap (batch_word one lower public) (zero-add k)

  pub lower-at : (k : ℕ) → k < 2 * one → slice_index whole k ≡ lower k
  lower-at k h = word_at k (omega arith) ∙ in-lower one lower public k h

  -- word j from the one column on
  upper-at : (j k : ℕ) → k < n → k ≡ 2 * one + j → slice_index whole k ≡ upper_word public j
  upper-at j k h e =
      let place : k - 2 * one ≡ j = omega arith in word_at k h ∙ in-upper one lower public k (omega arith) ∙ ap (upper_word public) place

  value-word : (i k : ℕ) → k < n → k ≡ 2 * one + 2 + i → slice_index whole k ≡ slice_index public i
  value-word i k h e =
      let place : i + 2 - 2 ≡ i = omega arith in
      upper-at (i + 2) k h (omega arith) ∙ public-word public (i + 2) (omega arith) ∙ ap (λ (m : ℕ). slice_index public m) place

  pub one_at : 0 < one → element_at whole one ≡ gf.one
  unfolding upper_word
  one_at some = ap₂ of_words (upper-at 0 _ (omega arith) (omega arith)) (upper-at 1 _ (omega arith) (omega arith)) ∙ words-one

  pub value-at : (j : ℕ) → one + 1 + j < 2 * one → element_at whole (one + 1 + j) ≡ element_at public j
  value-at j h = ap₂ of_words (value-word (2 * j) _ (omega arith) (omega arith)) (value-word (2 * j + 1) _ (omega arith) (omega arith))

  -- behind the public values, all is 0
  pub rest_at : (j : ℕ) → length public ≤ 2 * j → one + 1 + j < 2 * one → element_at whole (one + 1 + j) ≡ gf.zero
  rest_at j l h = value-at j h ∙ ap₂ of_words (get_or-eq_default public 0 l) (get_or-eq_default public 0 (omega arith)) ∙ words-zero

  -- both halves written, one behind the other; the one column stands at word `start`
  pub halves-written : (start : ℕ) → start ≡ 2 * one → (before between after : List ℕ) → length before ≡ n
      → Written lower 0 start before between
      → Written (upper_from start public) start (length between) between after → after ≡ whole
  halves-written start s before between after e l u =
      let size : length between ≡ n = l.lengths ∙ e in
      let first = written_same lower (batch_word one lower public) 0 start before between
      (λ i _ h. sym (in-lower one lower public i (omega arith))) l in
      let second =
      written_same (upper_from start public) (batch_word one lower public) start (length between) between after
      (λ i h _. ap (λ (k : ℕ). upper_word public (i - k)) s ∙ sym (in-upper one lower public i (omega arith))) u in
      written_all (batch_word one lower public) (length between) n before after e (omega arith)
      (written_then (batch_word one lower public) 0 start (length between) before between after (omega arith) (omega arith) first second)
