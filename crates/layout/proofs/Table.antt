-- The table of segments in code: each row is the segment's, its name filled up with blanks.
-- Assumes nothing.
use Rattle.std.specs.Prelude.{◌≡◌, true, false, ◌&&◌, List, [], ◌∷◌, ◌++◌, map, flat_map, ℕ, ◌+◌, ◌≤◌, ◌<◌, leb, ltb, length, get_or, drop}
use Rattle.std.proofs.Common.{refl, sym, ap, ◌∙◌, arith, drop_of_length-le}
use Rattle.std.proofs.lemmas.Grind.{same_number_lists}
use Rattle.base.specs.Lists.{joined}
use Rattle.base.specs.Laws.Lists.{get_or-mapped}
use Rattle.layout.specs.declared.segments.Segment.{Segment as Row}
use Rattle.layout.specs.Segments.{Segment, segment, segments, padded, segment_names, segment_starts, segment_lengths, in_segment, name_in, segment_name, segment_at}
use Rattle.layout.specs.Laws.Segments.{segments-count, name-stops, name-goes}

abbrev pub made : Segment → Row
made s = record { name = padded s.name; start = s.start; length = s.columns }

-- what stands in no row
abbrev pub no_row : Row
no_row = record { name = []; start = 0; length = 0 }

module _ (rows : List Row) (i c : ℕ) (table : rows ≡ map made segments) (inside : i < 19) where
  pub row_at : get_or rows i no_row ≡ made (segment_at segments i)
  row_at = ap (λ (l : List Row). get_or l i no_row) table ∙ get_or-mapped made segments i (segment [] 0 0) no_row (omega (arith, segments-count))

  test_at : in_segment (segment_at segments i) c
      ≡ (leb (get_or rows i no_row).start c && ltb c ((get_or rows i no_row).start + (get_or rows i no_row).length))
  test_at = ap (λ (r : Row). leb r.start c && ltb c (r.start + r.length)) (sym row_at)

  -- a turn of the search: it stops, or goes on
  pub stops : (leb (get_or rows i no_row).start c && ltb c ((get_or rows i no_row).start + (get_or rows i no_row).length)) ≡ true
      → name_in (drop i segments) c ≡ segment_name c → (get_or rows i no_row).name ≡ padded (segment_name c)
  stops e h = ap (λ (r : Row). r.name) row_at
      ∙ ap padded (name-stops segments c i (omega (arith, segments-count)) (test_at ∙ e) ∙ h)

  pub goes : (leb (get_or rows i no_row).start c && ltb c ((get_or rows i no_row).start + (get_or rows i no_row).length)) ≡ false
      → name_in (drop i segments) c ≡ segment_name c → name_in (drop (i + 1) segments) c ≡ segment_name c
  goes e h = name-goes segments c i (omega (arith, segments-count)) (test_at ∙ e) ∙ h

one_each : (f : Segment → ℕ) → length (map f segments) ≡ 19
unfolding segments
one_each f = refl

pub bytes_of : length (segment_names segments) ≡ 171
unfolding segments joined
bytes_of = refl

pub flat_joined : (xs : List (List ℕ)) → flat_map (λ x. x) xs ≡ joined xs
unfolding joined
flat_joined [] = refl
flat_joined (x ∷ xs) = ap (λ l. x ++ l) (flat_joined xs)

-- what is read off the rows, one after the other
pub starts_read : (ys : List ℕ) → length ys ≡ 19 → ((k : ℕ) → k < 19 → get_or ys k 0 ≡ (get_or (map made segments) k no_row).start)
    → ys ≡ segment_starts segments
starts_read ys e f = same_number_lists ys (segment_starts segments) (e ∙ sym (one_each (λ s. s.start)))
    (λ k h. f k (omega arith) ∙ ap (λ (r : Row). r.start) (row_at (map made segments) k 0 refl (omega arith))
    ∙ sym (get_or-mapped (λ (s : Segment). s.start) segments k (segment [] 0 0) 0 (omega (arith, segments-count))))

pub lengths_read : (ys : List ℕ) → length ys ≡ 19 → ((k : ℕ) → k < 19 → get_or ys k 0 ≡ (get_or (map made segments) k no_row).length)
    → ys ≡ segment_lengths segments
lengths_read ys e f = same_number_lists ys (segment_lengths segments) (e ∙ sym (one_each (λ s. s.columns)))
    (λ k h. f k (omega arith) ∙ ap (λ (r : Row). r.length) (row_at (map made segments) k 0 refl (omega arith))
    ∙ sym (get_or-mapped (λ (s : Segment). s.columns) segments k (segment [] 0 0) 0 (omega (arith, segments-count))))

pub ends : (i c : ℕ) → 19 ≤ i → name_in (drop i segments) c ≡ segment_name c → padded [] ≡ padded (segment_name c)
unfolding name_in
ends i c l h = ap padded (sym (ap (λ (ss : List Segment). name_in ss c) (drop_of_length-le segments (omega (arith, segments-count)))) ∙ h)
