-- Two batches into one (document 02, request 8), clause by clause: of a call of `merge` that was answered with yes, and the batch that it
-- left. Laws/Merging proves it of every such call.
-- Assumes nothing.
use Rattle.std.specs.Prelude.{◌≡◌, ◌↔◌, true, List, ℕ, ◌+◌, ◌*◌, ◌^◌, ◌≤◌, ◌<◌, length, get_or, None, Ok}
use Rattle.field.specs.Gf.{zero}
use Rattle.layout.specs.Batch.{column_at, batch_words}
use Rattle.layout.specs.Questions.{Left}
use Rattle.circuit.specs.declared.Relation.{Relation}
use Rattle.circuit.specs.Batched.{batch_row}
use Rattle.circuit.specs.Valid.{validated}
use Rattle.strict.specs.declared.Known.{Known}
use Rattle.verdict.specs.Row.{element_at}
use Rattle.verdict.specs.Check.{judged, checked, known_checked}
use Rattle.verdict.specs.Bits.{bit_tested}
use Rattle.step.specs.Demand3.{accepts}
use Rattle.step.specs.Fill.{called}
use Rattle.merge.specs.Merged.{merged}
use Rattle.merge.specs.Calls.{merge_called}
use Rattle.merge.specs.Joined.{joined, joined_answer, at, failure_of, moved, earlier, joined_bits}

-- ---- the batch: every column of it

pub record Columns (cpi : ℕ) (first second batch : List ℕ) : Type 0 where
  pub words : length batch ≡ batch_words (2 * cpi)
  -- the first's cycles before the second's
  pub first-cycles : (c d : ℕ) → c < 2048 → d < cpi → element_at batch (column_at (2 * cpi) c d) ≡ element_at first (column_at cpi c d)
  pub second-cycles : (c d : ℕ) → c < 2048 → d < cpi
      → element_at batch (column_at (2 * cpi) c (cpi + d)) ≡ element_at second (column_at cpi c d)
  -- public columns are those given, which both batches have, then zeros
  pub given : (p : ℕ) → p < 2048 * cpi
      → (element_at batch (2048 * (2 * cpi) + p) ≡ element_at first (2048 * cpi + p))
      × (element_at batch (2048 * (2 * cpi) + p) ≡ element_at second (2048 * cpi + p))
  pub zeros : (p : ℕ) → 2048 * cpi ≤ p → p < 2048 * (2 * cpi) → element_at batch (2048 * (2 * cpi) + p) ≡ zero

-- ---- the plain check, whatever stands in the columns, and over any list of words for a listing

pub record Judgement (cpi : ℕ) (first second batch : List ℕ) : Type 0 where
  -- its verdict: relation, batch row and both counts
  pub verdict : (listing : List ℕ) → judged (2 * cpi) listing batch ≡ joined cpi (judged cpi listing first) (judged cpi listing second)
  -- the check as it is called, with a listing and scratch that are lent, or over a listing that is known by name
  pub check : (listing scratch : List ℕ) → (checked (2 * cpi) listing batch scratch).answer
      ≡ joined_answer cpi (checked cpi listing first scratch).answer (checked cpi listing second scratch).answer
  pub known : (k : Known) → known_checked k (2 * cpi) batch ≡ joined_answer cpi (known_checked k cpi first) (known_checked k cpi second)
  -- the merged batch is accepted exactly when both are
  pub accepted : (listing scratch : List ℕ) → (accepts (checked (2 * cpi) listing batch scratch).answer ≡ true)
      ↔ ((accepts (checked cpi listing first scratch).answer ≡ true) × (accepts (checked cpi listing second scratch).answer ≡ true))
  -- a failure is the earlier of the two in the larger batch's order
  pub failure : (listing : List ℕ) → failure_of (judged (2 * cpi) listing batch)
      ≡ earlier (failure_of (judged cpi listing first)) (moved cpi (failure_of (judged cpi listing second)))
  -- and over a listing in order that is so by the numbers of its rows: a row of the first comes before every row of the second
  pub numbers : (listing : List ℕ) → ((i : ℕ) → get_or listing i 0 < 2 ^ 32) → validated listing ≡ Ok tt
      → (rel : Relation) (row row₂ : ℕ) → failure_of (judged cpi listing first) ≡ at rel row → row < batch_row rel cpi row₂

-- ---- the bit test

pub record Bits (cpi : ℕ) (first second batch : List ℕ) : Type 0 where
  pub answer : bit_tested (2 * cpi) batch ≡ joined_bits cpi (bit_tested cpi first) (bit_tested cpi second)
  -- all bits exactly when both are
  pub all : (bit_tested (2 * cpi) batch ≡ Ok None) ↔ ((bit_tested cpi first ≡ Ok None) × (bit_tested cpi second ≡ Ok None))

-- ---- the filler, where it refuses neither: the merge of the filled batches is the filling of the merge

abbrev pub Filled : ℕ → List ℕ → List ℕ → List ℕ → Type 0
Filled cpi first second batch =
    (u w there : List ℕ) → Left (called cpi first) u → Left (called cpi second) w → length there ≡ batch_words (2 * cpi)
    → Left (called (2 * cpi) batch) (merged cpi u w) × Left (merge_called cpi u cpi w there) (merged cpi u w)

-- ---- all of it: the first has cpi cycles, the second as many, and twice as many are at most 256

pub record Merging (cpi : ℕ) (first : List ℕ) (cpi₂ : ℕ) (second batch : List ℕ) : Type 0 where
  pub sizes : cpi₂ ≡ cpi
  pub most : 2 * cpi ≤ 256
  pub columns : Columns cpi first second batch
  pub judgement : Judgement cpi first second batch
  pub bits : Bits cpi first second batch
  pub filled : Filled cpi first second batch
