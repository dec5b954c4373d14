-- The bitwise or of low words, and that of high ones, tell whether elements are bits.
-- Assumes nothing.
use Rattle.std.specs.Prelude.{ℕ, ◌+◌, ◌≤◌, List, slice_index}

-- ---- a bit by its words

-- the element whose words stand at i and i + 1 is 0 or 1
abbrev pub BitAt : List ℕ → ℕ → Type 0
BitAt b i = (slice_index b i ≤ 1) × (slice_index b (i + 1) ≤ 0)
