-- Two batches of cpi cycles in one of twice as many: the first's cycles before the second's (document 02, request 8).
-- Assumes nothing.
use Rattle.std.specs.Prelude.{cond, List, ℕ, ◌+◌, ◌-◌, ◌*◌, ◌/◌, ◌%◌, ltb, get_or}
use Rattle.base.specs.Lists.{from}
use Rattle.layout.specs.Batch.{batch_words}

-- word r of column c of cycle d of the larger batch: the first's cycles, and then the second's
unfoldable pub cycle_word : ℕ → List ℕ → List ℕ → ℕ → ℕ → ℕ → ℕ
cycle_word cpi first second c d r =
    cond (ltb d cpi) (get_or first (2 * (c * cpi + d) + r) 0) (get_or second (2 * (c * cpi + (d - cpi)) + r) 0)

-- word k below one_col, two words a column: batch column x is column x / (2 * cpi) of cycle x % (2 * cpi)
unfoldable pub lower_word : ℕ → List ℕ → List ℕ → ℕ → ℕ
lower_word cpi first second k = cycle_word cpi first second (k / 2 / (2 * cpi)) (k / 2 % (2 * cpi)) (k % 2)

-- word j from one_col on: the public words that were given, and then zeros
unfoldable pub public_word : ℕ → List ℕ → ℕ → ℕ
public_word cpi first j = cond (ltb j (4096 * cpi)) (get_or first (4096 * cpi + j) 0) 0

unfoldable pub merged_word : ℕ → List ℕ → List ℕ → ℕ → ℕ
merged_word cpi first second k =
    cond (ltb k (8192 * cpi)) (lower_word cpi first second k) (public_word cpi first (k - 8192 * cpi))

unfoldable pub merged : ℕ → List ℕ → List ℕ → List ℕ
merged cpi first second = from 0 (batch_words (2 * cpi)) (merged_word cpi first second)
