-- Word after word of every cycle, 32 words a cycle.
-- Assumes nothing.
use Rattle.std.specs.Prelude.{◌≡◌, ℕ, ◌+◌, ◌*◌, ◌<◌, ◌≤◌, ◌↔◌, List, length, ◌≢◌, slice_index}
use Rattle.layout.specs.Batch.{batch_words}
use Rattle.packed.specs.Packed.{packed_word}
use Rattle.packed.specs.Columns.{BitsIn}

-- ---- word k of the first n cycles put into its places

pub record Scattered (acc : List ℕ) (k n : ℕ) (before after : List ℕ) : Type 0 where
  pub lengths : length after ≡ length before
  pub here : (d : ℕ) → d < n → slice_index after (32 * d + k) ≡ slice_index acc d
  pub elsewhere : (d j : ℕ) → j < 32 → (j ≢ k) → slice_index after (32 * d + j) ≡ slice_index before (32 * d + j)

-- ---- words `first` to before k of every cycle

pub record Ranged (cpi : ℕ) (batch : List ℕ) (first k : ℕ) (before after : List ℕ) (bad : ℕ) : Type 0 where
  pub lengths : length after ≡ length before
  pub here : (d j : ℕ) → d < cpi → first ≤ j → j < k → slice_index after (32 * d + j) ≡ packed_word cpi batch d j
  pub left : (d j : ℕ) → j < 32 → j < first → slice_index after (32 * d + j) ≡ slice_index before (32 * d + j)
  pub right : (d j : ℕ) → j < 32 → k ≤ j → slice_index after (32 * d + j) ≡ slice_index before (32 * d + j)
  pub bits : (bad ≡ 0) ↔ BitsIn cpi batch (64 * first) (64 * k)

pub record RangeIn (cpi : ℕ) (batch : List ℕ) (first last : ℕ) (out : List ℕ) : Type 0 where
  pub few : cpi ≤ 256
  pub words : length batch ≡ batch_words cpi
  pub order : first ≤ last
  pub inside : last ≤ 32
  pub room : length out ≡ 32 * cpi
