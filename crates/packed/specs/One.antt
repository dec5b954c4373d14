-- Columns that stand one after the other, as those of one cycle do, and those of a batch in batch order: their words in quarters of
-- quarters. They are the words of a batch of one cycle, however many they are.
-- Assumes nothing.
use Rattle.std.specs.Prelude.{◌≡◌, ℕ, ◌+◌, ◌*◌, ◌%◌, ◌^◌, ◌<◌, ◌≤◌, ◌↔◌, List, length, slice_index}
use Rattle.packed.specs.Packed.{stacked, packed_word}
use Rattle.packed.specs.Seen.{BitAt}
use Rattle.packed.specs.Columns.{BitsIn}

-- low words from word i on
abbrev pub low_from : List ℕ → ℕ → ℕ → ℕ
low_from b i x = slice_index b (i + 2 * x)

-- n of them one above the other
abbrev pub row_sum : List ℕ → ℕ → ℕ → ℕ
row_sum b i n = stacked (low_from b i) 0 n % 2 ^ 64

-- n words from word i on, no further than the largest batch reaches
abbrev pub WordsFrom : List ℕ → ℕ → ℕ → Type 0
WordsFrom words i n = (i + n ≤ length words) × (i + n ≤ 8192 * 256)

-- ---- word after word

abbrev pub BitsFrom : List ℕ → ℕ → Type 0
BitsFrom b i = (x : ℕ) → x < 64 → BitAt b (i + 2 * x)

pub record RowIn (batch : List ℕ) (first last : ℕ) (out : List ℕ) : Type 0 where
  pub order : first ≤ last
  pub few : last ≤ 8192
  pub words : 128 * last ≤ length batch
  pub room : last ≤ length out

-- words `first` to before k
pub record InRow (batch : List ℕ) (first k : ℕ) (before after : List ℕ) (bad : ℕ) : Type 0 where
  pub lengths : length after ≡ length before
  pub here : (j : ℕ) → first ≤ j → j < k → slice_index after j ≡ packed_word 1 batch 0 j
  pub left : (j : ℕ) → j < first → slice_index after j ≡ slice_index before j
  pub right : (j : ℕ) → k ≤ j → slice_index after j ≡ slice_index before j
  pub bits : (bad ≡ 0) ↔ BitsIn 1 batch (64 * first) (64 * k)
