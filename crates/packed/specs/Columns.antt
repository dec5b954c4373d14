-- A batch of several cycles: four columns of every cycle put below what a slice has of it, and sixteen such turns, which make a word.
-- Assumes nothing.
use Rattle.std.specs.Prelude.{◌≡◌, ℕ, ◌+◌, ◌-◌, ◌*◌, ◌%◌, ◌^◌, ◌<◌, ◌≤◌, ◌↔◌, List, length, bit_or, slice_index}
use Rattle.layout.specs.Batch.{batch_words}
use Rattle.packed.specs.Packed.{stacked, low_at, packed_word}
use Rattle.packed.specs.Stacked.{pushed}
use Rattle.packed.specs.Seen.{BitAt}

-- ---- four columns, whose words stand s apart, of cycles whose words stand 2 apart

-- the low words put below w, the last column's first
abbrev pub pushed_at : List ℕ → ℕ → ℕ → ℕ → ℕ
pushed_at b i s w = pushed 1 (pushed 1 (pushed 1 (pushed 1 w (slice_index b (i + 3 * s))) (slice_index b (i + 2 * s))) (slice_index b (i + s))) (slice_index b i)

abbrev pub seen_at : List ℕ → ℕ → ℕ → ℕ → ℕ
seen_at b i s m = bit_or (bit_or (bit_or (bit_or m (slice_index b i)) (slice_index b (i + s))) (slice_index b (i + 2 * s))) (slice_index b (i + 3 * s))

pub record FourIn (b : List ℕ) (at s step : ℕ) (acc : List ℕ) : Type 0 where
  pub inside : at + 4 * s ≤ length b
  pub few : 2 * length acc ≤ s
  pub two : step ≡ 2

pub record FourPut (b : List ℕ) (at s : ℕ) (before after : List ℕ) (r : ℕ) : Type 0 where
  pub lengths : length after ≡ length before
  pub put : (d : ℕ) → d < length before → slice_index after d ≡ pushed_at b (at + 2 * d) s (slice_index before d)
  pub bits : (r ≡ 0) ↔ ((d q : ℕ) → d < length before → q < 4 → BitAt b (at + 2 * d + q * s))

-- ---- the 64 columns of word k

pub record WordIn (cpi : ℕ) (batch : List ℕ) (step k : ℕ) (acc : List ℕ) : Type 0 where
  pub few : cpi ≤ 256
  pub words : length batch ≡ batch_words cpi
  pub two : step ≡ 2
  pub inside : k < 32
  pub sized : length acc ≡ cpi
  pub clear : (d : ℕ) → slice_index acc d ≡ 0

-- columns from o to before e are bits, in every cycle
abbrev pub BitsIn : ℕ → List ℕ → ℕ → ℕ → Type 0
BitsIn cpi batch o e = (c d : ℕ) → o ≤ c → c < e → d < cpi → BitAt batch (2 * (c * cpi + d))

-- from column 64 k + 4 j on
pub record WordTurn (cpi : ℕ) (batch : List ℕ) (k : ℕ) (acc : List ℕ) (bad j : ℕ) : Type 0 where
  pub sized : length acc ≡ cpi
  pub holds : (d : ℕ) → d < cpi → slice_index acc d ≡ stacked (low_at cpi batch d) (64 * k + 4 * j) (64 - 4 * j) % 2 ^ 64
  pub bits : (bad ≡ 0) ↔ BitsIn cpi batch (64 * k + 4 * j) (64 * k + 64)

pub record WordPut (cpi : ℕ) (batch : List ℕ) (k : ℕ) (acc : List ℕ) (bad : ℕ) : Type 0 where
  pub sized : length acc ≡ cpi
  pub holds : (d : ℕ) → d < cpi → slice_index acc d ≡ packed_word cpi batch d k
  pub bits : (bad ≡ 0) ↔ BitsIn cpi batch (64 * k) (64 * k + 64)
