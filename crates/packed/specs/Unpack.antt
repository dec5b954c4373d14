-- Packed words laid out as elements: a word's 64, and word after word.
-- Assumes nothing.
use Rattle.std.specs.Prelude.{◌≡◌, ℕ, ◌+◌, ◌*◌, ◌<◌, ◌≤◌, List, length, slice_index}
use Rattle.base.specs.Bits.{digit, bit_at}
use Rattle.packed.specs.Storage.{bit_in}

pub record WordTo (at : ℕ) (batch : List ℕ) : Type 0 where
  pub few : length batch ≤ 2097152
  pub inside : at + 128 ≤ length batch

-- the lowest n bits of w, as elements whose words stand from `at` on
pub record Laid (w at n : ℕ) (before after : List ℕ) : Type 0 where
  pub lengths : length after ≡ length before
  pub low : (j : ℕ) → j < n → slice_index after (at + 2 * j) ≡ digit (bit_at w j)
  pub high : (j : ℕ) → j < n → slice_index after (at + 2 * j + 1) ≡ 0
  pub below : (i : ℕ) → i < at → slice_index after i ≡ slice_index before i
  pub behind : (i : ℕ) → at + 2 * n ≤ i → slice_index after i ≡ slice_index before i

pub record UnpackIn (words batch : List ℕ) : Type 0 where
  pub few : length batch ≤ 2097152
  pub inside : 128 * length words ≤ length batch

-- the first n words
pub record Unpacked (words : List ℕ) (n : ℕ) (before after : List ℕ) : Type 0 where
  pub lengths : length after ≡ length before
  pub low : (x : ℕ) → x < 64 * n → slice_index after (2 * x) ≡ digit (bit_in words x)
  pub high : (x : ℕ) → x < 64 * n → slice_index after (2 * x + 1) ≡ 0
  pub behind : (i : ℕ) → 128 * n ≤ i → slice_index after i ≡ slice_index before i
