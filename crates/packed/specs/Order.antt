-- Packed words put from one order into the other, block after block of 64 columns.
-- Assumes nothing.
use Rattle.std.specs.Prelude.{◌≡◌, ℕ, ◌+◌, ◌*◌, ◌/◌, ◌<◌, ◌≤◌, true, List, length, slice_index}
use Rattle.layout.specs.Batch.{allowed}
use Rattle.packed.specs.declared.order.Order.{Order}
use Rattle.packed.specs.declared.order.Order.TheVariants.{Batch, Cycles}
use Rattle.packed.specs.Storage.{by_cycle, by_batch}

-- words that are in the other order
abbrev pub put_into : Order → ℕ → List ℕ → List ℕ
put_into Batch cpi words = by_batch cpi words
put_into Cycles cpi words = by_cycle cpi words

pub record OrderIn (cpi : ℕ) (words out : List ℕ) : Type 0 where
  pub size : allowed cpi ≡ true
  pub read : length words ≡ 32 * cpi
  pub room : length out ≡ 32 * cpi

-- the same of a size from 2 on, with two blocks lent
pub record BlocksIn (cpi : ℕ) (words a b out : List ℕ) : Type 0 where
  pub some : 0 < cpi
  pub few : cpi ≤ 256
  pub even : cpi ≡ 2 * (cpi / 2)
  pub read : length words ≡ 32 * cpi
  pub first : length a ≡ cpi
  pub second : length b ≡ cpi
  pub room : length out ≡ 32 * cpi

-- word k of each cycle
pub record Gathered (words : List ℕ) (k : ℕ) (acc : List ℕ) : Type 0 where
  pub word : (d : ℕ) → d < length acc → slice_index acc d ≡ slice_index words (32 * d + k)
