-- What packed storage keeps (document 02, request 4), once for every batch size: each step has an inverse, and nothing is lost between
-- them.
-- Assumes nothing.
use Rattle.std.specs.Prelude.{◌≡◌, ℕ, ◌+◌, ◌*◌, ◌<◌, ◌≤◌, true, List, length, slice_index, Ok}
use Rattle.base.specs.Bits.{bit_at}
use Rattle.layout.specs.Questions.{Called}
use Rattle.layout.specs.Batch.{batch_words}
use Rattle.verdict.specs.Row.{element_at, as_bit, bits_of}
use Rattle.packed.specs.Packed.{named_word, packed_named, named_bits}
use Rattle.packed.specs.Storage.{bit_in, Fit, packed, unpacked, by_cycle, by_batch, packed_by_cycle, lower_bits, pack_called, pack_cycles_called, unpack_called, to_cycles_called, to_batch_called}

-- a call that was answered with yes, and what it left
abbrev pub Left : Called → List ℕ → Type 0
Left c made = c ≡ record { answer = Ok tt; batch = made }

-- the columns below one_col of a batch are those of another, and its public columns those of a third
pub record Joins (cpi : ℕ) (batch lower public : List ℕ) : Type 0 where
  pub lengths : length batch ≡ length public
  pub below : (x : ℕ) → x < 2048 * cpi → element_at batch x ≡ element_at lower x
  pub from_one : (x : ℕ) → 2048 * cpi ≤ x → element_at batch x ≡ element_at public x

-- what is packed and what is read back
pub record Kept (cpi : ℕ) : Type 0 where
  -- bit j of word k is batch column 64 k + j
  pub batch-order : (batch : List ℕ) (k j : ℕ) → k < 32 * cpi → j < 64 → bit_at (slice_index (packed cpi batch) k) j ≡ as_bit (element_at batch (64 * k + j))
  -- unpacked after packing, into any batch of that size
  pub unpacked-packed : (batch target : List ℕ) → lower_bits cpi batch ≡ true → length target ≡ batch_words cpi
      → Joins cpi (unpacked cpi (packed cpi batch) target) batch target
  -- packed after unpacking
  pub packed-unpacked : (words batch : List ℕ) → length words ≡ 32 * cpi → Fit words → length batch ≡ batch_words cpi
      → packed cpi (unpacked cpi words batch) ≡ words
  -- rearranged and back, either way
  pub batch-again : (words : List ℕ) → length words ≡ 32 * cpi → Fit words → by_batch cpi (by_cycle cpi words) ≡ words
  pub cycles-again : (words : List ℕ) → length words ≡ 32 * cpi → Fit words → by_cycle cpi (by_batch cpi words) ≡ words
  -- packed straight into cycle order: the same as packed and then rearranged, and column c of cycle d is bit 2,048 · d + c
  pub straight : (batch : List ℕ) → packed_by_cycle cpi batch ≡ by_cycle cpi (packed cpi batch)
  pub column-at : (batch : List ℕ) (c d : ℕ) → c < 2048 → d < cpi → bit_in (packed_by_cycle cpi batch) (2048 * d + c) ≡ bits_of cpi batch d c
  -- and the words that the short way of the check packs are words of it
  pub named : (batch out : List ℕ) → length out ≡ 32 * cpi → named_bits cpi batch ≡ true → (d k : ℕ) → d < cpi → named_word k ≡ true
      → slice_index (packed_named cpi batch out) (32 * d + k) ≡ slice_index (packed_by_cycle cpi batch) (32 * d + k)

-- the same of calls, whatever was lent: after one that said yes, the next says yes, too
pub record CallsKept (cpi : ℕ) : Type 0 where
  pub pack-unpack : (batch out words target : List ℕ) → length target ≡ batch_words cpi → Left (pack_called cpi batch out) words
      → Left (unpack_called cpi words target) (unpacked cpi words target) × Joins cpi (unpacked cpi words target) batch target
  pub unpack-pack : (words batch made out : List ℕ) → Fit words → length out ≡ 32 * cpi → Left (unpack_called cpi words batch) made
      → Left (pack_called cpi made out) words
  pub cycles-batch : (words out made back : List ℕ) → Fit words → length back ≡ 32 * cpi → Left (to_cycles_called cpi words out) made
      → Left (to_batch_called cpi made back) words
  pub batch-cycles : (words out made back : List ℕ) → Fit words → length back ≡ 32 * cpi → Left (to_batch_called cpi words out) made
      → Left (to_cycles_called cpi made back) words
  pub pack-rearrange : (batch out words there : List ℕ) → Left (pack_called cpi batch out) words
      → to_cycles_called cpi words there ≡ pack_cycles_called cpi batch there
