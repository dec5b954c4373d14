-- The named words of every cycle: both stretches of them, and the call.
-- Assumes nothing.
use Rattle.std.specs.Prelude.{◌≡◌, ℕ, ◌+◌, ◌*◌, ◌<◌, true, cond, ◌↔◌, List, length, slice_index}
use Rattle.layout.specs.Batch.{allowed, batch_words}
use Rattle.packed.specs.Packed.{packed_word, named_word, named_bits}

-- ---- both stretches

pub record NamedIn (cpi : ℕ) (batch out : List ℕ) : Type 0 where
  pub size : allowed cpi ≡ true
  pub words : length batch ≡ batch_words cpi
  pub room : length out ≡ 32 * cpi

pub record Named (cpi : ℕ) (batch before after : List ℕ) (bad : ℕ) : Type 0 where
  pub lengths : length after ≡ length before
  pub words : (d k : ℕ) → d < cpi → k < 32
      → slice_index after (32 * d + k) ≡ cond (named_word k) (packed_word cpi batch d k) (slice_index before (32 * d + k))
  pub bits : (bad ≡ 0) ↔ (named_bits cpi batch ≡ true)
