-- A batch over bits: every column below the one column is 0 or 1, and the one column 1. (Laws/Judges: over bits, every cycle is judged
-- with yes exactly when the check accepts.)
-- Assumes nothing.
use Rattle.std.specs.Prelude.{◌≡◌, true, List, ℕ, ◌*◌, ◌^◌, ◌<◌, length, get_or}
use Rattle.field.specs.Gf.{one, is_bit}
use Rattle.layout.specs.Batch.{batch_words}
use Rattle.verdict.specs.Row.{element_at}

-- every column below one_col is 0 or 1, and the one column is 1; a word has 64 bits
pub record OverBits (cpi : ℕ) (batch : List ℕ) : Type 0 where
  pub words : length batch ≡ batch_words cpi
  pub fit : (i : ℕ) → get_or batch i 0 < 2 ^ 64
  pub bits : (x : ℕ) → x < 2048 * cpi → is_bit (element_at batch x) ≡ true
  pub one-is : element_at batch (2048 * cpi) ≡ one
