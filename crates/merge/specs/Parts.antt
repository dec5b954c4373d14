-- What the functions inside are told of the two batches.
-- Assumes nothing.
use Rattle.std.specs.Prelude.{◌≡◌, List, ℕ, ◌≤◌, ◌<◌, length}
use Rattle.layout.specs.Batch.{batch_words}

pub record Parts (cpi : ℕ) (first second : List ℕ) : Type 0 where
  pub some : 0 < cpi
  pub few : cpi ≤ 128
  pub first-words : length first ≡ batch_words cpi
  pub second-words : length second ≡ batch_words cpi
