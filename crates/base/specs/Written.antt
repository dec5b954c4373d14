-- A list that loops write piece after piece, f i at each index i: as far as they have come.
-- Assumes nothing.
use Rattle.std.specs.Prelude.{◌≡◌, List, cond, ℕ, ◌+◌, ◌-◌, ◌≤◌, ◌<◌, ltb, length, get_or}

-- ---- written from index `first` on and before k: there it is f, elsewhere as before

pub record Written (f : ℕ → ℕ) (first k : ℕ) (before after : List ℕ) : Type 0 where
  pub lengths : length after ≡ length before
  pub here : (i : ℕ) → first ≤ i → i < k → get_or after i 0 ≡ f i
  pub left : (i : ℕ) → i < first → get_or after i 0 ≡ get_or before i 0
  pub right : (i : ℕ) → k ≤ i → get_or after i 0 ≡ get_or before i 0

-- what stands at index i, from `start` on, where words are copied to `start`: theirs, and behind them what was there
abbrev pub copied : List ℕ → ℕ → List ℕ → ℕ → ℕ
copied words start there i = cond (ltb i (start + length words)) (get_or words (i - start) 0) (get_or there i 0)
