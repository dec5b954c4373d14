-- Which columns are derived and which are given (document 01, "Columns"), and how many: 419 and 1,629 of a cycle's 2,048.
-- Assumes nothing.
use Rattle.std.specs.Prelude.{◌≡◌, Bool, not, ◌&&◌, ◌||◌, ℕ, zero, suc, ◌+◌, ◌/◌, eqb, leb}
use Rattle.base.specs.Bits.{digit}

abbrev pub within : ℕ → ℕ → ℕ → Bool
within first last c = leb first c && leb c last

-- "derived" and "given" are document 01's words: the filling works a derived column out, and finds a given one
unfoldable pub derived : ℕ → Bool
derived c = within 448 511 c || within 576 767 c || eqb c 773 || eqb c 779 || within 896 953 c || within 1024 1126 c

-- batch column x stands for column x / cpi of cycle x % cpi
abbrev pub derived_in : ℕ → ℕ → Bool
derived_in cpi x = derived (x / cpi)

-- of how many of the columns x .. x + n - 1 is the test true
unfoldable pub tally : (ℕ → Bool) → ℕ → ℕ → ℕ
tally q zero x = 0
tally q (suc n) x = digit (q x) + tally q n (suc x)

pub record Columns : Type 0 where
  pub derived-columns : tally derived 2048 0 ≡ 419
  pub given-columns : tally (λ c. not (derived c)) 2048 0 ≡ 1629
