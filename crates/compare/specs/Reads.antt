-- What one plain read of a slice gives.
-- Assumes nothing.
use Rattle.std.specs.Prelude.{List, [], ◌∷◌, ℕ}
use Rattle.std.specs.Int.Bits.{bit_or}

-- what has been read so far, joined bit by bit with all that is still to come
unfoldable pub ored_with : ℕ → List ℕ → ℕ
ored_with all [] = all
ored_with all (w ∷ ws) = ored_with (bit_or all w) ws

-- the bitwise or of all the words
abbrev pub ored : List ℕ → ℕ
ored ws = ored_with 0 ws
