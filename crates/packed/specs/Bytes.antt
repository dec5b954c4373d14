-- The words that bytes stand for.
-- Assumes nothing.
use Rattle.std.specs.Prelude.{List, [], ◌∷◌, ℕ, zero, suc, ◌+◌, ◌*◌, take, drop}
use Rattle.layout.specs.Batch.{ROW-WORDS}

-- the number that bytes spell, the lowest byte first
unfoldable pub number_of : List ℕ → ℕ
number_of [] = 0
number_of (b ∷ bytes) = b + 256 * number_of bytes

-- n words, each of the next 8 bytes
unfoldable pub words_of : ℕ → List ℕ → List ℕ
words_of zero bytes = []
words_of (suc n) bytes = number_of (take 8 bytes) ∷ words_of n (drop 8 bytes)

-- the row of 65,536 bytes: the 8,192 words of a batch of one cycle
abbrev pub row_of : List ℕ → List ℕ
row_of bytes = words_of ROW-WORDS bytes
