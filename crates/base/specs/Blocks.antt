-- Fields of a row of columns, each a block of columns with the word whose low bits stand there; the bit that a column has.
-- Assumes nothing.
use Rattle.std.specs.Prelude.{Bool, false, ◌&&◌, ◌||◌, cond, List, [], ◌∷◌, ℕ, ◌+◌, ◌-◌, leb, ltb}
use Rattle.base.specs.Bits.{bit_at}

-- so many columns from one on, and the word whose low bits go there
pub record Block : Type 0 where
  pub column : ℕ
  pub width : ℕ
  pub word : ℕ

abbrev pub block : ℕ → ℕ → ℕ → Block
block o n w = record { column = o; width = n; word = w }

-- in ascending order, from a column on and below a limit
abbrev pub between : ℕ → ℕ → List Block → Bool
between o limit [] = leb o limit
between o limit (k ∷ ks) = leb o k.column && between (k.column + k.width) limit ks

abbrev pub in_block : Block → ℕ → Bool
in_block k c = leb k.column c && ltb c (k.column + k.width)

abbrev pub in_blocks : List Block → ℕ → Bool
in_blocks [] c = false
in_blocks (k ∷ ks) c = in_block k c || in_blocks ks c

-- a column's bit: that of the first field that has it, else 0
unfoldable pub column_bit : List Block → ℕ → Bool
column_bit [] c = false
column_bit (k ∷ ks) c = cond (in_block k c) (bit_at k.word (c - k.column)) (column_bit ks c)
