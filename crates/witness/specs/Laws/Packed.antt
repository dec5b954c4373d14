-- Fields of columns as a number: the words of 64 columns that hold their bits.
-- Assumes nothing.
use Rattle.std.specs.Prelude.{◌≡◌, ℕ, ◌+◌, ◌-◌, ◌*◌, ◌%◌, ◌^◌, ◌<◌, true, List, [], ◌∷◌}
use Rattle.std.proofs.Common.{sym, ap, ◌∙◌, mod-lt, arith, pow_pos}
use Rattle.std.proofs.Math.Decide.{dec_lt}
use Rattle.base.specs.Bits.{bit_at}
use Rattle.base.specs.Blocks.{Block, between, column_bit}
use Rattle.base.specs.Laws.Bits.{bit_cut, bit-low, bit_high, no-bit, bit_moved, bit_below}
use Rattle.base.specs.Laws.Blocks.{starts, goes_on, inside, before, behind, nothing-before}

-- the fields as a number, column o being its bit 0
unfoldable pub packed : ℕ → List Block → ℕ
packed o [] = 0
packed o (k ∷ ks) = 2 ^ (k.column - o) * (k.word % 2 ^ k.width + 2 ^ k.width * packed (k.column + k.width) ks)

-- ---- the bits of the number are the columns' bits

-- one field more, where the rest is known
module _ (o limit : ℕ) (k : Block) (ks : List Block) (t : between o limit (k ∷ ks) ≡ true)
    (known : (i : ℕ) → bit_at (packed (k.column + k.width) ks) i ≡ column_bit ks (k.column + k.width + i)) where
  abbrev gap : ℕ
  gap = k.column - o

  abbrev cut : ℕ
  cut = k.word % 2 ^ k.width

  abbrev rest : ℕ
  rest = packed (k.column + k.width) ks

  abbrev both-parts : ℕ
  both-parts = cut + 2 ^ k.width * rest

  fits : cut < 2 ^ k.width
  fits = mod-lt k.word (pow_pos k.width)

  field-bit : (j : ℕ) → Dec (j < k.width) → bit_at both-parts j ≡ column_bit (k ∷ ks) (k.column + j)
  field-bit j (yes m) =
      bit-low k.width cut rest fits j m ∙ bit_cut k.word k.width j m
      ∙ ap (bit_at k.word) (omega arith) ∙ sym (inside k ks (k.column + j) (omega arith) (omega arith))
  field-bit j (no f) =
      let n = j - k.width in
      ap (bit_at both-parts) (omega arith) ∙ bit_high k.width cut rest fits n ∙ known n ∙ ap (column_bit ks) (omega arith)
      ∙ sym (behind k ks (k.column + j) (omega arith))

  one_more : (i : ℕ) → Dec (i < gap) → bit_at (2 ^ gap * both-parts) i ≡ column_bit (k ∷ ks) (o + i)
  one_more i (yes m) =
      bit_below gap both-parts i m
      ∙ sym
      (before k ks (o + i) (omega arith)
      ∙ nothing-before ks (k.column + k.width) limit (o + i) (goes_on o limit k ks t) (omega (arith, starts o limit k ks t)))
  one_more i (no f) =
      let s = starts o limit k ks t in
      let j = i - gap in
      ap (bit_at (2 ^ gap * both-parts)) (omega arith) ∙ bit_moved gap both-parts j ∙ field-bit j (dec_lt j k.width)
      ∙ ap (column_bit (k ∷ ks)) (omega arith)

pub packed-bit : (ks : List Block) (o limit : ℕ) → between o limit ks ≡ true → (i : ℕ) → bit_at (packed o ks) i ≡ column_bit ks (o + i)
unfolding packed column_bit
packed-bit [] o limit t i = no-bit i
packed-bit (k ∷ ks) o limit t i =
    one_more o limit k ks t (packed-bit ks (k.column + k.width) limit (goes_on o limit k ks t)) i (dec_lt i (k.column - o))
