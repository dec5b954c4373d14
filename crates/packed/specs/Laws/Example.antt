-- A batch of two cycles, all zero but for column 65 of cycle 1: bit 1 of word 33 alone is set. With a 2 there instead, the word
-- is the sum that the definition says.
-- Assumes nothing.
use Rattle.std.specs.Prelude.{◌≡◌, ℕ, ◌+◌, ◌*◌, cond, List, replicate, ◌==◌, refl}
use Rattle.base.specs.Lists.{from}
use Rattle.packed.specs.Packed.{stacked, packed_word, packed_at}

-- v in the low word of column 65 of cycle 1
unfoldable pub example : ℕ → List ℕ
example v = from 0 320 (λ x. cond (x == 2 * (65 * 2 + 1)) v 0)

-- what stood in the packed slice
unfoldable pub lent : List ℕ
lent = replicate 64 7

pub record Examples : Type 0 where
  pub its-word : packed_at 2 (example 1) lent 33 ≡ 2
  pub other-cycle : packed_at 2 (example 1) lent 1 ≡ 0
  pub other_word : packed_at 2 (example 1) lent 32 ≡ 0
  pub not_named : packed_at 2 (example 1) lent 47 ≡ 7
  pub of_two : packed_at 2 (example 2) lent 33 ≡ 4

pub examples : Examples
unfolding packed_word stacked example from lent
examples = record { its-word = refl; other-cycle = refl; other_word = refl; not_named = refl; of_two = refl }
