-- Words put into blocks of a cycle's columns, and blocks whose words stand there.
-- Assumes nothing.
use Rattle.std.specs.Prelude.{◌≡◌, ℕ, zero, suc, ◌+◌, ◌*◌, ◌<◌, List, [], ◌∷◌}
use Rattle.base.specs.Bits.{bit_at}
use Rattle.base.specs.Blocks.{Block}
use Rattle.field.specs.Gf.{of_bit}
use Rattle.verdict.specs.Row.{element_at}
use Rattle.step.specs.Filling.{put}

-- the low n bits of w put into the n columns from o on, of cycle d
unfoldable pub put_word : ℕ → ℕ → ℕ → ℕ → ℕ → List ℕ → List ℕ
put_word cpi d o w zero batch = batch
put_word cpi d o w (suc n) batch = put (put_word cpi d o w n batch) ((o + n) * cpi + d) (bit_at w n)

abbrev pub put_blocks : ℕ → ℕ → List Block → List ℕ → List ℕ
put_blocks cpi d [] batch = batch
put_blocks cpi d (k ∷ ks) batch = put_blocks cpi d ks (put_word cpi d k.column k.word k.width batch)

-- the columns of a block hold its word's bits, in cycle d
abbrev pub HoldsWord : ℕ → ℕ → List ℕ → Block → Type 0
HoldsWord cpi d batch k = (i : ℕ) → i < k.width → element_at batch ((k.column + i) * cpi + d) ≡ of_bit (bit_at k.word i)
