-- Fields side by side in a word, lowest first.
-- Assumes nothing.
use Rattle.std.specs.Prelude.{Bool, List, [], ◌∷◌, ℕ, ◌+◌, ◌*◌, ◌^◌}
use Rattle.base.specs.Bits.{digit}

pub record Field : Type 0 where
  pub width : ℕ
  pub value : ℕ

abbrev pub field : ℕ → ℕ → Field
field n v = record { width = n; value = v }

-- the word that holds the fields
abbrev pub pack : List Field → ℕ
pack [] = 0
pack (f ∷ []) = f.value
pack (f ∷ (g ∷ gs)) = f.value + 2 ^ f.width * pack (g ∷ gs)

-- fields of one bit
abbrev pub flags : List Bool → List Field
flags [] = []
flags (b ∷ bs) = field 1 (digit b) ∷ flags bs
