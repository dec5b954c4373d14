-- P1, P2 and P3 of the bench sheet: products, by their words.
-- Assumes nothing.
use Rattle.std.specs.Prelude.{◌≡◌, List, [], ◌∷◌, ◌^◌}
use Rattle.field.specs.declared.Gf128.{Gf128}
use Rattle.field.specs.Gf.{of_words, product}

pub record Line : Type 0 where
  pub left : Gf128
  pub right : Gf128
  pub result : Gf128

-- 2^127 · 2, 2^64 · 2^64, 2^127 · 2^127
abbrev pub sheet : List Line
sheet =
    record { left = of_words 0 (2 ^ 63); right = of_words 2 0; result = of_words 0x87 0 }
    ∷ record { left = of_words 0 1; right = of_words 0 1; result = of_words 0x87 0 }
    ∷ record { left = of_words 0 (2 ^ 63); right = of_words 0 (2 ^ 63); result = of_words 0x1067 0xC000_0000_0000_0000 }
    ∷ []

abbrev pub Holds : List Line → Type 0
Holds [] = Unit {0}
Holds (l ∷ ls) = (product l.left l.right ≡ l.result) × Holds ls
