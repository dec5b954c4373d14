-- Statements about the house listing: how many rows and terms it has, where its families start, and P11 of the bench sheet.
-- Assumes nothing.
use Rattle.std.specs.Prelude.{◌≡◌, List, [], ◌∷◌, ℕ, ◌+◌, length, take, get_or}
use Rattle.base.specs.Lists.{joined}
use Rattle.circuit.specs.declared.Coefficient.{Coefficient}
use Rattle.circuit.specs.declared.Coefficient.TheVariants.{Zero, Power}
use Rattle.circuit.specs.Rows.{Term, Sides}
use Rattle.circuit.specs.Circuit.{bin_families, fld_families, circuit_rows, circuit_words}

-- ---- where each family starts

unfoldable pub starts_from : ℕ → List (List Sides) → List ℕ
starts_from n [] = []
starts_from n (f ∷ fs) = n ∷ starts_from (n + length f) fs

unfoldable pub starts : List (List Sides) → List ℕ
starts fs = starts_from 0 fs

-- ---- how many rows, terms, and terms of coefficient zero

unfoldable pub is_zero : Coefficient → ℕ
is_zero Zero = 1
is_zero (Power k) = 0

unfoldable pub zeros : List Term → ℕ
zeros [] = 0
zeros (t ∷ ts) = is_zero t.coefficient + zeros ts

module _ (f : List Term → ℕ) where
  unfoldable pub over_sides : List Sides → ℕ
  over_sides [] = 0
  over_sides (s ∷ ss) = f s.a + f s.b + f s.c + over_sides ss

pub record HouseCounts : Type 0 where
  pub bin-rows : length (joined bin_families) ≡ 483
  pub bin-terms : over_sides length (joined bin_families) ≡ 1735
  pub fld-rows : length (joined fld_families) ≡ 31
  pub fld-terms : over_sides length (joined fld_families) ≡ 1250
  pub zero-terms : over_sides zeros (joined bin_families) + over_sides zeros (joined fld_families) ≡ 21
  pub rows : length circuit_rows ≡ 514
  pub words : length circuit_words ≡ 3499

-- ---- P11 of the bench sheet

pub record P11 : Type 0 where
  pub first : take 7 circuit_words ≡ 0xc0000000 ∷ 0x00000140 ∷ 0x000001c0 ∷ 0x40000180 ∷ 0x400001c0 ∷ 0x800001c1 ∷ 0x800001c0 ∷ []
  pub last : get_or circuit_words 3498 0 ≡ 0x4000708f
