-- The order of two words as signed numbers: with equal top bits it is the words' own, else it is turned around.
-- Assumes nothing.
use Rattle.std.proofs.Common.{◌≡◌, ℕ, suc, ◌/◌, ◌^◌, ◌<◌, ◌≤◌, ltb, arith, le-ltb, lt-ltb}
use native.Mathlib.Decide.{dec_lt}
use lib.Signed.{lt_z}
use Rattle.base.specs.Bits.{signed}
use Rattle.step.specs.Branch.{below_signed}
use Rattle.base.specs.Laws.Compare.{less-flipped, signed-pos, signed-neg}

-- of any width: by the sides of 2^n on which the words lie
module _ (n x y : ℕ) where
  both_below : x < 2 ^ n → y < 2 ^ n → ltb x y ≡ lt_z (signed n x) (signed n y)
  both_below p q = rw (signed-pos n x p, signed-pos n y q)

  both-above : x < 2 ^ suc n → y < 2 ^ suc n → 2 ^ n ≤ x → 2 ^ n ≤ y → ltb x y ≡ lt_z (signed n x) (signed n y)
  both-above f g p q = rw (signed-neg n x p, signed-neg n y q) (less-flipped (2 ^ suc n) x y f g)

  first_below : x < 2 ^ n → 2 ^ n ≤ y → ltb y x ≡ lt_z (signed n x) (signed n y)
  first_below p q = rw (signed-pos n x p, signed-neg n y q) (le-ltb y x (omega arith))

  first_above : 2 ^ n ≤ x → y < 2 ^ n → ltb y x ≡ lt_z (signed n x) (signed n y)
  first_above p q = rw (signed-neg n x p, signed-pos n y q) (lt-ltb y x (omega arith))

-- of 64 bits, with the top bit as the code reads it
module _ (x y : ℕ) (f : x < 2 ^ 64) (g : y < 2 ^ 64) where
  pub same-signs : x / 2 ^ 63 ≡ y / 2 ^ 63 → ltb x y ≡ below_signed x y
  same-signs e =
      elim (dec_lt x (2 ^ 63)) [
        | yes p ↦ both_below 63 x y p (omega arith)
        | no p ↦ both-above 63 x y f g (omega arith) (omega arith)
      ]

  pub other-signs : (x / 2 ^ 63 ≡ y / 2 ^ 63 → ⊥) → ltb y x ≡ below_signed x y
  other-signs e =
      elim (dec_lt x (2 ^ 63)) [
        | yes p ↦ first_below 63 x y p (omega arith)
        | no p ↦ first_above 63 x y (omega arith) (omega arith)
      ]
