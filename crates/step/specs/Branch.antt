-- The RISC-V ISA's branch condition by funct3, on the values of RS1 and RS2: document 01's list, in its order.
-- Assumes nothing.
use Rattle.std.specs.Prelude.{Bool, false, not, cond, ℕ, eqb, ltb}
use Rattle.std.specs.Int.Signed.{lt_z}
use Rattle.base.specs.Bits.{signed}

abbrev pub below_signed : ℕ → ℕ → Bool
below_signed x y = lt_z (signed 63 x) (signed 63 y)

-- funct3 2 and 3 have none
unfoldable pub branch_holds : ℕ → ℕ → ℕ → Bool
branch_holds funct3 x y =
    cond (eqb funct3 0) (eqb x y)
    (cond (eqb funct3 1) (not (eqb x y))
    (cond (eqb funct3 4) (below_signed x y)
    (cond (eqb funct3 5) (not (below_signed x y))
    (cond (eqb funct3 6) (ltb x y)
    (cond (eqb funct3 7) (not (ltb x y))
    false)))))
