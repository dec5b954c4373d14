-- The taken column of demand 3's accepted filling, by the branch reading: document 02, request 3.
-- Assumes nothing.
use Rattle.std.specs.Prelude.{◌≡◌, ℕ, ◌<◌, Bool, ◌↔◌, List}
use Rattle.base.specs.Bits.{word}
use Rattle.field.specs.declared.Gf128.{Gf128}
use Rattle.field.specs.Gf.{zero, one}
use Rattle.layout.specs.Columns.{RS1, RS2, TAKEN}
use Rattle.step.specs.Step.{opcode, funct3}
use Rattle.step.specs.Demand3.{Compares, FillerAccepted, filled_cycle, filled_cycle_bits}
use Rattle.witness.specs.declared.branch.BranchReading.{BranchReading}
use Rattle.witness.specs.declared.branch.BranchReading.TheVariants.{NoBranch, Taken, NotTaken, Reserved}
use Rattle.witness.specs.Reading.{reading}

-- the reading of the instruction that a cycle holds, by its bits
abbrev pub cycle_reading : (ℕ → Bool) → BranchReading
cycle_reading b = reading (opcode b) (funct3 b) (word b RS1 64) (word b RS2 64)

-- of a cycle's bits, and of the element in its taken column
pub record TakenAsRead (b : ℕ → Bool) (column : Gf128) : Type 0 where
  pub taken : (column ≡ one) ↔ (cycle_reading b ≡ Taken)
  pub reserved : cycle_reading b ≡ Reserved → column ≡ zero
  pub not_taken : cycle_reading b ≡ NotTaken → column ≡ zero
  pub no-branch : cycle_reading b ≡ NoBranch → column ≡ zero

-- Over a listing and its conditions, as demand 3 is: in the accepted filling, in every cycle that compares RS1 with RS2, that is with T1,
-- T2, subtract and arithmetic set for it.
module _ (listing : List ℕ) (Conditions : (ℕ → Bool) → Gf128 → Type 0) (cpi : ℕ) (batch scratch : List ℕ) where
  abbrev bits : ℕ → ℕ → Bool
  bits = filled_cycle_bits listing Conditions cpi batch scratch

  abbrev pub TakenColumn : Type 0
  TakenColumn =
      FillerAccepted listing Conditions cpi batch scratch → (d : ℕ) → d < cpi → Compares (bits d)
      → TakenAsRead (bits d) (filled_cycle listing Conditions cpi batch scratch d TAKEN)
