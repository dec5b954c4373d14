-- The branch reading of an instruction: document 01's, with the reserved ones of document 02, request 3, and the condition of demand 3.
-- Assumes nothing.
use Rattle.std.specs.Prelude.{◌≡◌, ℕ, ◌%◌, ◌^◌, Bool, cond, not, ◌||◌, ◌==◌}
use Rattle.step.specs.Branch.{branch_holds}
use Rattle.witness.specs.declared.branch.BranchReading.{BranchReading}
use Rattle.witness.specs.declared.branch.BranchReading.TheVariants.{NoBranch, Taken, NotTaken, Reserved}

-- the values of funct3 that the ISA reserves under the branch opcode
abbrev pub is_reserved : ℕ → Bool
is_reserved funct3 = funct3 == 2 || funct3 == 3

-- Of opcode, funct3, RS1 and RS2: the opcode is compared whole, and of funct3 the low three bits count.
unfoldable pub reading : ℕ → ℕ → ℕ → ℕ → BranchReading
reading opcode funct3 rs1 rs2 =
    cond (not (opcode == 0x63)) NoBranch
    (cond (is_reserved (funct3 % 8)) Reserved
    (cond (branch_holds (funct3 % 8) rs1 rs2) Taken
    NotTaken))

-- P10 of the bench sheet: 2^63 against 1, BLT taken and BLTU not; BGE 7, 7 taken
pub record P10 : Type 0 where
  pub blt : reading 0x63 4 (2 ^ 63) 1 ≡ Taken
  pub bltu : reading 0x63 6 (2 ^ 63) 1 ≡ NotTaken
  pub bge : reading 0x63 5 7 7 ≡ Taken
