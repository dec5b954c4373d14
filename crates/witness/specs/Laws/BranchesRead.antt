-- Instructions that compare, in batches of every size and in every cycle: how each is read, and what stands in the taken column of the
-- filled batch.
-- Assumes nothing.
use Rattle.std.specs.Prelude.{◌≡◌, ℕ, ◌^◌, ◌<◌, Bool, true}
use Rattle.std.proofs.Common.{◌∙◌, arith}
use Rattle.field.specs.declared.Gf128.{Gf128}
use Rattle.field.specs.Gf.{zero, one}
use Rattle.layout.specs.Columns.{TAKEN}
use Rattle.layout.specs.Batch.{allowed}
use Rattle.layout.specs.Laws.Scratch.{some_scratch, some_fits}
use Rattle.verdict.specs.Row.{cycle_of, bits_of}
use Rattle.step.specs.Filling.{filled}
use Rattle.step.proofs.Laws.Branches.{comparing_batch, Decided, every-comparison}
use Rattle.witness.specs.declared.branch.BranchReading.{BranchReading}
use Rattle.witness.specs.declared.branch.BranchReading.TheVariants.{NoBranch, Taken, NotTaken, Reserved}
use Rattle.witness.specs.Reading.{reading}
use Rattle.witness.specs.TakenColumn.{cycle_reading, TakenAsRead}
use Rattle.witness.specs.Laws.Reading.{given}
use Rattle.witness.specs.Laws.TakenColumn.{cycle-read, taken-column}

-- every cycle compares x with y, with opcode o and funct3 f; that is read as r, and the taken column is e
abbrev pub Shows : ℕ → ℕ → ℕ → ℕ → BranchReading → Gf128 → Type 0
Shows o f x y r e =
    (cpi : ℕ) → allowed cpi ≡ true → (d : ℕ) → d < cpi
    → (cycle_reading (bits_of cpi (filled cpi (comparing_batch cpi o f x y)) d) ≡ r)
    × (cycle_of cpi (filled cpi (comparing_batch cpi o f x y)) d TAKEN ≡ e)

pub record Shown : Type 0 where
  pub beq : Shows 0x63 0 7 7 Taken one × Shows 0x63 0 7 8 NotTaken zero
  -- funct3 2 and 3, whatever the two words are
  pub two : (x y : ℕ) → x < 2 ^ 64 → y < 2 ^ 64 → Shows 0x63 2 x y Reserved zero
  pub three : (x y : ℕ) → x < 2 ^ 64 → y < 2 ^ 64 → Shows 0x63 3 x y Reserved zero
  -- under another opcode: SUB of equal words, and SLT and SLTU, which have these funct3
  pub sub : Shows 0x33 0 7 7 NoBranch zero
  pub slt : (x y : ℕ) → x < 2 ^ 64 → y < 2 ^ 64 → Shows 0x33 2 x y NoBranch zero
  pub sltu : (x y : ℕ) → x < 2 ^ 64 → y < 2 ^ 64 → Shows 0x33 3 x y NoBranch zero

module _ (o f x y : ℕ) (lo : o < 2 ^ 7) (other : o ≡ 0x73 → ⊥) (lf : f < 8) (lx : x < 2 ^ 64) (ly : y < 2 ^ 64) where
  module _ (cpi : ℕ) (size : allowed cpi ≡ true) (d : ℕ) (l : d < cpi) where
    abbrev b : ℕ → Bool
    b = bits_of cpi (filled cpi (comparing_batch cpi o f x y)) d

    decided : Decided cpi o f x y some_scratch
    decided = every-comparison cpi size o f x y lo other lf lx ly some_scratch some_fits

    read : cycle_reading b ≡ reading o f x y
    read = cycle-read b o f x y (decided.instruction d l)

    as_read : TakenAsRead b (cycle_of cpi (filled cpi (comparing_batch cpi o f x y)) d TAKEN)
    as_read =
        taken-column cpi size (comparing_batch cpi o f x y) some_scratch some_fits decided.premises decided.accepted d l
        (decided.compares d l)

  shows-taken : reading o f x y ≡ Taken → Shows o f x y Taken one
  shows-taken e cpi size d l = let r = read cpi size d l ∙ e in (r, (as_read cpi size d l).taken.1 r)

  shows-not-taken : reading o f x y ≡ NotTaken → Shows o f x y NotTaken zero
  shows-not-taken e cpi size d l = let r = read cpi size d l ∙ e in (r, (as_read cpi size d l).not_taken r)

  shows-reserved : reading o f x y ≡ Reserved → Shows o f x y Reserved zero
  shows-reserved e cpi size d l = let r = read cpi size d l ∙ e in (r, (as_read cpi size d l).reserved r)

  shows-no-branch : reading o f x y ≡ NoBranch → Shows o f x y NoBranch zero
  shows-no-branch e cpi size d l = let r = read cpi size d l ∙ e in (r, (as_read cpi size d l).no-branch r)

pub shown : Shown
shown =
    record {
      beq = (
        shows-taken 0x63 0 7 7 (omega arith) (λ q. omega arith) (omega arith) (omega arith) (omega arith) given.beq.0,
        shows-not-taken 0x63 0 7 8 (omega arith) (λ q. omega arith) (omega arith) (omega arith) (omega arith) given.beq.1,
      );
      two = λ x y lx ly. shows-reserved 0x63 2 x y (omega arith) (λ q. omega arith) (omega arith) lx ly (given.two x y).0;
      three = λ x y lx ly. shows-reserved 0x63 3 x y (omega arith) (λ q. omega arith) (omega arith) lx ly (given.three x y).0;
      sub = shows-no-branch 0x33 0 7 7 (omega arith) (λ q. omega arith) (omega arith) (omega arith) (omega arith) (given.sub 7 7);
      slt = λ x y lx ly. shows-no-branch 0x33 2 x y (omega arith) (λ q. omega arith) (omega arith) lx ly (given.slt x y);
      sltu = λ x y lx ly. shows-no-branch 0x33 3 x y (omega arith) (λ q. omega arith) (omega arith) lx ly (given.sltu x y);
    }
