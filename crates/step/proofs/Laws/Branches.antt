-- The taken clause of demand 3 is met by every instruction that compares: for each batch size, each opcode but that of system calls, each
-- funct3 and any two words, the batch whose cycles compare those words is accepted once it is filled, compares in every cycle, and has
-- taken 1 exactly when the opcode is 0x63 and the ISA's condition holds.
-- Assumes nothing.
use Rattle.std.specs.Prelude.{◌≡◌, ◌↔◌, Bool, true, false, List, ℕ, ◌+◌, ◌-◌, ◌^◌, ◌<◌, length}
use Rattle.std.proofs.Math.Path.{refl, sym, ap}
use Rattle.std.proofs.Common.{ap₂, subst, ◌∙◌, arith}
use Rattle.std.proofs.lemmas.Bool.{false≢true}
use Rattle.base.specs.Bits.{word, signed}
use Rattle.field.specs.Gf.{zero, one, of_bit}
use Rattle.layout.specs.Columns.{ONE-COL, RS1, RS2, T1, T2, SUB, IS-ARITH, TAKEN, FETCH-OP, FETCH-FUNCT3}
use Rattle.layout.specs.Batch.{allowed, scratch_fits}
use Rattle.layout.specs.Laws.Sizes.{allowed-range}
use Rattle.layout.specs.Laws.Scratch.{some_scratch, some_fits}
use Rattle.circuit.specs.Circuit.{circuit_words}
use Rattle.verdict.specs.Row.{cycle_of, bits_of}
use Rattle.verdict.specs.Check.{checked}
use Rattle.step.specs.Step.{Step, opcode, funct3}
use Rattle.step.specs.Branch.{branch_holds}
use Rattle.step.specs.Derived.{derived}
use Rattle.step.specs.Filling.{filled}
use Rattle.step.specs.Demand3.{Premises, accepts, Compares}
use Rattle.step.proofs.Laws.Comparison.{compares-exactly}
use Rattle.step.proofs.Laws.Given.{SameGiven, same_word}
use Rattle.step.proofs.Laws.Taken.{branch_taken, taken-exactly}
use Rattle.step.proofs.Laws.Batch.{filled_zero}
use Rattle.step.proofs.Laws.Proved.{demand3}
use Rattle.step.proofs.Laws.Chosen.{batch_of, with_one, all-bits-of, premises-of, filled-given}
use Rattle.step.proofs.Laws.ComparingRow.{comparing_bits, rs1-is, rs2-is, t1-is, t2-is, opcode-is, funct3-is, subtract-is, arithmetic-is, comparing-steps}

-- every cycle compares RS1 = x with RS2 = y, with opcode o and funct3 f
abbrev pub comparing_batch : ℕ → ℕ → ℕ → ℕ → ℕ → List ℕ
comparing_batch cpi o f x y = batch_of cpi (λ d. comparing_bits o f x y)

-- ---- the statement

-- the instruction that a cycle holds
pub record Instruction (b : ℕ → Bool) (o f x y : ℕ) : Type 0 where
  pub opcode-reads : opcode b ≡ o
  pub funct3-reads : funct3 b ≡ f
  pub rs1-reads : word b RS1 64 ≡ x
  pub rs2-reads : word b RS2 64 ≡ y

pub record Decided (cpi o f x y : ℕ) (scratch : List ℕ) : Type 0 where
  pub premises : Premises cpi (comparing_batch cpi o f x y)
  pub accepted : accepts (checked cpi circuit_words (filled cpi (comparing_batch cpi o f x y)) scratch).answer ≡ true
  -- in every cycle of the filled batch
  pub compares : (d : ℕ) → d < cpi → Compares (bits_of cpi (filled cpi (comparing_batch cpi o f x y)) d)
  pub instruction : (d : ℕ) → d < cpi → Instruction (bits_of cpi (filled cpi (comparing_batch cpi o f x y)) d) o f x y
  pub taken : (d : ℕ) → d < cpi → (cycle_of cpi (filled cpi (comparing_batch cpi o f x y)) d TAKEN ≡ one)
      ↔ ((o ≡ 0x63) × (branch_holds f x y ≡ true))

-- ---- its proof

module _ (cpi : ℕ) (size : allowed cpi ≡ true) (o f x y : ℕ) (lo : o < 2 ^ 7) (other : o ≡ 0x73 → ⊥)
    (lf : f < 8) (lx : x < 2 ^ 64) (ly : y < 2 ^ 64) where
  some : 0 < cpi
  some = (allowed-range cpi size).0

  abbrev batch : List ℕ
  batch = comparing_batch cpi o f x y

  abbrev z : ℕ → Bool
  z = with_one (comparing_bits o f x y)

  p : Premises cpi batch
  p = premises-of cpi some (λ d. comparing_bits o f x y)

  module _ (d : ℕ) (l : d < cpi) where
    abbrev b : ℕ → Bool
    b = bits_of cpi (filled cpi batch) d

    chosen : bits_of cpi batch d ≡ z
    chosen = all-bits-of cpi some (λ d. comparing_bits o f x y) d l

    given : SameGiven b z
    given = filled-given cpi some (λ d. comparing_bits o f x y) d l

    holds-it : Instruction b o f x y
    unfolding derived
    holds-it =
        record {
          opcode-reads = same_word b z given FETCH-OP 7 refl ∙ opcode-is o f x y lo lf lx ly;
          funct3-reads = same_word b z given FETCH-FUNCT3 3 refl ∙ funct3-is o f x y lo lf lx ly;
          rs1-reads = same_word b z given RS1 64 refl ∙ rs1-is o f x y lo lf lx ly;
          rs2-reads = same_word b z given RS2 64 refl ∙ rs2-is o f x y lo lf lx ly;
        }

    compares-here : Compares b
    unfolding derived
    compares-here =
        (compares-exactly b).1 (
          same_word b z given T1 64 refl ∙ t1-is o f x y lo lf lx ly ∙ sym holds-it.rs1-reads,
          (
            same_word b z given T2 64 refl ∙ t2-is o f x y lo lf lx ly ∙ ap (λ (n : ℕ). 2 ^ 64 - 1 - n) (sym holds-it.rs2-reads),
            (given SUB refl ∙ subtract-is o f x y lo lf lx ly, given IS-ARITH refl ∙ arithmetic-is o f x y lo lf lx ly),
          ),
        )

    steps : Step (bits_of cpi batch d) (cycle_of cpi batch d (ONE-COL + 1))
    steps = subst (λ (g : ℕ → Bool). Step g (cycle_of cpi batch d (ONE-COL + 1))) (sym chosen) (comparing-steps o f x y lo lf lx ly other _)

    condition-is : branch_holds (funct3 b) (word b RS1 64) (word b RS2 64) ≡ branch_holds f x y
    condition-is =
        let h = holds-it in
        ap₂ (λ (g v : ℕ). branch_holds g v (word b RS2 64)) h.funct3-reads h.rs1-reads ∙ ap (branch_holds f x) h.rs2-reads

  decided : (scratch : List ℕ) → scratch_fits (length scratch) ≡ true → Decided cpi o f x y scratch
  decided scratch room =
      let proved = demand3 cpi size batch scratch room p in let yes = proved.accepted.1 steps in
      record {
        premises = p;
        accepted = yes;
        compares = compares-here;
        instruction = holds-it;
        taken = λ d l. let t = proved.taken yes d l (compares-here d l) in (
          λ e. (sym (holds-it d l).opcode-reads ∙ (t.0 e).0, sym (condition-is d l) ∙ (t.0 e).1),
          λ e. t.1 ((holds-it d l).opcode-reads ∙ e.0, condition-is d l ∙ e.1),
        );
      }

  -- the taken column is the bit of both tests
  pub taken-bit : (d : ℕ) → d < cpi → cycle_of cpi (filled cpi batch) d TAKEN ≡ of_bit (branch_taken o f x y)
  taken-bit d l = go (branch_taken o f x y) refl
    where
      k : Decided cpi o f x y some_scratch
      k = decided some_scratch some_fits

      go : (h : Bool) → branch_taken o f x y ≡ h → cycle_of cpi (filled cpi batch) d TAKEN ≡ of_bit h
      go true e = (k.taken d l).1 ((taken-exactly o f x y).0 e)
      go false e =
          filled_zero cpi some batch p d l TAKEN (omega arith)
          (λ t. false≢true (sym e ∙ (taken-exactly o f x y).1 ((k.taken d l).0 t)))

pub every-comparison : (cpi : ℕ) → allowed cpi ≡ true → (o f x y : ℕ) → o < 2 ^ 7 → (o ≡ 0x73 → ⊥) → f < 8 → x < 2 ^ 64 → y < 2 ^ 64
    → (scratch : List ℕ) → scratch_fits (length scratch) ≡ true → Decided cpi o f x y scratch
every-comparison = decided

-- ---- each funct3 by given words: one pair that is taken and one that is not, at every batch size and in every cycle

abbrev pub IsTaken : ℕ → ℕ → ℕ → Type 0
IsTaken f x y = (cpi : ℕ) → allowed cpi ≡ true → (d : ℕ) → d < cpi → cycle_of cpi (filled cpi (comparing_batch cpi 0x63 f x y)) d TAKEN ≡ one

abbrev pub IsNotTaken : ℕ → ℕ → ℕ → Type 0
IsNotTaken f x y = (cpi : ℕ) → allowed cpi ≡ true → (d : ℕ) → d < cpi → cycle_of cpi (filled cpi (comparing_batch cpi 0x63 f x y)) d TAKEN ≡ zero

-- 2^64 - 1 is the largest word unsigned, and -1 signed
abbrev pub ones : ℕ
ones = 2 ^ 64 - 1

pub record EachFunct3 : Type 0 where
  pub beq : IsTaken 0 7 7 × IsNotTaken 0 7 8
  pub bne : IsTaken 1 7 8 × IsNotTaken 1 7 7
  pub blt : IsTaken 4 ones 1 × IsNotTaken 4 1 ones
  pub bge : IsTaken 5 1 ones × IsNotTaken 5 ones 1
  pub bltu : IsTaken 6 1 ones × IsNotTaken 6 ones 1
  pub bgeu : IsTaken 7 ones 1 × IsNotTaken 7 1 ones
  -- 2 and 3 are never taken
  pub neither : (x y : ℕ) → x < 2 ^ 64 → y < 2 ^ 64 → IsNotTaken 2 x y × IsNotTaken 3 x y

by_bit : (f x y : ℕ) → f < 8 → x < 2 ^ 64 → y < 2 ^ 64 → (h : Bool) → branch_holds f x y ≡ h
    → (cpi : ℕ) → allowed cpi ≡ true → (d : ℕ) → d < cpi → cycle_of cpi (filled cpi (comparing_batch cpi 0x63 f x y)) d TAKEN ≡ of_bit h
by_bit f x y lf lx ly h e cpi size d l =
    taken-bit cpi size 0x63 f x y (omega arith) (λ q. omega arith) lf lx ly d l ∙ ap (λ (k : Bool). of_bit k) e

pub each-funct3 : EachFunct3
unfolding branch_holds signed
each-funct3 =
    record {
      beq = (
        by_bit 0 7 7 (omega arith) (omega arith) (omega arith) true refl,
        by_bit 0 7 8 (omega arith) (omega arith) (omega arith) false refl,
      );
      bne = (
        by_bit 1 7 8 (omega arith) (omega arith) (omega arith) true refl,
        by_bit 1 7 7 (omega arith) (omega arith) (omega arith) false refl,
      );
      blt = (
        by_bit 4 ones 1 (omega arith) (omega arith) (omega arith) true refl,
        by_bit 4 1 ones (omega arith) (omega arith) (omega arith) false refl,
      );
      bge = (
        by_bit 5 1 ones (omega arith) (omega arith) (omega arith) true refl,
        by_bit 5 ones 1 (omega arith) (omega arith) (omega arith) false refl,
      );
      bltu = (
        by_bit 6 1 ones (omega arith) (omega arith) (omega arith) true refl,
        by_bit 6 ones 1 (omega arith) (omega arith) (omega arith) false refl,
      );
      bgeu = (
        by_bit 7 ones 1 (omega arith) (omega arith) (omega arith) true refl,
        by_bit 7 1 ones (omega arith) (omega arith) (omega arith) false refl,
      );
      neither = λ x y lx ly. (by_bit 2 x y (omega arith) lx ly false refl, by_bit 3 x y (omega arith) lx ly false refl);
    }
