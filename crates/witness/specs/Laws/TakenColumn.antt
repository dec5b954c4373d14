-- Demand 3's taken column and the branch reading say the same: of any listing of which demand 3 holds, and so of the house listing. And
-- what the words of that statement come to.
-- Assumes nothing.
use Rattle.std.specs.Prelude.{◌≡◌, ℕ, ◌%◌, ◌<◌, Bool, true, false, ◌⊎◌, ◌↔◌, List, length, refl}
use Rattle.std.proofs.Common.{sym, ap, ap₂, ◌∙◌, inl, inr, mod-eq_of_lt, arith}
use Rattle.std.proofs.lemmas.Bool.{false≢true}
use Rattle.base.specs.Bits.{word}
use Rattle.base.specs.Laws.Cases.{no_true}
use Rattle.field.specs.declared.Gf128.{Gf128}
use Rattle.field.specs.Gf.{zero, one, of_bit}
use Rattle.layout.specs.Columns.{RS1, RS2, TAKEN}
use Rattle.layout.specs.Batch.{allowed, scratch_fits}
use Rattle.layout.specs.Laws.Sizes.{allowed-range}
use Rattle.circuit.specs.Circuit.{circuit_words}
use Rattle.strict.specs.declared.Known.{Known}
use Rattle.strict.specs.declared.Known.TheVariants.{House}
use Rattle.strict.specs.Known.{listing_of}
use Rattle.verdict.specs.Row.{cycle_of, bits_of}
use Rattle.step.specs.Step.{Step, opcode, funct3}
use Rattle.step.specs.Strict.{ConditionsOf}
use Rattle.step.specs.Branch.{branch_holds}
use Rattle.step.specs.Filling.{filled}
use Rattle.step.specs.Demand3.{Premises, Compares, TakesBranch, FillerAccepted, Demand3}
use Rattle.step.proofs.Laws.Step.{funct3-lt}
use Rattle.step.proofs.Laws.Determined.{Determined}
use Rattle.step.proofs.Laws.Taken.{cycle_taken, taken-exactly, no-branch-untaken, two-untaken, three-untaken}
use Rattle.step.proofs.Laws.Batch.{filled-bit, filled_zero, filled-determined}
use Rattle.step.proofs.Laws.Proved.{demand3-known}
use Rattle.step.proofs.Laws.Branches.{Instruction}
use Rattle.witness.specs.declared.branch.BranchReading.{BranchReading}
use Rattle.witness.specs.declared.branch.BranchReading.TheVariants.{NoBranch, Taken, NotTaken, Reserved}
use Rattle.witness.specs.Reading.{reading}
use Rattle.witness.specs.TakenColumn.{cycle_reading, TakenAsRead, TakenColumn}
use Rattle.witness.specs.Laws.Reading.{exactly}

-- funct3 of a cycle has three bits
low : (b : ℕ → Bool) → funct3 b % 8 ≡ funct3 b
low b = mod-eq_of_lt (funct3-lt b)

-- the reading is taken exactly where demand 3 says that a branch is
reads-taken : (b : ℕ → Bool) → TakesBranch b ↔ (cycle_reading b ≡ Taken)
reads-taken b =
    let holding = ap (λ (f : ℕ). branch_holds f (word b RS1 64) (word b RS2 64)) (low b) in
    let read = (exactly (opcode b) (funct3 b) (word b RS1 64) (word b RS2 64)).taken in (
      λ t. read.1 (t.0, holding ∙ t.1),
      λ e. ((read.0 e).0, sym holding ∙ (read.0 e).1),
    )

-- ---- the words of the statement, of any bits and any element

-- a cycle is read by its opcode, funct3, RS1 and RS2, and by nothing else in it
pub cycle-read : (b : ℕ → Bool) (o f x y : ℕ) → Instruction b o f x y → cycle_reading b ≡ reading o f x y
cycle-read b o f x y i =
    ap₂ (λ (m n : ℕ). reading m n (word b RS1 64) (word b RS2 64)) i.opcode-reads i.funct3-reads
    ∙ ap₂ (reading o f) i.rs1-reads i.rs2-reads

is_taken : BranchReading → Bool
is_taken NoBranch = false
is_taken Taken = true
is_taken NotTaken = false
is_taken Reserved = false

-- an element that is as the cycle is read is the bit of demand 3's two tests
pub as-read-is : (b : ℕ → Bool) (column : Gf128) → TakenAsRead b column → column ≡ of_bit (cycle_taken b)
unfolding is_taken
as-read-is b column t = go (cycle_reading b) refl
  where
    tests : (cycle_taken b ≡ true) ↔ TakesBranch b
    tests = taken-exactly (opcode b) (funct3 b) (word b RS1 64) (word b RS2 64)

    untaken : is_taken (cycle_reading b) ≡ false → cycle_taken b ≡ false
    untaken n = no_true (cycle_taken b) (λ e. false≢true (sym n ∙ ap is_taken ((reads-taken b).0 (tests.0 e))))

    is_zero : is_taken (cycle_reading b) ≡ false → column ≡ zero → column ≡ of_bit (cycle_taken b)
    is_zero n z = z ∙ sym (ap (λ (k : Bool). of_bit k) (untaken n))

    go : (r : BranchReading) → cycle_reading b ≡ r → column ≡ of_bit (cycle_taken b)
    go NoBranch e = is_zero (ap is_taken e) (t.no-branch e)
    go Taken e = t.taken.1 e ∙ sym (ap (λ (k : Bool). of_bit k) (tests.1 ((reads-taken b).1 e)))
    go NotTaken e = is_zero (ap is_taken e) (t.not_taken e)
    go Reserved e = is_zero (ap is_taken e) (t.reserved e)

-- and so are the elements of which the statement speaks
pub column-is : (listing : List ℕ) (Conditions : (ℕ → Bool) → Gf128 → Type 0) (cpi : ℕ) (batch scratch : List ℕ)
    → TakenColumn listing Conditions cpi batch scratch → FillerAccepted listing Conditions cpi batch scratch
    → (d : ℕ) → d < cpi → Compares (bits_of cpi (filled cpi batch) d)
    → cycle_of cpi (filled cpi batch) d TAKEN ≡ of_bit (cycle_taken (bits_of cpi (filled cpi batch) d))
column-is listing Conditions cpi batch scratch t accepted d h c = as-read-is _ _ (t accepted d h c)

-- ---- the taken column

module _ (cpi : ℕ) (size : allowed cpi ≡ true) (batch : List ℕ) (p : Premises cpi batch) where
  some : 0 < cpi
  some = (allowed-range cpi size).0

  module _ (d : ℕ) (h : d < cpi) where
    abbrev b : ℕ → Bool
    b = bits_of cpi (filled cpi batch) d

    abbrev column : Gf128
    column = cycle_of cpi (filled cpi batch) d TAKEN

    -- from what demand 3 says of taken
    as_read : (column ≡ one) ↔ TakesBranch b → TakenAsRead b column
    unfolding is_taken
    as_read t =
        record {
          taken = read;
          reserved = λ e. untaken (ap is_taken e);
          not_taken = λ e. untaken (ap is_taken e);
          no-branch = λ e. untaken (ap is_taken e);
        }
      where
        read : (column ≡ one) ↔ (cycle_reading b ≡ Taken)
        read = (λ e. (reads-taken b).0 (t.0 e), λ e. t.1 ((reads-taken b).1 e))

        untaken : is_taken (cycle_reading b) ≡ false → column ≡ zero
        untaken e = filled_zero cpi some batch p d h TAKEN (omega arith) (λ q. false≢true (sym e ∙ ap is_taken (read.0 q)))

    -- ---- whatever T1, T2, subtract and arithmetic are, and whether the filling is accepted or not

    determined : Determined b
    determined = filled-determined cpi some batch p d h

    of-no-bit : b TAKEN ≡ false → column ≡ zero
    of-no-bit e = filled-bit cpi some batch p d h TAKEN (omega arith) ∙ ap (λ (k : Bool). of_bit k) e

    pub never-reserved : cycle_reading b ≡ Reserved → column ≡ zero
    never-reserved e = of-no-bit (by-funct3 ((exactly (opcode b) (funct3 b) (word b RS1 64) (word b RS2 64)).reserved.0 e).1)
      where
        by-funct3 : (funct3 b % 8 ≡ 2) ⊎ (funct3 b % 8 ≡ 3) → b TAKEN ≡ false
        by-funct3 (inl q) = two-untaken b determined (sym (low b) ∙ q)
        by-funct3 (inr q) = three-untaken b determined (sym (low b) ∙ q)

    pub never_other : cycle_reading b ≡ NoBranch → column ≡ zero
    never_other e =
        of-no-bit (no-branch-untaken b determined ((exactly (opcode b) (funct3 b) (word b RS1 64) (word b RS2 64)).no-branch.0 e))

  -- ---- of any listing that demand 3 holds of

  pub taken-as-read : (listing : List ℕ) (Conditions : (ℕ → Bool) → Gf128 → Type 0) (scratch : List ℕ)
      → Demand3 listing Conditions cpi batch scratch → TakenColumn listing Conditions cpi batch scratch
  taken-as-read listing Conditions scratch proved accepted d h c = as_read d h (proved.taken accepted d h c)

-- ---- of a listing that is known by name, and so of the house listing

pub taken-known : (k : Known) (cpi : ℕ) → allowed cpi ≡ true → (batch scratch : List ℕ) → scratch_fits (length scratch) ≡ true
    → Premises cpi batch → TakenColumn (listing_of k) (ConditionsOf k) cpi batch scratch
taken-known k cpi size batch scratch room p =
    taken-as-read cpi size batch p (listing_of k) (ConditionsOf k) scratch (demand3-known k cpi size batch scratch room p)

pub taken-column : (cpi : ℕ) → allowed cpi ≡ true → (batch scratch : List ℕ) → scratch_fits (length scratch) ≡ true → Premises cpi batch
    → TakenColumn circuit_words Step cpi batch scratch
taken-column = taken-known House
