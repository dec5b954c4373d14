-- Demand 3 of the mission, clause by clause, of a batch as it is lent. "Accepted" and "fails" are the two verdicts of the check as it is
-- called, questions included.
-- Assumes nothing.
use Rattle.std.specs.Prelude.{◌≡◌, ◌↔◌, Bool, true, false, not, List, ℕ, ◌+◌, ◌*◌, ◌^◌, ◌<◌, length, get_or, Err, Ok}
use Rattle.base.specs.Bits.{digit, word}
use Rattle.field.specs.declared.Gf128.{Gf128}
use Rattle.field.specs.Gf.{one, is_bit}
use Rattle.layout.specs.Columns.{ONE-COL, RS1, RS2, T1, T2, SUB, IS-ARITH, HALT, TAKEN}
use Rattle.layout.specs.Batch.{batch_words}
use Rattle.verdict.specs.declared.Verdict.{Verdict}
use Rattle.verdict.specs.declared.Verdict.TheVariants.{Accepted, Failed}
use Rattle.verdict.specs.Row.{element_at, cycle_of, bits_of}
use Rattle.verdict.specs.Check.{checked}
use Rattle.step.specs.Step.{opcode, funct3}
use Rattle.step.specs.Branch.{branch_holds}
use Rattle.step.specs.Derived.{derived}
use Rattle.step.specs.Filling.{SameElsewhere, filling, count_fillings, filled}
use Rattle.layout.specs.Questions.{Answer}

-- ---- what stands in the batch: 0 or 1 in the given columns, 1 in the one column, and anything in the derived and the public ones

pub record Premises (cpi : ℕ) (batch : List ℕ) : Type 0 where
  -- 4,096 elements a cycle, of two words each; a word has 64 bits
  pub words : length batch ≡ batch_words cpi
  pub fit : (i : ℕ) → get_or batch i 0 < 2 ^ 64
  pub given : (c d : ℕ) → c < 2048 → d < cpi → derived c ≡ false → is_bit (cycle_of cpi batch d c) ≡ true
  pub one-is : element_at batch (2048 * cpi) ≡ one

-- ---- the check's two verdicts

abbrev pub accepted_verdict : Verdict → Bool
accepted_verdict (Accepted n) = true
accepted_verdict (Failed relation row n) = false

abbrev pub accepts : Answer Verdict → Bool
accepts (Ok v) = accepted_verdict v
accepts (Err r) = false

abbrev pub fails : Answer Verdict → Bool
fails (Ok v) = not (accepted_verdict v)
fails (Err r) = false

-- ---- what the adder is set to for a branch: T1 is RS1, T2 the complement of RS2 (all 64 bits), subtract and arithmetic are set

pub record Compares (b : ℕ → Bool) : Type 0 where
  pub t1 : word b T1 64 ≡ word b RS1 64
  pub t2 : (i : ℕ) → i < 64 → b (T2 + i) ≡ not (b (RS2 + i))
  pub subtract : b SUB ≡ true
  pub arithmetic : b IS-ARITH ≡ true

-- a branch is taken: the opcode is 0x63, and the ISA's condition for funct3 holds of RS1 and RS2
abbrev pub TakesBranch : (ℕ → Bool) → Type 0
TakesBranch b = (opcode b ≡ 0x63) × (branch_holds (funct3 b) (word b RS1 64) (word b RS2 64) ≡ true)

-- Over a listing, and the conditions that its rows come to: the house listing, and the ten step conditions; or the strict listing, and
-- the strict conditions.
module _ (listing : List ℕ) (Conditions : (ℕ → Bool) → Gf128 → Type 0) (cpi : ℕ) (batch scratch : List ℕ) where
  -- the check's answer on a batch
  abbrev pub answer : List ℕ → Answer Verdict
  answer u = (checked cpi listing u scratch).answer

  -- is the filler's batch accepted?
  abbrev pub FillerAccepted : Type 0
  FillerAccepted = accepts (answer (filled cpi batch)) ≡ true

  -- a cycle of the filler's batch, as elements and as bits
  abbrev pub filled_cycle : ℕ → ℕ → Gf128
  filled_cycle d = cycle_of cpi (filled cpi batch) d

  abbrev pub filled_cycle_bits : ℕ → ℕ → Bool
  filled_cycle_bits d = bits_of cpi (filled cpi batch) d

  pub record Demand3 : Type 0 where
    -- the filler writes a filling, and the same one whatever stood in the derived columns
    pub written : (v : ℕ → Bool) × (filled cpi batch ≡ filling cpi v batch)
    pub whatever : (other : List ℕ) → SameElsewhere cpi other batch → filled cpi other ≡ filled cpi batch
    -- the count of accepted fillings is one or none: one where the filler's is accepted, else none
    pub counted : count_fillings cpi (λ u. accepts (answer u)) batch ≡ digit (accepts (answer (filled cpi batch)))
    -- that one is accepted exactly when every cycle meets the conditions
    pub accepted : FillerAccepted ↔ ((d : ℕ) → d < cpi → Conditions (bits_of cpi batch d) (cycle_of cpi batch d (ONE-COL + 1)))
    -- every other filling fails, conditions met or not
    pub others : (v : ℕ → Bool) → (filling cpi v batch ≡ filled cpi batch → ⊥) → fails (answer (filling cpi v batch)) ≡ true
    -- in the accepted one, in every cycle, halt is 1 exactly when the opcode is 0x73
    pub halt : FillerAccepted → (d : ℕ) → d < cpi → (filled_cycle d HALT ≡ one) ↔ (opcode (filled_cycle_bits d) ≡ 0x73)
    -- there too, in every cycle that compares RS1 with RS2, taken is 1 exactly when the opcode is 0x63 and the ISA's condition for funct3
    -- holds
    pub taken : FillerAccepted → (d : ℕ) → d < cpi → Compares (filled_cycle_bits d)
        → (filled_cycle d TAKEN ≡ one) ↔ TakesBranch (filled_cycle_bits d)
