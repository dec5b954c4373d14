-- The definitions met by examples: a cycle that is judged with yes, and cycles close to it that are judged with no; the same of packed
-- words; which columns are named; and of every size a batch whose cycles are all judged with yes.
-- Assumes nothing.
use Rattle.std.specs.Prelude.{◌≡◌, refl, Bool, true, false, List, [], ◌∷◌, ◌++◌, ℕ, ◌-◌, ◌/◌, ◌%◌, ◌^◌, ◌<◌, get_or, replicate}
use Rattle.base.specs.Bits.{val, ◌⊻◌, bit_at}
use Rattle.base.specs.Lists.{joined, from, from_each}
use Rattle.field.specs.Gf.{zero}
use Rattle.layout.specs.Columns.{ONE-COL, RS1, SHIFT-OUT, HALT, IS-LOAD, IS-SHIFT, LD-BYTE, EQA, CA, ZE16, ZE8}
use Rattle.layout.specs.Batch.{allowed}
use Rattle.circuit.specs.Rows.{numbered}
use Rattle.circuit.specs.Circuit.{bin_families, fld_families, circuit_rows}
use Rattle.strict.specs.declared.Known.{Known}
use Rattle.strict.specs.declared.Known.TheVariants.{House, Strict}
use Rattle.strict.specs.Known.{listing_of}
use Rattle.verdict.specs.declared.Verdict.TheVariants.{Accepted}
use Rattle.verdict.specs.Named.{named as named_in}
use Rattle.verdict.specs.Counts.{every_row_of}
use Rattle.verdict.specs.Check.{judged}
use Rattle.step.specs.Filling.{filled}
use Rattle.step.specs.Sheet.{has}
use Rattle.step.proofs.Laws.Chosen.{premises-of}
use Rattle.step.proofs.Laws.Clauses.{idle, idle-meets}
use Rattle.filler.specs.Derive.{carry_word, run_word, lane_word, compare_word, branch_word, taken_bit}
use Rattle.filler.specs.Met.{conditions, byte_of}
use Rattle.judge.specs.Judged.{judged_cycle, JudgedYes}
use Rattle.judge.specs.Words.{judged_words, all_judged}
use Rattle.judge.specs.Judges.{OverBits}
use Rattle.judge.specs.Named.{named_columns, named}
use Rattle.judge.specs.Short.{short_yes}
use Rattle.judge.specs.Laws.Judges.{judges}
use Rattle.judge.specs.Laws.Filled.{filled-over, judges-filled}
use Rattle.judge.specs.Laws.Short.{short-over}

-- ---- a cycle in which only the one column is given as 1: its words below that column, as P6 of the bench sheet has its derived columns

-- word 16 is ZERO
abbrev with_zeros : ℕ → List ℕ
with_zeros w = replicate 14 0 ++ (0x0100000022021101 ∷ 0 ∷ w ∷ 0x400444000 ∷ replicate 14 0)

abbrev all64 : ℕ
all64 = 2 ^ 64 - 1

-- by its bits, some of them flipped
abbrev flipped : List ℕ → ℕ → Bool
flipped cs c = has (ONE-COL ∷ cs) c ⊻ bit_at (get_or (with_zeros all64) (c / 64) 0) (c % 64)

pub record CycleExamples : Type 0 where
  pub filled : judged_cycle House (flipped []) zero ≡ true
  -- a derived column: the first that holds 1, or HALT
  pub cleared : judged_cycle House (flipped (EQA ∷ [])) zero ≡ false
  pub set : judged_cycle House (flipped (HALT ∷ [])) zero ≡ false
  -- condition 2 is not met: shift, and SHIFT_OUT is not ALU
  pub shifts : judged_cycle House (flipped (IS-SHIFT ∷ [])) zero ≡ true
  pub shifts-else : judged_cycle House (flipped (IS-SHIFT ∷ SHIFT-OUT ∷ [])) zero ≡ false
  -- by the strict conditions: a load of a byte, with its derived columns; a load of no width, which the ten let through
  pub strict-filled : judged_cycle Strict (flipped []) zero ≡ true
  pub loads-byte : judged_cycle Strict (flipped (IS-LOAD ∷ LD-BYTE ∷ CA ∷ ZE16 ∷ ZE8 ∷ [])) zero ≡ true
  pub loads-none : judged_cycle Strict (flipped (IS-LOAD ∷ ZE16 ∷ ZE8 ∷ [])) zero ≡ false
  pub loads-none-too : judged_cycle House (flipped (IS-LOAD ∷ ZE16 ∷ ZE8 ∷ [])) zero ≡ true

pub cycle-examples : CycleExamples
unfolding judged_cycle conditions byte_of carry_word run_word lane_word compare_word branch_word taken_bit has val
cycle-examples =
    record {
      filled = refl;
      cleared = refl;
      set = refl;
      shifts = refl;
      shifts-else = refl;
      strict-filled = refl;
      loads-byte = refl;
      loads-none = refl;
      loads-none-too = refl;
    }

-- ---- the same cycle by its words, and two cycles

pub record WordExamples : Type 0 where
  pub cycle : (k : Known) → judged_words k (λ i. get_or (with_zeros all64) i 0) zero ≡ true
  pub cleared : judged_words House (λ k. get_or (with_zeros (all64 - 1)) k 0) zero ≡ false
  pub two : all_judged House (with_zeros all64 ++ with_zeros all64) zero 2 0 ≡ true
  pub second-cleared : all_judged House (with_zeros all64 ++ with_zeros (all64 - 1)) zero 2 0 ≡ false

pub word-examples : WordExamples
unfolding judged_words all_judged conditions byte_of carry_word run_word lane_word compare_word branch_word taken_bit
word-examples = record { cycle = each; cleared = refl; two = refl; second-cleared = refl }
  where
    each : (k : Known) → judged_words k (λ i. get_or (with_zeros all64) i 0) zero ≡ true
    each House = refl
    each Strict = refl

-- ---- columns that some row names, and columns that none does

pub record NamedExamples : Type 0 where
  pub some : (named RS1 ≡ true) × (named 1126 ≡ true)
  pub none : (named 960 ≡ false) × ((named 1127 ≡ false) × (named 2047 ≡ false))

pub named-examples : NamedExamples
unfolding named named_columns named_in circuit_rows bin_families fld_families from from_each joined numbered
named-examples = record { some = (refl, refl); none = (refl, (refl, refl)) }

-- ---- of every size, the idle batch, in which only the one column is 1, and the filler's of it

module _ (k : Known) (cpi : ℕ) (some : 0 < cpi) where
  pub record BatchExamples : Type 0 where
    pub over : OverBits cpi (filled cpi (idle cpi))
    pub yes : JudgedYes k cpi (filled cpi (idle cpi))
    pub accepted : allowed cpi ≡ true → judged cpi (listing_of k) (filled cpi (idle cpi)) ≡ Accepted (every_row_of k cpi)
    pub short : allowed cpi ≡ true → short_yes k cpi (filled cpi (idle cpi)) ≡ true

  pub batch-examples : BatchExamples
  batch-examples =
      let over = filled-over cpi some (idle cpi) (premises-of cpi some (λ d c. false)) in
      let yes = (judges-filled cpi some (idle cpi) (premises-of cpi some (λ d c. false)) k).1 (idle-meets k cpi some) in
      let accepted : allowed cpi ≡ true → judged cpi (listing_of k) (filled cpi (idle cpi)) ≡ Accepted (every_row_of k cpi) =
      λ size. (judges k cpi size (filled cpi (idle cpi)) over).0 yes in
      record {
        over = over;
        yes = yes;
        accepted = accepted;
        short = λ size. (short-over k cpi (filled cpi (idle cpi)) size over).1 (accepted size);
      }
