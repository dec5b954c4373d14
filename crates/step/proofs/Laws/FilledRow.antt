-- A row of cpi 1 that is given by the columns that hold 1, filled and checked as called: accepted where the ten conditions hold, or the
-- first row that fails, where it is RAM address, the adder or the public output. P6 to P9 of the bench sheet are cases of this.
-- Assumes nothing.
use Rattle.std.specs.Prelude.{◌≡◌, Bool, ◌&&◌, List, [], ◌∷◌, ◌++◌, length, drop, Ok}
use Rattle.std.proofs.Math.Path.{refl, sym, ap, ap₂}
use Rattle.std.proofs.Common.{subst, ◌∙◌, arith, eq-eqb}
use Rattle.std.proofs.Math.Bool.{true, false, not, and-false}
use Rattle.std.proofs.lemmas.Bool.{false≢true}
use Prim.Native.Nat.{ℕ, ◌+◌}
use Rattle.std.proofs.Math.ListN.{replicate}
use Rattle.base.specs.Lists.{joined, All, from, from_each}
use Rattle.base.specs.Bits.{◌⊻◌, word}
use Rattle.base.specs.Laws.Tests.{refused}
use Rattle.base.specs.Laws.Lists.{all_append, all-joined}
use Rattle.base.specs.Laws.Cases.{no_true, not-self}
use Rattle.field.specs.declared.Gf128.{Gf128}
use Rattle.field.specs.Gf.{of_words}
use Rattle.field.specs.Gf.Laws.{words-injective}
use Rattle.layout.specs.Columns.{ONE-COL, RD, T1, T2, ALU, SUB, WE, IS-LOAD, IS-STORE, IS-ARITH, LD-HALF, LD-WORD, RAM-ADDR, FETCH-OP, WNL, ZE16, ZE8}
use Rattle.layout.specs.Batch.{allowed, scratch_fits}
use Rattle.circuit.specs.declared.Relation.TheVariants.{Bin, Fld}
use Rattle.circuit.specs.Rows.{Sides, numbered}
use Rattle.circuit.specs.Circuit.{adder_row, copy_rows, address_row, agree_row, sum_row, first_carry_row, output_row, bin_families, circuit_rows, circuit_words}
use Rattle.circuit.specs.Parse.{rows_of}
use Rattle.circuit.specs.Batched.{batch_row}
use Rattle.circuit.specs.Laws.House.{words-read}
use Rattle.strict.specs.declared.Known.TheVariants.{House}
use Rattle.verdict.specs.declared.Counts.{Counts}
use Rattle.verdict.specs.declared.Verdict.{Verdict}
use Rattle.verdict.specs.declared.Verdict.TheVariants.{Accepted, Failed}
use Rattle.verdict.specs.Row.{cycle_of, holds, bits_of}
use Rattle.verdict.specs.OverBits.{plain}
use Rattle.verdict.specs.Named.{named}
use Rattle.verdict.specs.Counts.{counts, none, counted}
use Rattle.verdict.specs.Check.{Constraint, constraints, met, run, judged, checked}
use Rattle.verdict.specs.Laws.Counts.{plus, none-plus, tally, tally-append}
use Rattle.verdict.specs.Laws.Known.{every-known}
use Rattle.verdict.specs.Laws.Run.{Met, run_past}
use Rattle.verdict.specs.Laws.Verdicts.{accepts}
use Rattle.verdict.proofs.Laws.Sheet.{checked-is}
use Rattle.step.specs.Step.{Step, opcode}
use Rattle.step.specs.Derived.{derived}
use Rattle.step.specs.Solve.{Holds}
use Rattle.step.specs.Determining.{before_halt, determining_families, determining}
use Rattle.step.specs.Filling.{filler_bits, filled}
use Rattle.step.specs.Fill.{called}
use Rattle.step.specs.Demand3.{Premises}
use Rattle.step.specs.Sheet.{has}
use Rattle.step.proofs.Laws.Determined.{Determined}
use Rattle.step.proofs.Laws.Given.{SameGiven, same_word}
use Rattle.step.proofs.Laws.BinRows.{address-row, one-halt, bin-parts}
use Rattle.step.proofs.Laws.FieldRows.{bin-row, agree-row, sum_row_lem, output_row_lem}
use Rattle.step.proofs.Laws.Cycle.{OfBits, all-bin, bin-over-bits, address-rows, extension-rows}
use Rattle.step.proofs.Laws.FillingElements.{filling-length}
use Rattle.step.proofs.Laws.FillAnswers.{fills}
use Rattle.step.proofs.Laws.Batch.{same-given, same-public, of-bits, filled-meets, filled-determined, rows-or-conditions}
use Rattle.step.proofs.Laws.Listings.{cycle-rows, listed}
use Rattle.step.proofs.Laws.Ones.{Holding, Fits, bits_are, output-is, premises}
use Rattle.step.proofs.Laws.CycleOrder.{at, rows_in, before_address, bins, before_sum, before_output, address-at, sum-at, output-at, bins-counted, rows-counted, rows-met}

-- the filler as called says yes and leaves the row filled, on which the check as called, over the house listing and with any scratch that
-- fits, gives a verdict, and zeros in the scratch
pub record Gives (row : List ℕ) (v : Verdict) : Type 0 where
  pub fill : called 1 row ≡ record { answer = Ok tt; batch = filled 1 row }
  pub check : (scratch : List ℕ) → scratch_fits (length scratch) ≡ true
      → checked 1 circuit_words (filled 1 row) scratch ≡ record { answer = Ok v; scratch = replicate (length scratch) 0 }

-- ---- a row that holds 1 in the columns cs and n in the public element, filled

module _ (cs : List ℕ) (n : ℕ) (row : List ℕ) (h : Holding cs n row) (t : Fits cs n) where
  p : Premises 1 row
  p = premises cs n row h t

  -- every question is answered with yes, so that the check judges
  gives : {v : Verdict} → judged 1 circuit_words (filled 1 row) ≡ v → Gives row v
  unfolding allowed filled
  gives e =
      record {
        fill = fills 1 row refl p;
        check = λ scratch room.
            checked-is (filled 1 row) scratch (filling-length 1 (filler_bits 1 row) row ∙ h.words) room
            ∙ ap (λ w. record { answer = Ok w; scratch = replicate (length scratch) 0 }) e;
      }

  abbrev view : ℕ → ℕ → Gf128
  view = cycle_of 1 (filled 1 row)

  abbrev z : ℕ → Gf128
  z = view 0

  abbrev b : ℕ → Bool
  b = bits_of 1 (filled 1 row) 0

  given : SameGiven b (has cs)
  unfolding filled
  given c e = same-given 1 (omega arith) row p (filler_bits 1 row) 0 (omega arith) c e ∙ ap (λ (f : ℕ → Bool). f c) (bits_are cs n row h t)

  of : OfBits z b
  unfolding filled
  of = of-bits 1 (omega arith) row p (filler_bits 1 row) 0 (omega arith)

  public : z (ONE-COL + 1) ≡ of_words n 0
  unfolding filled
  public = same-public 1 (omega arith) row p (filler_bits 1 row) 0 (omega arith) ∙ output-is cs n row h t

  facts : Determined b
  facts = filled-determined 1 (omega arith) row p 0 (omega arith)

  families : All (All (Holds b)) determining_families
  unfolding determining
  families = (all-joined (Holds b) determining_families).0 (filled-meets 1 (omega arith) row p 0 (omega arith))

  pub accepted : Step (has cs) (of_words n 0) → Gives row (Accepted (counts 483 31))
  accepted s =
      gives
      (accepts 1 circuit_words (filled 1 row) (λ d l. let e : 0 ≡ d = omega arith in subst Every e every-row)
      ∙ ap Accepted (every-known House 1))
    where
      Every : ℕ → Type 0
      Every d = All (λ r. holds (view d) r.sides ≡ true) (rows_of circuit_words)

      over-bits : Step (bits_of 1 row 0) (of_words n 0)
      over-bits = subst (λ (f : ℕ → Bool). Step f (of_words n 0)) (sym (bits_are cs n row h t)) s

      conditions : Step (bits_of 1 row 0) (cycle_of 1 row 0 (ONE-COL + 1))
      conditions = subst (Step (bits_of 1 row 0)) (sym (output-is cs n row h t)) over-bits

      every-row : Every 0
      every-row = (cycle-rows circuit_words [] (listed House) z).1 ((rows-or-conditions 1 (omega arith) row p 0 (omega arith)).1 conditions, tt)

  -- the first constraint that does not hold
  first-fails : (xs : List Constraint) (k : Constraint) (ys : List Constraint) → constraints 1 circuit_rows ≡ xs ++ (k ∷ ys)
      → Met (met view) xs → met view k ≡ false
      → {i : ℕ} {m : Counts} → batch_row k.row.relation k.cycle k.row.number ≡ i → counted k.row.relation (tally xs) ≡ m
      → Gives row (Failed k.row.relation i m)
  unfolding judged run
  first-fails xs k ys e held fails row_is counts-are =
      gives
      (ap (run (met view) none) (ap (constraints 1) words-read ∙ e) ∙ run_past (met view) xs (k ∷ ys) none held
      ∙ sym (refused (met view k) _ _ fails)
      ∙ ap₂ (Failed k.row.relation) row_is (ap (counted k.row.relation) (none-plus (tally xs)) ∙ counts-are))

  -- just one of load and store, and the lowest bits of RAM_ADDR and of the address in ALU differ
  pub address-fails : (has cs IS-LOAD ⊻ has cs IS-STORE) ≡ true → has cs RAM-ADDR ≡ not (has cs (ALU + 3)) → Gives row (Failed Bin 255 (counts 256 0))
  unfolding derived from from_each plain named numbered tally before_halt before_address
  address-fails one differ =
      first-fails (rows_in Bin before_address) (at Bin 255 (address_row 0)) (drop 256 (constraints 1 circuit_rows)) address-at
      (rows-met view Bin before_address
      ((all-bin z b of before_address refl).1 (all_append (Holds b) (from 0 63 adder_row) (from_each 0 64 copy_rows) families.1.0
      families.1.1.0)))
      (no_true _ (λ e. not-self (has cs (ALU + 3)) (sym differ ∙ sym (given RAM-ADDR refl) ∙ agree e ∙ given (ALU + 3) refl))) refl refl
    where
      agree : holds z (address_row 0) ≡ true → b RAM-ADDR ≡ b (ALU + 3)
      agree e = (address-row b of.one 0).0 ((bin-row z b of.bits (address_row 0) refl).0 e)
          (ap₂ ◌⊻◌ (given IS-LOAD refl) (given IS-STORE refl) ∙ one)

  -- where nothing is loaded, stored or written, the bin rows hold, and fld row 0
  module _ (load : has cs IS-LOAD ≡ false) (store : has cs IS-STORE ≡ false) (write : has cs WE ≡ false) where
    no-load : b IS-LOAD ≡ false
    unfolding derived
    no-load = given IS-LOAD refl ∙ load

    bins-met : Met (met view) bins
    unfolding derived bins
    bins-met =
        rows-met view Bin (joined bin_families)
        ((all-bin z b of (joined bin_families) bin-over-bits).1
        ((all-joined (Holds b) bin_families).1
        ((bin-parts (Holds b)).1
        (record {
          determine = (one-halt b of.one).1 families.1;
          address = (address-rows z b of (z (ONE-COL + 1))).1 (λ e. absurd (false≢true (sym no_access ∙ e)));
          extend16 = (extension-rows z b of ZE16 16 48).1 (shut (not (b LD-WORD)) facts.extend16);
          extend8 = (extension-rows z b of ZE8 8 8).1 (shut (not (b LD-WORD) && not (b LD-HALF)) facts.extend8);
        }))))
      where
        no_access : (b IS-LOAD ⊻ b IS-STORE) ≡ false
        no_access = ap₂ ◌⊻◌ no-load (given IS-STORE refl ∙ store)

        shut : {A : Type 0} {x : Bool} (y : Bool) → x ≡ (y && b IS-LOAD) → x ≡ true → A
        shut y e on = absurd (false≢true (sym (e ∙ ap (◌&&◌ y) no-load ∙ and-false y) ∙ on))

    write-holds : holds z (agree_row 64 WNL ALU RD) ≡ true
    unfolding derived
    write-holds =
        let off = facts.write-gate ∙ ap (λ (k : Bool). k && not (b IS-LOAD)) (given WE refl ∙ write) in
        (agree-row z b of.bits 64 WNL ALU RD (omega arith) (omega arith) (omega arith) (omega arith)).1
        (λ e. absurd (false≢true (sym off ∙ e)))

    -- a fld row, after those before it
    fld-fails : (ss : List Sides) (s : Sides)
        → constraints 1 circuit_rows ≡ (bins ++ rows_in Fld ss) ++ (at Fld (length ss) s ∷ drop (484 + length ss) (constraints 1 circuit_rows))
        → All (λ s. holds z s ≡ true) ss → holds z s ≡ false → Gives row (Failed Fld (length ss) (counts 483 (1 + length ss)))
    fld-fails ss s e held fails =
        first-fails (bins ++ rows_in Fld ss) (at Fld (length ss) s) (drop (484 + length ss) (constraints 1 circuit_rows)) e
        (all_append (λ k. met view k ≡ true) bins (rows_in Fld ss) bins-met (rows-met view Fld ss held)) fails
        (omega arith)
        (ap (counted Fld) (tally-append bins (rows_in Fld ss) ∙ ap₂ plus bins-counted (rows-counted Fld ss)) ∙ ap₂ counts refl (omega arith))

    -- arithmetic, and the lowest bit of ALU is not that of the sum
    pub sum-fails : has cs IS-ARITH ≡ true → has cs ALU ≡ not (has cs T1 ⊻ has cs T2 ⊻ has cs SUB) → Gives row (Failed Fld 1 (counts 483 2))
    unfolding derived
    sum-fails adds differ = fld-fails before_sum sum_row sum-at (write-holds, tt)
        (no_true _ (λ e. not-self _ (sym differ ∙ sym (given ALU refl) ∙ lowest e)))
      where
        lowest : holds z sum_row ≡ true → b ALU ≡ has cs T1 ⊻ has cs T2 ⊻ has cs SUB
        lowest e =
            (sum_row_lem z b of.bits).0 e (given IS-ARITH refl ∙ adds) 0 (omega arith)
            ∙ ap₂ ◌⊻◌ (ap₂ ◌⊻◌ (given T1 refl) (given T2 refl)) (facts.first-carry ∙ given SUB refl)

    -- opcode 0x73, no arithmetic, and the public element is not RD
    pub output-fails : has cs IS-ARITH ≡ false → opcode (has cs) ≡ 0x73 → (n ≡ word (has cs) RD 64 → ⊥) → Gives row (Failed Fld 3 (counts 483 4))
    unfolding derived plain named
    output-fails no-sum system differ =
        fld-fails before_output output_row output-at
        (write-holds, (sum-holds, ((bin-row z b of.bits first_carry_row refl).1 families.0.0, tt)))
        (no_true _ (λ e. differ ((words-injective _ _ _ _ (sym public ∙ shown e)).0 ∙ same_word b (has cs) given RD 64 refl)))
      where
        sum-holds : holds z sum_row ≡ true
        sum-holds = (sum_row_lem z b of.bits).1 (λ e. absurd (false≢true (sym (given IS-ARITH refl ∙ no-sum) ∙ e)))

        shown : holds z output_row ≡ true → z (ONE-COL + 1) ≡ of_words (word b RD 64) 0
        shown e = (output_row_lem z b of.bits of.public).0 e (facts.halt
            ∙ eq-eqb _ _ (same_word b (has cs) given FETCH-OP 7 refl ∙ system))
