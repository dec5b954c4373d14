-- Halt and taken where the determining rows hold: halt is 1 exactly when the opcode is 0x73; taken, where the adder subtracts RS2 from
-- RS1, is 1 exactly when the opcode is 0x63 and the ISA's condition holds. Whatever the adder is set to, taken is 0 under another opcode
-- than 0x63, and with funct3 2 or 3.
-- Assumes nothing.
use Rattle.std.specs.Prelude.{◌≡◌, refl, ◌↔◌, Bool, true, false, not, ◌&&◌, cond, ℕ, zero, suc, ◌+◌, ◌<◌, eqb, ltb}
use Rattle.std.proofs.Common.{sym, ap, ap₂, ◌∙◌, arith, eqb-true, eq-eqb, ne_eqb}
use Rattle.std.proofs.Math.Bool.{and-false}
use Rattle.base.specs.Bits.{◌⊻◌, word, majority, Carries, signed_less}
use Rattle.base.specs.Laws.Values.{val_same}
use Rattle.base.specs.Laws.Tests.{both_so}
use Rattle.base.specs.Laws.Cases.{of_three}
use Rattle.base.specs.Laws.Compare.{unsigned-less, equal_words, signed-less}
use Rattle.layout.specs.Columns.{RS1, RS2, T1, T2, CARRY-OFF, ALU, SUB, HALT, TAKEN, ZERO, LTSA, LTSB, LTUA, LTUB}
use Rattle.step.specs.Branch.{below_signed, branch_holds}
use Rattle.step.specs.Step.{opcode, funct3}
use Rattle.step.proofs.Laws.Step.{funct3-lt}
use Rattle.step.proofs.Laws.Determined.{Determined}
use Rattle.step.proofs.Laws.Conditions.{Summed}

pub halt-is : (b : ℕ → Bool) → Determined b → (b HALT ≡ true) ↔ (opcode b ≡ 0x73)
halt-is b f = (λ e. eqb-true _ _ (sym f.halt ∙ e), λ e. f.halt ∙ eq-eqb _ _ e)

-- demand 3's two tests of a branch that is taken, as one bit: of opcode, funct3, RS1 and RS2, and of those that a cycle holds
abbrev pub branch_taken : ℕ → ℕ → ℕ → ℕ → Bool
branch_taken o f x y = eqb o 0x63 && branch_holds f x y

abbrev pub cycle_taken : (ℕ → Bool) → Bool
cycle_taken b = branch_taken (opcode b) (funct3 b) (word b RS1 64) (word b RS2 64)

pub taken-exactly : (o f x y : ℕ) → (branch_taken o f x y ≡ true) ↔ ((o ≡ 0x63) × (branch_holds f x y ≡ true))
taken-exactly o f x y = both_so (eqb o 0x63) (branch_holds f x y) (eqb-true o 0x63, eq-eqb o 0x63) (λ e. e, λ e. e)

-- the bit that funct3 picks: e, s and u say equal, signed less and unsigned less
abbrev picked : ℕ → Bool → Bool → Bool → Bool
picked f e s u =
    cond (eqb f 0) e
    (cond (eqb f 1) (not e)
    (cond (eqb f 4) s
    (cond (eqb f 5) (not s)
    (cond (eqb f 6) u
    (cond (eqb f 7) (not u)
    false)))))

-- the mux, at each funct3
mux : (f : ℕ) → f < 8 → (e s u : Bool)
    → (((eqb f 0 ⊻ eqb f 1) && e) ⊻ eqb f 1 ⊻ ((eqb f 4 ⊻ eqb f 5) && s) ⊻ eqb f 5 ⊻ ((eqb f 6 ⊻ eqb f 7) && u) ⊻ eqb f 7)
    ≡ picked f e s u
mux zero l = of_three _ _ refl
mux (suc zero) l = of_three _ _ refl
mux (suc (suc zero)) l = of_three _ _ refl
mux (suc (suc (suc zero))) l = of_three _ _ refl
mux (suc (suc (suc (suc zero)))) l = of_three _ _ refl
mux (suc (suc (suc (suc (suc zero))))) l = of_three _ _ refl
mux (suc (suc (suc (suc (suc (suc zero)))))) l = of_three _ _ refl
mux (suc (suc (suc (suc (suc (suc (suc zero))))))) l = of_three _ _ refl
mux (suc (suc (suc (suc (suc (suc (suc (suc f)))))))) l = absurd (omega arith)

-- ---- whatever the adder is set to

module _ (b : ℕ → Bool) (f : Determined b) where
  -- what funct3 picks of the three bits that the comparison left
  abbrev pick : ℕ → Bool
  pick k = picked k (b (ZERO + 63)) (b LTSA ⊻ b LTSB) (b LTUA ⊻ b LTUB ⊻ true)

  taken-picked : b TAKEN ≡ (eqb (opcode b) 0x63 && pick (funct3 b))
  taken-picked =
      f.taken ∙ ap₂ ◌&&◌ f.branch (cc (
        f.equal-mux,
        f.signed-mux,
        f.unsigned-mux,
        f.funct3-is 0 (omega arith),
        f.funct3-is 1 (omega arith),
        f.funct3-is 4 (omega arith),
        f.funct3-is 5 (omega arith),
        f.funct3-is 6 (omega arith),
        f.funct3-is 7 (omega arith),
        mux (funct3 b) (funct3-lt b) (b (ZERO + 63)) (b LTSA ⊻ b LTSB) (b LTUA ⊻ b LTUB ⊻ true),
      ))

  -- so it is 0 under every other opcode
  pub no-branch-untaken : (opcode b ≡ 0x63 → ⊥) → b TAKEN ≡ false
  no-branch-untaken other = taken-picked ∙ ap (λ (k : Bool). k && pick (funct3 b)) (ne_eqb (opcode b) 0x63 other)

  unpicked : (k : ℕ) → pick k ≡ false → funct3 b ≡ k → b TAKEN ≡ false
  unpicked k none e = taken-picked ∙ ap (λ (n : ℕ). eqb (opcode b) 0x63 && pick n) e ∙ ap (◌&&◌ (eqb (opcode b) 0x63)) none
      ∙ and-false (eqb (opcode b) 0x63)

  -- and with funct3 2 or 3 under any
  pub two-untaken : funct3 b ≡ 2 → b TAKEN ≡ false
  two-untaken = unpicked 2 refl

  pub three-untaken : funct3 b ≡ 3 → b TAKEN ≡ false
  three-untaken = unpicked 3 refl

-- ---- where it compares

-- T1 is RS1, T2 the complement of RS2, SUB is 1, and ALU is the adder's sum
module _ (b : ℕ → Bool) (f : Determined b) (t1 : (i : ℕ) → i < 64 → b (T1 + i) ≡ b (RS1 + i))
    (t2 : (i : ℕ) → i < 64 → b (T2 + i) ≡ not (b (RS2 + i)))
    (sub : b SUB ≡ true) (sum : Summed b) where
  abbrev rs1 : ℕ → Bool
  rs1 i = b (RS1 + i)

  abbrev rs2 : ℕ → Bool
  rs2 i = b (RS2 + i)

  abbrev carry : ℕ → Bool
  carry i = b (CARRY-OFF + i)

  first : carry 0 ≡ true
  first = f.first-carry ∙ sub

  carries : Carries 63 rs1 (λ i. not (rs2 i)) carry
  carries i l = f.carries i l ∙ ap₂ (λ (x y : Bool). majority x y (carry i)) (t1 i (omega arith)) (t2 i (omega arith))

  difference : (i : ℕ) → i < 64 → b (ALU + i) ≡ rs1 i ⊻ not (rs2 i) ⊻ carry i
  difference i l = sum i l ∙ ap₂ (λ (x y : Bool). x ⊻ y ⊻ carry i) (t1 i l) (t2 i l)

  equal : b (ZERO + 63) ≡ eqb (word b RS1 64) (word b RS2 64)
  equal = f.zero-alu ∙ ap (λ (n : ℕ). eqb n 0) (val_same _ _ 64 difference) ∙ equal_words 63 rs1 rs2 carry first carries

  below : (b LTSA ⊻ b LTSB) ≡ below_signed (word b RS1 64) (word b RS2 64)
  below = f.less-signed ∙ ap (signed_less (rs1 63) (rs2 63)) (difference 63 (omega arith)) ∙ signed-less 63 rs1 rs2 carry first carries

  under : (b LTUA ⊻ b LTUB ⊻ true) ≡ ltb (word b RS1 64) (word b RS2 64)
  under =
      f.no-carry-out ∙ ap₂ (λ (x y : Bool). not (majority x y (carry 63))) (t1 63 (omega arith)) (t2 63 (omega arith))
      ∙ unsigned-less 63 rs1 rs2 carry first carries

  pub taken_is : b TAKEN ≡ cycle_taken b
  unfolding branch_holds
  taken_is = taken-picked b f ∙ cc (equal, below, under)
