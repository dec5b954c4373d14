-- The adder's rows, the copies and the zero chain hold, where the columns are as the words say.
-- Assumes nothing.
use Rattle.std.specs.Prelude.{◌≡◌, ℕ, suc, ◌+◌, ◌<◌, Bool, true, false, not, ◌&&◌, refl}
use Rattle.std.proofs.Math.Path.{sym, ap, ap₂}
use Rattle.std.proofs.Common.{◌∙◌, arith}
use Rattle.std.proofs.Math.Bool.{and-true}
use Rattle.base.specs.Lists.{All}
use Rattle.base.specs.Bits.{◌⊻◌, word, majority}
use Rattle.base.specs.Laws.Values.{val-lt}
use Rattle.base.specs.Laws.Cases.{of_three, xor-false, alike-not}
use Rattle.base.specs.Laws.Bits.{carry_into, carry-bit, word-bit}
use Rattle.layout.specs.Columns.{ONE-COL, T1, T2, CARRY-OFF, ALU, SUB, ZERO}
use Rattle.circuit.specs.Circuit.{is, first_carry_row, adder_row, copy_rows, zero_rows}
use Rattle.verdict.specs.OverBits.{sum_bits}
use Rattle.step.specs.Solve.{lacks, Holds}
use Rattle.step.proofs.Laws.Sides.{sum_one, sum_is}
use Rattle.filler.specs.Derive.{carry_word}
use Rattle.filler.specs.Laws.Derive.{ByWords}
use Rattle.filler.specs.Laws.Holds.{product-holds, copy_holds, chain-holds}

adder-zero : (a b c : Bool) → (((a ⊻ (c ⊻ false)) && (b ⊻ (c ⊻ false))) ⊻ (majority a b c ⊻ (c ⊻ false))) ≡ false
adder-zero = of_three _ (λ a b c. false) refl

module _ (y : ℕ → Bool) (y1 : y ONE-COL ≡ true) (d : ByWords y) where
  abbrev t1 : ℕ
  t1 = word y T1 64

  abbrev t2 : ℕ
  t2 = word y T2 64

  carry-is : (i : ℕ) → i < 64 → y (CARRY-OFF + i) ≡ carry_into t1 t2 (y SUB) i
  unfolding carry_word
  carry-is i l = d.carry i l ∙ carry-bit 63 t1 t2 (y SUB) (val-lt 64 _) (val-lt 64 _) i l

  pub first-carry-holds : Holds y first_carry_row
  unfolding carry_into
  first-carry-holds =
      product-holds y y1 _ _ _ (sum_one y y1 SUB) (sum_one y y1 ONE-COL ∙ y1) (carry-is 0 (omega arith) ∙ sym (and-true (y SUB)))

  pub adder-holds : (i : ℕ) → i < 63 → Holds y (adder_row i)
  unfolding lacks sum_bits carry_into
  adder-holds i l =
      ap (λ (n : Bool). ((y (T1 + i) ⊻ (y (CARRY-OFF + i) ⊻ false)) && (y (T2 + i) ⊻ (y (CARRY-OFF + i) ⊻ false)))
      ⊻ (n ⊻ (y (CARRY-OFF + i) ⊻ false)))
      (carry-is (suc i) (omega arith)
      ∙ ap₂ (λ (a b : Bool). majority a b (carry_into t1 t2 (y SUB) i)) (word-bit y T1 64 i (omega arith)) (word-bit y T2 64 i (omega arith))
      ∙ ap (majority (y (T1 + i)) (y (T2 + i))) (sym (carry-is i (omega arith))))
      ∙ adder-zero (y (T1 + i)) (y (T2 + i)) (y (CARRY-OFF + i))

  pub copies-hold : (i : ℕ) → i < 64 → All (Holds y) (copy_rows i)
  copies-hold i l =
      (copy_holds y y1 _ _ (d.shift-src i l), (copy_holds y y1 _ _ (d.store-old i l), (copy_holds y y1 _ _ (d.store-src i l), tt)))

  pub zeros-hold : All (Holds y) zero_rows
  zeros-hold =
      chain-holds y y1 ZERO 63 (word y ALU 64) (λ i. is (ALU + i) 0) (val-lt 64 _) (omega arith)
      (λ i l. sum_is y y1 (ALU + i) 0 ∙ alike-not (y (ALU + i)) false
      ∙ ap not (xor-false (y (ALU + i)) ∙ sym (word-bit y ALU 64 i (omega arith))))
      (λ i l. d.zeros i (omega arith))
