-- Sides over the field, of a cycle whose columns up to the one column are bits: a packed sum is zero exactly when each of its bits is. By
-- the field's laws alone.
-- Assumes nothing.
use Rattle.std.specs.Prelude.{◌≡◌, ◌↔◌, Bool, false, ℕ, ◌+◌, ◌≤◌, ◌<◌}
use Rattle.std.proofs.Math.Path.{sym, ap, ap₂}
use Rattle.std.proofs.Common.{◌∙◌, zero-add, arith}
use Rattle.std.proofs.Math.Bool.{true, and-true}
use mathlib.Core.List.{List, [], ◌∷◌, map}
use Rattle.base.specs.Bits.{val, ◌⊻◌}
use Rattle.base.specs.Lists.{All}
use Rattle.base.specs.Laws.Sums.{sum_same}
use Rattle.base.specs.Laws.Lists.{all_then}
use Rattle.field.specs.declared.Gf128.{Gf128}
use Rattle.field.specs.Gf.{of_words, added, of_bit}
use Rattle.field.specs.Gf.Packed.{packs, zero_word}
use Rattle.field.specs.Gf.Bits.{proper-bit}
use Rattle.field.specs.Gf.Laws.{proper-power, power_zero}
use Rattle.layout.specs.Columns.{ONE-COL}
use Rattle.circuit.specs.Circuit.{power_term, col, packed}
use Rattle.verdict.specs.Row.{sum_of}
use Rattle.verdict.specs.Laws.OverBits.{add-bits, mul-bits}
use Rattle.verdict.specs.Laws.SideSums.{sum-each}
use Rattle.field.specs.Gf as gf
use Rattle.field.specs.Gf.Laws as law

-- t^k times bits, added
power-add : (k : ℕ) (x y : Bool) → added (gf.product (gf.power k) (of_bit x)) (gf.product (gf.power k) (of_bit y))
    ≡ gf.product (gf.power k) (of_bit (x ⊻ y))
power-add k x y = sym (law.mul-add (gf.power k) (of_bit x) (of_bit y) (proper-bit x) (proper-bit y))
    ∙ ap (gf.product (gf.power k)) (add-bits x y)

-- bit i of the exclusive or of the words at the columns xs
module _ (b : ℕ → Bool) where
  abbrev pub bit_sum : List ℕ → ℕ → Bool
  bit_sum [] i = false
  bit_sum (x ∷ xs) i = b (x + i) ⊻ bit_sum xs i

-- ---- columns that are bits

module _ (z : ℕ → Gf128) (b : ℕ → Bool) (bits : (c : ℕ) → c ≤ ONE-COL → z c ≡ of_bit (b c)) where
  pub sum-col : (c : ℕ) → c ≤ ONE-COL → sum_of z (col c ∷ []) ≡ of_bit (b c)
  unfolding sum_of
  sum-col c l = law.add-zero _ ∙ ap₂ gf.product (bits c l) power_zero ∙ mul-bits (b c) true ∙ ap (λ (v : Bool). of_bit v) (and-true (b c))

  sum-powers : (i : ℕ) (xs : List ℕ) → All (λ x. x + i ≤ ONE-COL) xs
      → sum_of z (map (λ x. power_term i (x + i)) xs) ≡ gf.product (gf.power i) (of_bit (bit_sum b xs i))
  unfolding sum_of
  sum-powers i [] h = sym (law.mul-zero (gf.power i))
  sum-powers i (x ∷ xs) h =
      ap₂ added
      (ap (λ (w : Gf128). gf.product w (gf.power i)) (bits (x + i) h.0)
      ∙ law.mul_comm (of_bit (b (x + i))) (gf.power i) (proper-bit (b (x + i))) (proper-power i))
      (sum-powers i xs h.1)
      ∙ power-add i (b (x + i)) (bit_sum b xs i)

  in-range : (n i : ℕ) (xs : List ℕ) → i < n → All (λ x. x + n ≤ ONE-COL) xs → All (λ x. x + i ≤ ONE-COL) xs
  in-range n i xs l = all_then _ _ (λ x h. omega arith) xs

  pub sum-packed : (n : ℕ) (xs : List ℕ) → n ≤ 64 → All (λ x. x + n ≤ ONE-COL) xs → sum_of z (packed n xs) ≡ of_words (val (bit_sum b xs) n) 0
  sum-packed n xs l h =
      sum-each z 0 n (λ i. map (λ x. power_term i (x + i)) xs)
      ∙ sum_same gf.zero added n _ _ (λ i o. ap (λ (j : ℕ). sum_of z (map (λ x. power_term j (x + j)) xs)) (zero-add i)
      ∙ sum-powers i xs (in-range n i xs o h))
      ∙ packs n (bit_sum b xs) l

  pub packed_zero : (n : ℕ) (xs : List ℕ) → n ≤ 64 → All (λ x. x + n ≤ ONE-COL) xs
      → (sum_of z (packed n xs) ≡ gf.zero) ↔ ((i : ℕ) → i < n → bit_sum b xs i ≡ false)
  packed_zero n xs l h =
      let k = zero_word n (bit_sum b xs) in let e = sum-packed n xs l h in (λ q. k.0 (sym e ∙ q), λ q. e ∙ k.1 q)
