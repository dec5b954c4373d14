-- What a side of a row adds up to over bits, where the one column is 1.
-- Assumes nothing.
use Rattle.std.specs.Prelude.{◌≡◌, Bool, true, false, not, List, [], ◌∷◌}
use Rattle.std.proofs.Math.Path.{refl, ap}
use Rattle.std.proofs.Common.{◌∙◌}
use Prim.Native.Nat.{ℕ, zero, suc}
use Rattle.base.specs.Bits.{◌⊻◌, is_set, alike}
use Rattle.base.specs.Laws.Cases.{of_three, xor-false}
use Rattle.layout.specs.Columns.{ONE-COL}
use Rattle.circuit.specs.Rows.{Term}
use Rattle.circuit.specs.Circuit.{col, one_term, is, is_of}
use Rattle.verdict.specs.OverBits.{sum_bits}

xor-true : (v : Bool) → (v ⊻ true) ≡ not v
xor-true true = refl
xor-true false = refl

xor-right : (a b c : Bool) → (a ⊻ (b ⊻ c)) ≡ a ⊻ b ⊻ c
xor-right = of_three _ _ refl

module _ (b : ℕ → Bool) (b1 : b ONE-COL ≡ true) where
  pub sum_one : (x : ℕ) → sum_bits b (col x ∷ []) ≡ b x
  unfolding sum_bits
  sum_one x = xor-false (b x)

  pub sum_more : (x : ℕ) (ts : List Term) {y : Bool} → sum_bits b ts ≡ y → sum_bits b (col x ∷ ts) ≡ b x ⊻ y
  unfolding sum_bits
  sum_more x ts e = ap (λ (y : Bool). b x ⊻ y) e

  pub sum-two : (x y : ℕ) → sum_bits b (col x ∷ col y ∷ []) ≡ b x ⊻ b y
  sum-two x y = sum_more x (col y ∷ []) (sum_one y)

  pub sum-not : (x : ℕ) → sum_bits b (col x ∷ one_term ∷ []) ≡ not (b x)
  sum-not x = sum-two x ONE-COL ∙ ap (λ (o : Bool). b x ⊻ o) b1 ∙ xor-true (b x)

  pub sum-three : (x y : ℕ) → sum_bits b (col x ∷ col y ∷ one_term ∷ []) ≡ b x ⊻ b y ⊻ true
  sum-three x y = sum_more x _ (sum_more y _ (sum_one ONE-COL ∙ b1)) ∙ xor-right (b x) (b y) true

  pub sum-six : (u v w x y z : ℕ) → sum_bits b (col u ∷ col v ∷ col w ∷ col x ∷ col y ∷ col z ∷ []) ≡ b u ⊻ b v ⊻ b w ⊻ b x ⊻ b y ⊻ b z
  sum-six u v w x y z =
      sum_more u _ (sum_more v _ (sum_more w _ (sum_more x _ (sum-two y z))))
      ∙ xor-right (b u) (b v) _ ∙ xor-right (b u ⊻ b v) (b w) _ ∙ xor-right (b u ⊻ b v ⊻ b w) (b x) _
      ∙ xor-right (b u ⊻ b v ⊻ b w ⊻ b x) (b y) (b z)

  pub sum_is : (x n : ℕ) → sum_bits b (is x n) ≡ alike (b x) (is_set n)
  unfolding sum_bits
  sum_is x zero = ap (λ (o : Bool). b x ⊻ (o ⊻ false)) b1
  sum_is x (suc n) = refl

  pub sum-is_of : (x n : ℕ) → sum_bits b (is_of x n) ≡ alike (b x) (is_set n)
  unfolding sum_bits
  sum-is_of x zero = ap (λ (o : Bool). b x ⊻ (o ⊻ false)) b1
  sum-is_of x (suc n) = refl
