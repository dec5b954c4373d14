-- The laws of a side's sum: it is proper, and sides one after the other add up.
-- Assumes nothing.
use Rattle.std.specs.Prelude.{◌≡◌}
use Rattle.std.proofs.Math.Path.{refl, sym, ap, ap₂}
use Rattle.std.proofs.Common.{◌∙◌, add-zero, arith}
use mathlib.Core.List.{List, [], ◌∷◌, ◌++◌}
use Prim.Native.Nat.{ℕ, zero, suc, ◌+◌}
use Rattle.base.specs.Sums.{sum}
use Rattle.base.specs.Lists.{from_each}
use Rattle.base.specs.Laws.Sums.{sum_same}
use Rattle.field.specs.declared.Gf128.{Gf128}
use Rattle.field.specs.Gf.{Proper, added, power}
use Rattle.field.specs.Gf.Laws.{proper-zero, proper-added, proper-product, zero-add, add_assoc}
use Rattle.circuit.specs.declared.Coefficient.{Coefficient}
use Rattle.circuit.specs.declared.Coefficient.TheVariants.{Zero, Power}
use Rattle.circuit.specs.Rows.{Term}
use Rattle.verdict.specs.Row.{times, sum_of}
use Rattle.field.specs.Gf as gf

module _ (z : ℕ → Gf128) where
  proper-term : (k : Coefficient) (x : Gf128) → Proper (times k x)
  proper-term Zero x = proper-zero
  proper-term (Power k) x = proper-product x (power k)

  pub proper-sum : (ts : List Term) → Proper (sum_of z ts)
  unfolding sum_of
  proper-sum [] = proper-zero
  proper-sum (t ∷ ts) = proper-added _ _ (proper-term t.coefficient (z t.column)) (proper-sum ts)

  pub sum-append : (xs ys : List Term) → sum_of z (xs ++ ys) ≡ added (sum_of z xs) (sum_of z ys)
  unfolding sum_of
  sum-append [] ys = sym (zero-add _)
  sum-append (t ∷ xs) ys = ap (added (times t.coefficient (z t.column))) (sum-append xs ys) ∙ sym (add_assoc _ _ _)

  pub sum-each : (i n : ℕ) (f : ℕ → List Term) → sum_of z (from_each i n f) ≡ sum gf.zero added n (λ k. sum_of z (f (i + k)))
  unfolding from_each sum sum_of
  sum-each i zero f = refl
  sum-each i (suc n) f =
      sum-append (f i) (from_each (suc i) n f)
      ∙ ap₂ added (ap (λ (j : ℕ). sum_of z (f j)) (sym (add-zero i)))
      (sum-each (suc i) n f ∙ sum_same gf.zero added n _ _ (λ k l. ap (λ (j : ℕ). sum_of z (f j)) (omega arith)))
