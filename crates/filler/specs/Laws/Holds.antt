-- Rows hold where their columns are what they say: the shapes that the determining rows have.
-- Assumes nothing.
use Rattle.std.specs.Prelude.{◌≡◌, ℕ, zero, suc, ◌+◌, ◌-◌, ◌^◌, ◌<◌, ◌≤◌, Bool, true, false, not, ◌&&◌, List, [], ◌∷◌}
use Rattle.std.proofs.Math.Path.{sym, ap}
use Rattle.std.proofs.Common.{ap₂, ◌∙◌, add-zero, arith}
use Rattle.base.specs.Lists.{All, from}
use Rattle.base.specs.Bits.{◌⊻◌, word, alike, bit_at}
use Rattle.base.specs.Laws.From.{all_from}
use Rattle.base.specs.Laws.Cases.{xor_self, xor-false}
use Rattle.base.specs.Laws.Bits.{run-first, run-next, word-bit}
use Rattle.layout.specs.Columns.{ONE-COL}
use Rattle.circuit.specs.Rows.{Term}
use Rattle.circuit.specs.Circuit.{col, one_term, row, copy_row, chain_start, chain_next}
use Rattle.verdict.specs.OverBits.{sum_bits}
use Rattle.step.specs.Solve.{lacks, Holds}
use Rattle.step.proofs.Laws.Sides.{sum_one, sum_more, sum-two}
use Rattle.filler.specs.Derive.{run_word}
use Rattle.filler.specs.Laws.Lanes.{low_agree, third_agrees}

module _ (y : ℕ → Bool) (y1 : y ONE-COL ≡ true) where
  -- a row whose C is one column
  pub product-holds : (l m : List Term) (p : ℕ) {u v : Bool} → sum_bits y l ≡ u → sum_bits y m ≡ v → y p ≡ (u && v)
      → Holds y (row l m (col p ∷ []))
  unfolding lacks sum_bits
  product-holds l m p e f h = xor_self _ _ (ap₂ ◌&&◌ e f ∙ sym h ∙ sym (xor-false (y p)))

  -- a row that sets a side to zero
  pub zero-holds : (l : List Term) → sum_bits y l ≡ false → Holds y (row l (one_term ∷ []) [])
  unfolding lacks sum_bits
  zero-holds l e = ap (λ (a : Bool). (a && (y ONE-COL ⊻ false)) ⊻ false) e

  pub copy_holds : (u v : ℕ) → y u ≡ y v → Holds y (copy_row u v)
  copy_holds u v e = zero-holds _ (sum-two y y1 u v ∙ xor_self (y u) (y v) e)

  -- a chain of tests, each whether a bit of w is 0
  pub chain-holds : (x n w : ℕ) (test : ℕ → List Term) → w < 2 ^ 64 → n < 64 → ((i : ℕ) → i ≤ n → sum_bits y (test i) ≡ not (bit_at w i))
      → ((i : ℕ) → i ≤ n → y (x + i) ≡ bit_at (run_word w) i) → All (Holds y) (chain_start x (test 0) ∷ from 1 n (λ i. chain_next x i (test i)))
  unfolding run_word
  chain-holds x n w test l m tests h = (
    zero-holds _ (sum_more y y1 x (test 0) (tests 0 (omega arith))
        ∙ xor_self (y x) _ (sym (ap y (add-zero x)) ∙ h 0 (omega arith) ∙ run-first 63 w l)),
    (all_from (Holds y) 1 n (λ i. chain_next x i (test i))).1 onward,
  )
    where
      onward : (i : ℕ) → 1 ≤ i → i < 1 + n → Holds y (chain_next x i (test i))
      onward zero p q = absurd (omega arith)
      onward (suc i) p q =
          product-holds _ _ _ (sum_one y y1 (x + suc i - 1)) (tests (suc i) (omega arith))
          (h (suc i) (omega arith) ∙ run-next 63 w l i (omega arith)
          ∙ ap (λ (b : Bool). b && not (bit_at w (suc i))) (sym (ap y (omega arith) ∙ h i (omega arith))))

  -- three bits in two stages
  pub stages-hold : (o v p e : ℕ) (test : ℕ → List Term) → ((i : ℕ) → sum_bits y (test i) ≡ alike (y (o + i)) (bit_at v i))
      → y p ≡ low_agree (word y o 3) v
      → y e ≡ (y p && third_agrees (word y o 3) v)
      → All (Holds y) (row (test 0) (test 1) (col p ∷ []) ∷ row (col p ∷ []) (test 2) (col e ∷ []) ∷ [])
  stages-hold o v p e test s hp he =
      let b : ((i : ℕ) → i < 3 → bit_at (word y o 3) i ≡ y (o + i)) = word-bit y o 3 in (
        product-holds _ _ _ (s 0) (s 1)
            (hp ∙ ap₂ (λ (a c : Bool). alike a (bit_at v 0) && alike c (bit_at v 1)) (b 0 (omega arith)) (b 1 (omega arith))),
        (product-holds _ _ _ (sum_one y y1 p) (s 2) (he ∙ ap (λ (a : Bool). y p && alike a (bit_at v 2)) (b 2 (omega arith))), tt),
      )
