-- One column alone: where the others are 0, what rows say is told by a test that computes, and the rows of one cycle by that of another.
-- Assumes nothing.
use Rattle.std.specs.Prelude.{◌≡◌, Bool, not, cond, ◌&&◌, ◌||◌, ℕ, ◌+◌, ◌*◌, eqb}
use Rattle.std.proofs.Math.Path.{refl, ap, ap₂}
use Rattle.std.proofs.Common.{sym, ◌∙◌, true≢false, mul-zero, arith}
use Rattle.std.proofs.Math.Bool.{true, false}
use mathlib.Core.List.{List, [], ◌∷◌, map}
use Rattle.base.specs.Lists.{All}
use Rattle.base.specs.Laws.Tests.{both}
use Rattle.field.specs.declared.Gf128.{Gf128}
use Rattle.field.specs.Gf.{same, product, power, added, of_bit}
use Rattle.field.specs.Gf.Tests.{same_self}
use Rattle.field.specs.Gf.Laws.{zero-mul, add-zero as add_nothing, mul-zero as mul-nothing}
use Rattle.layout.specs.Batch.{among}
use Rattle.circuit.specs.declared.Coefficient.{Coefficient}
use Rattle.circuit.specs.declared.Coefficient.TheVariants.{Zero, Power}
use Rattle.circuit.specs.Rows.{Term, Sides, Row}
use Rattle.circuit.specs.Found.{rows_a_cycle}
use Rattle.circuit.specs.Batched.{batch_row}
use Rattle.verdict.specs.declared.Counts.{Counts}
use Rattle.verdict.specs.declared.Verdict.{Verdict}
use Rattle.verdict.specs.declared.Verdict.TheVariants.{Accepted, Failed}
use Rattle.verdict.specs.Row.{times, sum_of, balanced, holds}
use Rattle.verdict.specs.Counts.{none, counted}
use Rattle.verdict.specs.Check.{in_cycle, met, failed_at, run}
use Rattle.verdict.specs.Named.{named}
use Rattle.verdict.specs.OverBits.{plain_row, holds_bits}
use Rattle.verdict.specs.Laws.Run.{run-same}
use Rattle.verdict.specs.Laws.Named.{sum-depends}
use Rattle.verdict.specs.Laws.OverBits.{holds-bits}
use Rattle.field.specs.Gf as gf

-- ---- over zeros every sum is zero

module _ (z : ℕ → Gf128) (none : (c : ℕ) → z c ≡ gf.zero) where
  term-zero : (k : Coefficient) (c : ℕ) → times k (z c) ≡ gf.zero
  term-zero Zero c = refl
  term-zero (Power k) c = ap (λ x. product x (power k)) (none c) ∙ zero-mul (power k)

  sum-zero : (ts : List Term) → sum_of z ts ≡ gf.zero
  unfolding sum_of
  sum-zero [] = refl
  sum-zero (t ∷ ts) = ap₂ added (term-zero t.coefficient t.column) (sum-zero ts) ∙ add_nothing gf.zero

  pub holds-zero : (s : Sides) → holds z s ≡ true
  unfolding balanced
  holds-zero s = ap₂ same (ap₂ product (sum-zero s.a) (sum-zero s.b) ∙ zero-mul gf.zero) (sum-zero s.c) ∙ same_self gf.zero

-- ---- a row over bits of which column c alone is 1

-- no term names column c
abbrev silent : ℕ → List Term → Bool
silent c ts = not (among c (named ts))

-- A · B and C are 0: of two factors one that does not name it is enough
abbrev both_zero : ℕ → Sides → Bool
both_zero c s = (silent c s.a || silent c s.b) && silent c s.c

abbrev pub holds_alone : ℕ → Sides → Bool
holds_alone c s = both_zero c s || holds_bits (eqb c) s

-- the row is one of those that this test tells: its product is 0, or its coefficients are 0 and 1
abbrev pub told : ℕ → Sides → Bool
told c s = both_zero c s || plain_row s

module _ (z : ℕ → Gf128) (c : ℕ) (bits : (k : ℕ) → z k ≡ of_bit (eqb c k)) where
  apart : (xs : List ℕ) → not (among c xs) ≡ true → All (λ k. z k ≡ gf.zero) xs
  apart [] e = tt
  apart (x ∷ xs) e = by-test (eqb c x) refl e (apart xs)
    where
      by-test : (b : Bool) → eqb c x ≡ b → not (b || among c xs) ≡ true → (not (among c xs) ≡ true → All (λ k. z k ≡ gf.zero) xs)
          → All (λ k. z k ≡ gf.zero) (x ∷ xs)
      by-test true q e rest = absurd (true≢false (sym e))
      by-test false q e rest = (bits x ∙ ap of_bit q, rest e)

  sum-silent : (ts : List Term) → silent c ts ≡ true → sum_of z ts ≡ gf.zero
  sum-silent ts e = sum-depends z (λ k. gf.zero) ts (apart (named ts) e) ∙ sum-zero (λ k. gf.zero) (λ k. refl) ts

  holds-zeros : (s : Sides) → both_zero c s ≡ true → holds z s ≡ true
  unfolding balanced
  holds-zeros s e =
      let p = both (silent c s.a || silent c s.b) (silent c s.c) e in
      ap₂ same (product-zero (silent c s.a) refl p.0) (sum-silent s.c p.1) ∙ same_self gf.zero
    where
      product-zero : (b : Bool) → silent c s.a ≡ b → (b || silent c s.b) ≡ true → product (sum_of z s.a) (sum_of z s.b) ≡ gf.zero
      product-zero true q e = ap (λ x. product x (sum_of z s.b)) (sum-silent s.a q) ∙ zero-mul (sum_of z s.b)
      product-zero false q e = ap (product (sum_of z s.a)) (sum-silent s.b e) ∙ mul-nothing (sum_of z s.a)

  holds-alone : (s : Sides) → told c s ≡ true → holds z s ≡ holds_alone c s
  holds-alone s t = by-test (both_zero c s) refl t
    where
      by-test : (b : Bool) → both_zero c s ≡ b → (b || plain_row s) ≡ true → holds z s ≡ (b || holds_bits (eqb c) s)
      by-test true q t = holds-zeros s q
      by-test false q t = holds-bits z (eqb c) bits s t

-- ---- the rows of cycle d, where the test asks only the row: as in cycle 0, and further on

abbrev pub further : ℕ → Verdict → Verdict
further d (Accepted n) = Accepted n
further d (Failed rel row n) = Failed rel (batch_row rel d row) n

run-further : (test : Row → Bool) (rs : List Row) (d : ℕ) (n : Counts)
    → run (λ k. test k.row) n (map (in_cycle d) rs) ≡ further d (run (λ k. test k.row) n (map (in_cycle 0) rs))
unfolding run
run-further test [] d n = refl
run-further test (r ∷ rs) d n = by-test (test r) (run-further test rs d next)
  where
    next : Counts
    next = counted r.relation n

    by-test : (b : Bool)
        → run (λ k. test k.row) next (map (in_cycle d) rs) ≡ further d (run (λ k. test k.row) next (map (in_cycle 0) rs))
        → cond b (run (λ k. test k.row) next (map (in_cycle d) rs)) (failed_at (in_cycle d r) next)
        ≡ further d (cond b (run (λ k. test k.row) next (map (in_cycle 0) rs)) (failed_at (in_cycle 0 r) next))
    by-test true e = e
    by-test false e =
        ap (λ (i : ℕ). Failed r.relation (rows_a_cycle r.relation * d + i) next) (omega (arith, mul-zero (rows_a_cycle r.relation)))

-- ---- a cycle in which column c alone is 1, from what its rows were computed to say

abbrev pub test_alone : ℕ → Row → Bool
test_alone c r = holds_alone c r.sides

unfoldable pub all_told : ℕ → List Row → Bool
all_told c [] = true
all_told c (r ∷ rs) = told c r.sides && all_told c rs

module _ (view : ℕ → ℕ → Gf128) (c d : ℕ) (bits : (k : ℕ) → view d k ≡ of_bit (eqb c k)) where
  same_tests : (rs : List Row) → all_told c rs ≡ true → All (λ k. met view k ≡ test_alone c k.row) (map (in_cycle d) rs)
  unfolding all_told
  same_tests [] t = tt
  same_tests (r ∷ rs) t =
      let b = both (told c r.sides) (all_told c rs) t in (holds-alone (view d) c bits r.sides b.0, same_tests rs b.1)

  pub cycle-says : (rs : List Row) → all_told c rs ≡ true → {v : Verdict} → run (λ k. test_alone c k.row) none (map (in_cycle 0) rs) ≡ v
      → run (met view) none (map (in_cycle d) rs) ≡ further d v
  cycle-says rs t e =
      run-same (met view) (λ k. test_alone c k.row) (map (in_cycle d) rs) none (same_tests rs t)
      ∙ run-further (test_alone c) rs d none ∙ ap (further d) e
