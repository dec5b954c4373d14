-- How many columns are derived, where they stand, and how many a batch has.
-- Assumes nothing.
use Rattle.std.specs.Prelude.{◌≡◌, refl, Bool, true, false, ◌&&◌, leb, ltb}
use Rattle.std.proofs.Math.Path.{sym, ap}
use Rattle.std.proofs.Common.{ap₂, ◌∙◌, true≢false, zero-add, suc-add, add-suc, add-zero, zero-mul, mul-zero, mul_comm, suc-mul, ltb-true, ltb-false, ne_eqb}
use Rattle.std.proofs.Math.Bool.{and-false}
use Prim.Native.Nat.{ℕ, zero, suc, ◌+◌, ◌*◌, ◌/◌, ◌≤◌, ◌<◌}
use Rattle.std.proofs.Math.Nat.{add_comm, div-eq_of_lt-le}
use native.Mathlib.Omega.{arith}
use Rattle.std.proofs.lemmas.Bool.{lt-leb}
use Rattle.base.specs.Bits.{digit}
use Rattle.layout.specs.Columns.{ONE-COL}
use Rattle.step.specs.Derived.{Columns, derived, tally, within, derived_in}

pub columns : Columns
unfolding tally derived
columns = record { derived-columns = refl; given-columns = refl }

-- no column from 2048 on is derived
past : (first last c : ℕ) → last < c → within first last c ≡ false
past first last c l = ap (λ (k : Bool). leb first c && k) (lt-leb c last l) ∙ and-false (leb first c)

pub derived-past : (c : ℕ) → 2048 ≤ c → derived c ≡ false
unfolding derived
derived-past c l =
    cc (
      past 448 511 c (omega arith),
      past 576 767 c (omega arith),
      ne_eqb c 773 (omega arith),
      ne_eqb c 779 (omega arith),
      past 896 953 c (omega arith),
      past 1024 1126 c (omega arith),
    )

-- the one column is given
pub one-given : derived ONE-COL ≡ false
one-given = derived-past ONE-COL (omega arith)

pub derived-below : (c : ℕ) → derived c ≡ true → c < 2048
derived-below c e = go (ltb c 2048) refl
  where
    go : (k : Bool) → ltb c 2048 ≡ k → c < 2048
    go true p = ltb-true c 2048 p
    go false p = absurd (true≢false (sym e ∙ derived-past c (ltb-false c 2048 p)))

-- ---- a batch has 419 derived columns to a cycle

tally-add : (q : ℕ → Bool) (n m x : ℕ) → tally q (n + m) x ≡ tally q n x + tally q m (x + n)
unfolding tally
tally-add q zero m x = ap₂ (tally q) (zero-add m) (sym (add-zero x)) ∙ sym (zero-add _)
tally-add q (suc n) m x =
    ap (λ (k : ℕ). tally q k x) (suc-add n m) ∙ omega (arith, tally-add q n m (suc x), ap (tally q m) (suc-add x n ∙ sym (add-suc x n)))

tally-same : (q : ℕ → Bool) (k : Bool) (n x : ℕ) → ((i : ℕ) → x ≤ i → i < x + n → q i ≡ k) → tally q n x ≡ n * digit k
unfolding tally
tally-same q k zero x h = omega arith
tally-same q k (suc n) x h =
    omega (
      arith,
      ap (λ (b : Bool). digit b) (h x (omega arith) (omega arith)),
      tally-same q k n (suc x) (λ i l m. h i (omega arith) (omega arith)),
    )

module _ (cpi : ℕ) (some : 0 < cpi) where
  in-block : (c i : ℕ) → c * cpi ≤ i → i < c * cpi + cpi → i / cpi ≡ c
  in-block c i l m = div-eq_of_lt-le cpi l (omega arith)

  blocks : (m c : ℕ) → tally (derived_in cpi) (m * cpi) (c * cpi) ≡ cpi * tally derived m c
  unfolding tally
  blocks zero c = ap (λ (k : ℕ). tally (derived_in cpi) k (c * cpi)) (zero-mul cpi) ∙ sym (mul-zero cpi)
  blocks (suc m) c =
      ap (λ (k : ℕ). tally (derived_in cpi) k (c * cpi)) (suc-mul m cpi ∙ add_comm (m * cpi) cpi)
      ∙ omega (
        arith,
        tally-add (derived_in cpi) cpi (m * cpi) (c * cpi),
        tally-same (derived_in cpi) (derived c) cpi (c * cpi) (λ i l n. ap derived (in-block c i l n)),
        ap (tally (derived_in cpi) (m * cpi)) (sym (suc-mul c cpi)),
        blocks m (suc c),
      )

  pub derived-in-batch : tally (derived_in cpi) (2048 * cpi) 0 ≡ 419 * cpi
  derived-in-batch =
      ap (tally (derived_in cpi) (2048 * cpi)) (sym (zero-mul cpi)) ∙ blocks 2048 0 ∙ ap (◌*◌ cpi) columns.derived-columns
      ∙ mul_comm cpi 419
