-- The one solution of any rows: where each row in turn can be solved for one new column, `solve` meets the rows, and nothing else does.
-- Assumes nothing.
use Rattle.std.specs.Prelude.{◌≡◌, refl, Bool, true, false, not, ◌&&◌, List, [], ◌∷◌, ℕ, eqb}
use Rattle.std.proofs.Common.{sym, ap, ◌∙◌, true≢false}
use Rattle.std.proofs.lemmas.Bool.{false≢true, not-true}
use Rattle.base.specs.Lists.{All}
use Rattle.base.specs.Laws.Tests.{both}
use Rattle.base.specs.Laws.Cases.{xor-cancel, xor_self}
use Rattle.layout.specs.Columns.{ONE-COL}
use Rattle.circuit.specs.Rows.{Sides}
use Rattle.step.specs.Derived.{derived}
use Rattle.step.specs.Solve.{Holds, target, set_bit, solution, solve}
use Rattle.step.proofs.Laws.Derived.{one-given}
use Rattle.step.proofs.Laws.Solvable.{elem, known, linear_in, reads_row, solvable, in_turn, solved_for, Known, set_same, set_other, by-column, solved, same-lacks}

-- ---- what is known before a row, and after it

known-one : (seen : List ℕ) → Known seen ONE-COL
known-one seen = ap (λ (d : Bool). elim d [ true ↦ elem ONE-COL seen | false ↦ true ]) one-given

known_more : (seen : List ℕ) (t c : ℕ) → Known seen c → Known (t ∷ seen) c
known_more seen t c = more (derived c) (eqb c t) (elem c seen)
  where
    more : (d e m : Bool) → elim d [ true ↦ m | false ↦ true ] ≡ true
        → elim d [ true ↦ (elim e [ true ↦ true | false ↦ m ]) | false ↦ true ] ≡ true
    more true true m k = refl
    more true false m k = k
    more false e m k = refl

known-less : (seen : List ℕ) (t c : ℕ) → Known (t ∷ seen) c → eqb c t ≡ false → Known seen c
known-less seen t c = less (derived c) (eqb c t) (elem c seen)
  where
    less : (d e m : Bool) → elim d [ true ↦ (elim e [ true ↦ true | false ↦ m ]) | false ↦ true ] ≡ true → e ≡ false
        → elim d [ true ↦ m | false ↦ true ] ≡ true
    less true true m k q = absurd (true≢false q)
    less true false m k q = k
    less false e m k q = refl

-- ---- the rows in turn

module _ (seen : List ℕ) (s : Sides) (ss : List Sides) (k : in_turn seen (s ∷ ss) ≡ true) where
  abbrev t : ℕ
  t = target s

  this : solvable seen s ≡ true
  this = (both (solvable seen s) (in_turn (t ∷ seen) ss) k).0

  next : in_turn (t ∷ seen) ss ≡ true
  next = (both (solvable seen s) (in_turn (t ∷ seen) ss) k).1

  line : linear_in t s ≡ true
  line = (both (linear_in t s) (not (known seen t) && reads_row (t ∷ seen) s) this).0

  others : (not (known seen t) ≡ true) × (reads_row (t ∷ seen) s ≡ true)
  others = both (not (known seen t)) (reads_row (t ∷ seen) s) (both (linear_in t s) (not (known seen t) && reads_row (t ∷ seen) s) this).1

  fresh : (c : ℕ) → Known seen c → eqb c t ≡ false
  fresh c j = by-column c t (λ e. absurd (false≢true (sym (not-true (known seen t) others.0) ∙ ap (known seen) (sym e) ∙ j))) (λ e. e)

  one_kept : (b : ℕ → Bool) (v : Bool) → b ONE-COL ≡ true → set_bit b t v ONE-COL ≡ true
  one_kept b v e = set_other b t v ONE-COL (fresh ONE-COL (known-one seen)) ∙ e

-- what is known before the rows is left alone
pub solve-keeps : (ss : List Sides) (seen : List ℕ) (b : ℕ → Bool) → in_turn seen ss ≡ true → (c : ℕ) → Known seen c → solve ss b c ≡ b c
solve-keeps [] seen b k c j = refl
solve-keeps (s ∷ ss) seen b k c j =
    solve-keeps ss (target s ∷ seen) _ (next seen s ss k) c (known_more seen (target s) c j)
    ∙ set_other b (target s) _ c (fresh seen s ss k c j)

-- what is solved meets the rows
pub solve-holds : (ss : List Sides) (seen : List ℕ) (b : ℕ → Bool) → in_turn seen ss ≡ true → b ONE-COL ≡ true → All (Holds (solve ss b)) ss
solve-holds [] seen b k e = tt
solve-holds (s ∷ ss) seen b k e = (
  same-lacks (target s ∷ seen) s _ _ (others seen s ss k).1 (λ c j. solve-keeps ss (target s ∷ seen) _ (next seen s ss k) c j)
      ∙ solved (target s) s b _ (line seen s ss k) (one_kept seen s ss k b false e) ∙ xor_self (solution b s) (solution b s) refl,
  solve-holds ss (target s ∷ seen) _ (next seen s ss k) (one_kept seen s ss k b _ e),
)

-- and nothing else does
pub solve-only : (ss : List Sides) (seen : List ℕ) (y b : ℕ → Bool) → in_turn seen ss ≡ true → y ONE-COL ≡ true → All (Holds y) ss
    → ((c : ℕ) → Known seen c → y c ≡ b c) → (c : ℕ) → Known (solved_for seen ss) c → y c ≡ solve ss b c
solve-only [] seen y b k e h s = s
solve-only (r ∷ rs) seen y b k e h s =
    solve-only rs (t ∷ seen) y _ (next seen r rs k) e h.1
    (λ c j. by-column c t (λ q. ap y q ∙ at_target ∙ sym (ap (set_bit b t _) q ∙ set_same b t _))
    (λ q. s c (known-less seen t c j q) ∙ sym (set_other b t _ c q)))
  where
    t : ℕ
    t = target r

    agree : (c : ℕ) → Known (t ∷ seen) c → set_bit y t false c ≡ set_bit b t false c
    agree c j =
        by-column c t (λ q. ap (set_bit y t false) q ∙ set_same y t false ∙ sym (ap (set_bit b t false) q ∙ set_same b t false))
        (λ q. set_other y t false c q ∙ s c (known-less seen t c j q) ∙ sym (set_other b t false c q))

    itself : (c : ℕ) → Known (t ∷ seen) c → y c ≡ set_bit y t (y t) c
    itself c j = by-column c t (λ q. ap y q ∙ sym (ap (set_bit y t (y t)) q ∙ set_same y t (y t))) (λ q. sym (set_other y t (y t) c q))

    at_target : y t ≡ solution b r
    at_target =
        xor-cancel (y t) (solution y r)
        (sym (same-lacks (t ∷ seen) r y (set_bit y t (y t)) (others seen r rs k).1 itself
        ∙ solved t r y (y t) (line seen r rs k) (one_kept seen r rs k y false e)) ∙ h.0)
        ∙ same-lacks (t ∷ seen) r _ _ (others seen r rs k).1 agree
