-- The determining rows are solved in turn, and their solution is the one that makes them hold.
-- Assumes nothing.
use Rattle.std.specs.Prelude.{◌≡◌, refl, Bool, true, false, List, [], ℕ, zero, suc, ◌+◌, ◌≤◌, ◌<◌, length}
use Rattle.std.proofs.Common.{ap, subst, ◌∙◌, ⊎_elim, eq-or-lt_of_le, arith}
use Rattle.std.proofs.lemmas.Bool.{false≢true}
use Rattle.base.specs.Lists.{joined, All, from, from_each}
use Rattle.layout.specs.Columns.{ONE-COL}
use Rattle.step.specs.Derived.{derived}
use Rattle.step.specs.Solve.{Holds}
use Rattle.step.specs.Determining.{before_halt, determining, after_halt, filled_bits}
use Rattle.step.proofs.Laws.Derived.{one-given}
use Rattle.step.proofs.Laws.Solvable.{known, in_turn, solved_for}
use Rattle.step.proofs.Laws.Unique.{solve-keeps, solve-holds, solve-only}

-- one for each derived column
pub determining-count : length determining ≡ 419
unfolding determining before_halt after_halt from from_each joined
determining-count = refl

-- ---- the two computed tests

in-turn : in_turn [] determining ≡ true
unfolding derived determining before_halt after_halt from from_each joined
in-turn = refl

-- every column from c on, k of them, is known: the list is computed once
all_known : ℕ → ℕ → List ℕ → Bool
all_known zero c seen = true
all_known (suc k) c seen = elim (known seen c) [ true ↦ all_known k (suc c) seen | false ↦ false ]

covers : all_known 2048 0 (solved_for [] determining) ≡ true
unfolding all_known derived determining before_halt after_halt from from_each joined
covers = refl

known_at : (k c : ℕ) (seen : List ℕ) → all_known k c seen ≡ true → (x : ℕ) → c ≤ x → x < c + k → known seen x ≡ true
unfolding all_known
known_at zero c seen t x l m = absurd (omega arith)
known_at (suc k) c seen t x l m =
    let p = split (known seen c) (all_known k (suc c) seen) t in
    ⊎_elim (λ e. subst (λ (n : ℕ). known seen n ≡ true) e p.0) (λ h. known_at k (suc c) seen p.1 x h (omega arith)) (eq-or-lt_of_le l)
  where
    split : (b r : Bool) → elim b [ true ↦ r | false ↦ false ] ≡ true → (b ≡ true) × (r ≡ true)
    split true r t = (refl, t)
    split false r t = absurd (false≢true t)

-- what is known before any row is given
pub known-given : (c : ℕ) → known [] c ≡ true → derived c ≡ false
known-given c = go (derived c)
  where
    go : (d : Bool) → elim d [ true ↦ false | false ↦ true ] ≡ true → d ≡ false
    go true k = absurd (false≢true k)
    go false k = refl

-- ---- of one cycle whose one column is 1: the filling meets the determining rows, and no other does

module _ (b : ℕ → Bool) (one : b ONE-COL ≡ true) where
  pub filled-holds : All (Holds (filled_bits b)) determining
  filled-holds = solve-holds determining [] b in-turn one

  pub filled_keeps : (c : ℕ) → derived c ≡ false → filled_bits b c ≡ b c
  filled_keeps c e = solve-keeps determining [] b in-turn c (ap (λ (d : Bool). elim d [ true ↦ false | false ↦ true ]) e)

  pub filled-only : (y : ℕ → Bool) → ((c : ℕ) → derived c ≡ false → y c ≡ b c) → All (Holds y) determining → (c : ℕ) → c < 2048 → y c
      ≡ filled_bits b c
  filled-only y g h c l =
      solve-only determining [] y b in-turn (g ONE-COL one-given ∙ one) h (λ d k. g d (known-given d k)) c
      (known_at 2048 0 (solved_for [] determining) covers c (omega arith) l)
