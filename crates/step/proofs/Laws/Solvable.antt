-- When a row can be solved for a column, as a test that computes, and what a row that passes it says of its target.
-- Assumes nothing.
use Rattle.std.specs.Prelude.{◌≡◌, refl, Bool, true, false, not, ◌&&◌, cond, List, [], ◌∷◌, ℕ, eqb}
use Rattle.std.proofs.Common.{ap, ap₂, ◌∙◌, eqb-true, eq-eqb}
use Rattle.std.proofs.lemmas.Bool.{false≢true}
use Rattle.base.specs.Bits.{◌⊻◌}
use Rattle.base.specs.Laws.Tests.{both}
use Rattle.base.specs.Laws.Cases.{of_three, of_four, of-five}
use Rattle.layout.specs.Columns.{ONE-COL}
use Rattle.circuit.specs.Rows.{Term, Sides}
use Rattle.verdict.specs.OverBits.{is_one, sum_bits}
use Rattle.step.specs.Derived.{derived}
use Rattle.step.specs.Solve.{lacks, target, set_bit}

-- ---- the tests

abbrev pub elem : ℕ → List ℕ → Bool
elem c [] = false
elem c (x ∷ xs) = elim (eqb c x) [ true ↦ true | false ↦ elem c xs ]

-- how often a column stands in a side, modulo 2
abbrev pub parity : ℕ → List Term → Bool
parity t [] = false
parity t (x ∷ xs) = (is_one x.coefficient && eqb x.column t) ⊻ parity t xs

-- a column is known that is given, or was solved for
abbrev pub known : List ℕ → ℕ → Bool
known seen c = elim (derived c) [ true ↦ elem c seen | false ↦ true ]

abbrev pub reads : List ℕ → List Term → Bool
reads seen [] = true
reads seen (x ∷ xs) = known seen x.column && reads seen xs

abbrev pub is_unit : List Term → Bool
is_unit [] = false
is_unit (x ∷ []) = is_one x.coefficient && eqb x.column ONE-COL
is_unit (x ∷ (y ∷ ys)) = false

-- linear in its target: it stands once, in C, or in A where B is the one column
abbrev pub linear_in : ℕ → Sides → Bool
linear_in t s = not (parity t s.b) && cond (parity t s.a) (not (parity t s.c) && is_unit s.b) (parity t s.c)

abbrev pub reads_row : List ℕ → Sides → Bool
reads_row seen s = reads seen s.a && (reads seen s.b && reads seen s.c)

abbrev pub solvable : List ℕ → Sides → Bool
solvable seen s = linear_in (target s) s && (not (known seen (target s)) && reads_row (target s ∷ seen) s)

abbrev pub in_turn : List ℕ → List Sides → Bool
in_turn seen [] = true
in_turn seen (s ∷ ss) = solvable seen s && in_turn (target s ∷ seen) ss

abbrev pub solved_for : List ℕ → List Sides → List ℕ
solved_for seen [] = seen
solved_for seen (s ∷ ss) = solved_for (target s ∷ seen) ss

-- ---- one column changed

pub set_same : (b : ℕ → Bool) (t : ℕ) (v : Bool) → set_bit b t v t ≡ v
set_same b t v = ap (λ (e : Bool). cond e v (b t)) (eq-eqb t t refl)

pub set_other : (b : ℕ → Bool) (t : ℕ) (v : Bool) (c : ℕ) → eqb c t ≡ false → set_bit b t v c ≡ b c
set_other b t v c e = ap (λ (x : Bool). cond x v (b c)) e

-- by whether two columns are one
pub by-column : {X : Type 0} (c t : ℕ) → (c ≡ t → X) → (eqb c t ≡ false → X) → X
by-column {X} c t f g = go (eqb c t) refl
  where
    go : (e : Bool) → eqb c t ≡ e → X
    go true e = f (eqb-true c t e)
    go false e = g e

-- ---- a row says what its target is

head : (l e v w : Bool) → (l && cond e v w) ≡ ((l && e) && v) ⊻ (l && cond e false w)
head = of_four _ _ refl

join : (o p v x y : Bool) → (((o && v) ⊻ x) ⊻ ((p && v) ⊻ y)) ≡ ((o ⊻ p) && v) ⊻ (x ⊻ y)
join = of-five _ _ refl

linear : (ts : List Term) (b : ℕ → Bool) (t : ℕ) (v : Bool) → sum_bits (set_bit b t v) ts ≡ (parity t ts && v) ⊻ sum_bits (set_bit b t false) ts
unfolding sum_bits
linear [] b t v = refl
linear (x ∷ xs) b t v =
    ap₂ ◌⊻◌ (head (is_one x.coefficient) (eqb x.column t) v (b x.column)) (linear xs b t v)
    ∙ join (is_one x.coefficient && eqb x.column t) (parity t xs) v
    (is_one x.coefficient && set_bit b t false x.column) (sum_bits (set_bit b t false) xs)

in_c : (a b c v : Bool) → ((a && b) ⊻ (v ⊻ c)) ≡ v ⊻ ((a && b) ⊻ c)
in_c = of_four _ _ refl

in-a : (a c v : Bool) → (((v ⊻ a) && true) ⊻ c) ≡ v ⊻ ((a && true) ⊻ c)
in-a = of_three _ _ refl

alone : (pa pb pc u a b c v : Bool) → (not pb && cond pa (not pc && u) pc) ≡ true → (u ≡ true → b ≡ true)
    → ((((pa && v) ⊻ a) && ((pb && v) ⊻ b)) ⊻ ((pc && v) ⊻ c)) ≡ v ⊻ ((a && b) ⊻ c)
alone pa true pc u a b c v t k = absurd (false≢true t)
alone false false false u a b c v t k = absurd (false≢true t)
alone false false true u a b c v t k = in_c a b c v
alone true false true u a b c v t k = absurd (false≢true t)
alone true false false u a b c v t k = rw (k t) (in-a a c v)

unit-true : (ts : List Term) (b : ℕ → Bool) → is_unit ts ≡ true → b ONE-COL ≡ true → sum_bits b ts ≡ true
unfolding sum_bits
unit-true [] b t e = absurd (false≢true t)
unit-true (x ∷ []) b t e =
    let p = both (is_one x.coefficient) (eqb x.column ONE-COL) t in
    ap₂ (λ (l w : Bool). (l && w) ⊻ false) p.0 (ap b (eqb-true x.column ONE-COL p.1) ∙ e)
unit-true (x ∷ (y ∷ ys)) b t e = absurd (false≢true t)

pub solved : (t : ℕ) (s : Sides) (b : ℕ → Bool) (v : Bool) → linear_in t s ≡ true → set_bit b t false ONE-COL ≡ true
    → lacks (set_bit b t v) s ≡ v ⊻ lacks (set_bit b t false) s
unfolding lacks
solved t s b v l e =
    ap₂ ◌⊻◌ (ap₂ ◌&&◌ (linear s.a b t v) (linear s.b b t v)) (linear s.c b t v)
    ∙ alone (parity t s.a) (parity t s.b) (parity t s.c) (is_unit s.b) _ _ _ v l (λ o. unit-true s.b _ o e)

-- ---- a row's outcome depends on what it reads

abbrev pub Known : List ℕ → ℕ → Type 0
Known seen c = known seen c ≡ true

same_sum : (seen : List ℕ) (ts : List Term) (y z : ℕ → Bool) → reads seen ts ≡ true → ((c : ℕ) → Known seen c → y c ≡ z c)
    → sum_bits y ts ≡ sum_bits z ts
unfolding sum_bits
same_sum seen [] y z k h = refl
same_sum seen (x ∷ xs) y z k h =
    let p = both (known seen x.column) (reads seen xs) k in
    ap₂ (λ (w v : Bool). (is_one x.coefficient && w) ⊻ v) (h x.column p.0) (same_sum seen xs y z p.1 h)

pub same-lacks : (seen : List ℕ) (s : Sides) (y z : ℕ → Bool) → reads_row seen s ≡ true → ((c : ℕ) → Known seen c → y c ≡ z c)
    → lacks y s ≡ lacks z s
unfolding lacks
same-lacks seen s y z k h =
    let p = both (reads seen s.a) (reads seen s.b && reads seen s.c) k in
    let q = both (reads seen s.b) (reads seen s.c) p.1 in
    ap₂ ◌⊻◌ (ap₂ ◌&&◌ (same_sum seen s.a y z p.0 h) (same_sum seen s.b y z q.0 h)) (same_sum seen s.c y z q.1 h)
