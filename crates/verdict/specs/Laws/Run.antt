-- The walk over constraints, for any test: it accepts where all are met; a failure names the first constraint that is not met, and
-- counts those before it and itself, each in its relation; it can be cut anywhere.
-- Assumes nothing.
use Rattle.std.specs.Prelude.{◌≡◌, Bool, true, false, cond, ℕ}
use Rattle.std.proofs.Math.Path.{refl, sym, ap}
use Rattle.std.proofs.Common.{ap₂, ◌∙◌, arith}
use mathlib.Core.List.{List, [], ◌∷◌, ◌++◌}
use Rattle.base.specs.Lists.{All}
use Rattle.base.specs.Laws.Tests.{passed}
use Rattle.circuit.specs.declared.Relation.{Relation}
use Rattle.verdict.specs.declared.Counts.{Counts}
use Rattle.verdict.specs.declared.Verdict.{Verdict}
use Rattle.verdict.specs.declared.Verdict.TheVariants.{Accepted, Failed}
use Rattle.verdict.specs.Counts.{none, counted}
use Rattle.verdict.specs.Check.{Constraint, failed_at, run}
use Rattle.verdict.specs.Laws.Counts.{plus, plus_none, counted-plus, counted-first, tally}

module _ (test : Constraint → Bool) where
  abbrev pub Met : List Constraint → Type 0
  Met ks = All (λ k. test k ≡ true) ks

  -- from any point on: what was met before counts, and decides nothing else
  pub run_past : (xs ys : List Constraint) (n : Counts) → Met xs → run test n (xs ++ ys) ≡ run test (plus n (tally xs)) ys
  unfolding run tally
  run_past [] ys n p = ap (λ (m : Counts). run test m ys) (sym (plus_none n))
  run_past (x ∷ xs) ys n p =
      sym (passed (test x) _ _ p.0) ∙ run_past xs ys (counted x.row.relation n) p.1
      ∙ ap (λ (m : Counts). run test m ys) (counted-first x.row.relation n (tally xs))

  pub run-met : (ks : List Constraint) (n : Counts) → Met ks → run test n ks ≡ Accepted (plus n (tally ks))
  unfolding run tally
  run-met [] n p = ap Accepted (sym (plus_none n))
  run-met (k ∷ ks) n p =
      sym (passed (test k) _ _ p.0) ∙ run-met ks (counted k.row.relation n) p.1
      ∙ ap Accepted (counted-first k.row.relation n (tally ks))

  -- a failure: what was met before it, the constraint, and what it says
  pub record FailedAt (n : Counts) (ks : List Constraint) (v : Verdict) : Type 0 where
    pub earlier : List Constraint
    pub first : Constraint
    pub later : List Constraint
    pub order : ks ≡ earlier ++ (first ∷ later)
    pub held : Met earlier
    pub fails : test first ≡ false
    pub says : v ≡ failed_at first (counted first.row.relation (plus n (tally earlier)))

  -- every verdict is one or the other
  pub data Outcome (n : Counts) (ks : List Constraint) (v : Verdict) : Type 0 where
    all-met : Met ks → v ≡ Accepted (plus n (tally ks)) → Outcome n ks v
    one-fails : FailedAt n ks v → Outcome n ks v

  pub outcome : (ks : List Constraint) (n : Counts) → Outcome n ks (run test n ks)
  unfolding run tally
  outcome [] n = all-met tt (ap Accepted (sym (plus_none n)))
  outcome (k ∷ ks) n = by-test (test k) refl (outcome ks next)
    where
      next : Counts
      next = counted k.row.relation n

      go : test k ≡ true → Outcome next ks (run test next ks) → Outcome n (k ∷ ks) (run test next ks)
      go e (all-met p q) = all-met (e, p) (q ∙ ap Accepted (counted-first k.row.relation n (tally ks)))
      go e (one-fails f) =
          one-fails
          (record {
            earlier = k ∷ f.earlier;
            first = f.first;
            later = f.later;
            order = ap (λ ls. k ∷ ls) f.order;
            held = (e, f.held);
            fails = f.fails;
            says = f.says
                ∙ ap (λ (m : Counts). failed_at f.first (counted f.first.row.relation m))
                (counted-first k.row.relation n (tally f.earlier));
          })

      by-test : (b : Bool) → test k ≡ b → Outcome next ks (run test next ks) → Outcome n (k ∷ ks) (cond b (run test next ks) (failed_at k next))
      by-test true e o = go e o
      by-test false e o =
          one-fails
          (record {
            earlier = [];
            first = k;
            later = ks;
            order = refl;
            held = tt;
            fails = e;
            says = ap (λ (m : Counts). failed_at k (counted k.row.relation m)) (sym (plus_none n));
          })

  pub met-run : (ks : List Constraint) (n m : Counts) → run test n ks ≡ Accepted m → Met ks
  met-run ks n m e = go (outcome ks n)
    where
      go : Outcome n ks (run test n ks) → Met ks
      go (all-met p q) = p
      go (one-fails f) = let s = f.says in let z : ◌≡◌ {A = ℕ} 0 1 = cc in absurd (omega arith)

-- a failure is not undone by what follows it
pub run-stops : (test : Constraint → Bool) (xs ys : List Constraint) (n : Counts) {rel : Relation} {row : ℕ} {m : Counts}
    → run test n xs ≡ Failed rel row m → run test n (xs ++ ys) ≡ Failed rel row m
unfolding run
run-stops test [] ys n e = let z : ◌≡◌ {A = ℕ} 0 1 = cc in absurd (omega arith)
run-stops test (x ∷ xs) ys n {rel} {row} {m} e = by-test (test x) (run-stops test xs ys next) e
  where
    next : Counts
    next = counted x.row.relation n

    by-test : (b : Bool) → (run test next xs ≡ Failed rel row m → run test next (xs ++ ys) ≡ Failed rel row m)
        → cond b (run test next xs) (failed_at x next) ≡ Failed rel row m → cond b (run test next (xs ++ ys)) (failed_at x next) ≡ Failed rel row m
    by-test true later e = later e
    by-test false later e = e

-- where a walk has passed the next goes on, with what was counted; a failure ends both
abbrev pub onward : Verdict → (Counts → Verdict) → Verdict
onward (Accepted n) next = next n
onward (Failed rel row n) next = Failed rel row n

pub run-onward : (test : Constraint → Bool) (xs ys : List Constraint) (n : Counts)
    → run test n (xs ++ ys) ≡ onward (run test n xs) (λ m. run test m ys)
unfolding run
run-onward test [] ys n = refl
run-onward test (x ∷ xs) ys n = by-test (test x) (run-onward test xs ys next)
  where
    next : Counts
    next = counted x.row.relation n

    by-test : (b : Bool) → run test next (xs ++ ys) ≡ onward (run test next xs) (λ m. run test m ys)
        → cond b (run test next (xs ++ ys)) (failed_at x next) ≡ onward (cond b (run test next xs) (failed_at x next)) (λ m. run test m ys)
    by-test true e = e
    by-test false e = refl

-- tests that agree give one verdict
pub run-same : (f g : Constraint → Bool) (ks : List Constraint) (n : Counts) → All (λ k. f k ≡ g k) ks → run f n ks ≡ run g n ks
unfolding run
run-same f g [] n p = refl
run-same f g (k ∷ ks) n p =
    let next = counted k.row.relation n in
    ap₂ (λ (b : Bool) (v : Verdict). cond b v (failed_at k next)) p.0 (run-same f g ks next p.1)

-- what was tested before counts, and changes nothing else
abbrev pub later : Counts → Verdict → Verdict
later n (Accepted m) = Accepted (plus n m)
later n (Failed rel row m) = Failed rel row (plus n m)

pub run-later : (test : Constraint → Bool) (ks : List Constraint) (n m : Counts) → run test (plus n m) ks ≡ later n (run test m ks)
unfolding run
run-later test [] n m = refl
run-later test (k ∷ ks) n m =
    ap (λ (i : Counts). cond (test k) (run test i ks) (failed_at k i)) (counted-plus k.row.relation n m)
    ∙ by-test (test k) (run-later test ks n next)
  where
    next : Counts
    next = counted k.row.relation m

    by-test : (b : Bool) → run test (plus n next) ks ≡ later n (run test next ks)
        → cond b (run test (plus n next) ks) (failed_at k (plus n next)) ≡ later n (cond b (run test next ks) (failed_at k next))
    by-test true e = e
    by-test false e = refl

pub run-from : (test : Constraint → Bool) (ks : List Constraint) (n : Counts) → run test n ks ≡ later n (run test none ks)
run-from test ks n = ap (λ (i : Counts). run test i ks) (sym (plus_none n)) ∙ run-later test ks n none
