-- The verdict on a merged batch is the joined verdict of its parts; so it is accepted exactly when both are, and a failure is the earlier of
-- the two.
-- Assumes nothing.
use Rattle.std.specs.Prelude.{◌≡◌, refl, ◌↔◌, Bool, true, List, map, ℕ, ◌+◌, ◌*◌, ◌^◌, ◌<◌, length, get_or, Err, Ok}
use Rattle.std.proofs.Common.{sym, ap₂, ◌∙◌, arith}
use Rattle.std.proofs.Math.Path.{ap}
use Rattle.std.proofs.lemmas.Bool.{false≢true}
use Rattle.base.specs.Lists.{All}
use Rattle.base.specs.Laws.Lists.{all-every}
use Rattle.field.specs.declared.Gf128.{Gf128}
use Rattle.layout.specs.Batch.{allowed, batch_words}
use Rattle.circuit.specs.declared.Relation.{Relation}
use Rattle.circuit.specs.declared.Relation.TheVariants.{Bin, Fld}
use Rattle.circuit.specs.Rows.{Row, Sides, of_relation}
use Rattle.circuit.specs.Batched.{batch_row}
use Rattle.circuit.specs.Found.{rows_a_cycle}
use Rattle.circuit.specs.Parse.{rows_of}
use Rattle.circuit.specs.Valid.{validated}
use Rattle.verdict.specs.declared.Counts.{Counts}
use Rattle.verdict.specs.declared.Verdict.{Verdict}
use Rattle.verdict.specs.declared.Verdict.TheVariants.{Accepted, Failed}
use Rattle.verdict.specs.Row.{holds}
use Rattle.verdict.specs.Counts.{counts, none}
use Rattle.verdict.specs.Check.{Constraint, in_cycle, in_cycles, constraints, run, judged}
use Rattle.verdict.specs.Counted.{in_relation, tested_in}
use Rattle.verdict.specs.Named.{named_by}
use Rattle.verdict.specs.Laws.Counts.{none-plus, of_one}
use Rattle.verdict.proofs.Laws.Counted.{Walked, whole, ended, relation-walked, in_all, all, test}
use Rattle.verdict.specs.Laws.Named.{holds-depends}
use Rattle.verdict.specs.Laws.Run.{onward, run-onward, run-same, later, run-from}
use Rattle.verdict.specs.Laws.Shown.{failed-names}
use Rattle.verdict.specs.Laws.Verdicts.{in-cycles}
use Rattle.step.specs.Demand3.{accepts}
use Rattle.merge.specs.Merged.{merged}
use Rattle.merge.specs.Joined.{joined, joined_answer, at, failure_of, moved, earlier}
use Rattle.merge.specs.Laws.Columns.{SamePublic, seen_first, seen-second}
use Rattle.merge.specs.Laws.Walk.{move_by, moved_by, twice-cycles, run_moved}
use Rattle.layout.specs.Questions.{Answer}

-- ---- what is said of two verdicts

-- how a walk over one relation ends: all passed, or a row failed with so many tested
data Ending : Type 0 where
  passed : Ending
  failed : ℕ → ℕ → Ending

-- with all of them counted where all passed
abbrev said : Relation → ℕ → Ending → Verdict
said rel n passed = Accepted (of_one rel n)
said rel n (failed row m) = Failed rel row (of_one rel m)

-- one walk and then another
abbrev then : Verdict → Verdict → Verdict
then v w = onward v (λ m. later m w)

-- bin of both batches and then fld of both is the joined verdict of each batch's bin and then fld
all-endings : (cpi b f : ℕ) (x x₂ y y₂ : Ending)
    → then (then (said Bin b x) (moved_by cpi (said Bin b x₂))) (then (said Fld f y) (moved_by cpi (said Fld f y₂)))
    ≡ joined cpi (then (said Bin b x) (said Fld f y)) (then (said Bin b x₂) (said Fld f y₂))
all-endings cpi b f (failed r n) x₂ y y₂ = refl
all-endings cpi b f passed (failed r n) passed y₂ = ap (Failed Bin (512 * cpi + r)) (ap₂ counts (omega arith) (omega arith))
all-endings cpi b f passed (failed r n) (failed s m) y₂ = ap (Failed Bin (512 * cpi + r)) (ap₂ counts (omega arith) (omega arith))
all-endings cpi b f passed passed passed passed = ap Accepted (ap₂ counts (omega arith) (omega arith))
all-endings cpi b f passed passed passed (failed r n) = ap (Failed Fld (32 * cpi + r)) (ap₂ counts (omega arith) (omega arith))
all-endings cpi b f passed passed (failed r n) passed = ap (Failed Fld r) (ap₂ counts (omega arith) (omega arith))
all-endings cpi b f passed passed (failed r n) (failed s m) = ap (Failed Fld r) (ap₂ counts (omega arith) (omega arith))

later-none : (v : Verdict) → later none v ≡ v
later-none (Accepted n) = ap Accepted (none-plus n)
later-none (Failed rel row n) = ap (Failed rel row) (none-plus n)

-- ---- one batch: how its walk over a relation ends; bin, and then fld

module _ (cpi : ℕ) (listing batch : List ℕ) where
  ending : (rel : Relation) → (e : Ending) × (run (test cpi listing batch) none (in_relation cpi listing rel) ≡ said rel (all cpi listing batch rel) e)
  ending rel = by-walk (relation-walked cpi listing batch rel none)
    where
      by-walk : Walked (test cpi listing batch) rel none (in_relation cpi listing rel)
          → (e : Ending) × (run (test cpi listing batch) none (in_relation cpi listing rel) ≡ said rel (all cpi listing batch rel) e)
      by-walk (whole p q) = (passed, p ∙ ap Accepted (none-plus _ ∙ in_all cpi listing batch rel))
      by-walk (ended row p) = (failed row (tested_in cpi batch (in_relation cpi listing rel)), p ∙ ap (Failed rel row) (none-plus _))

  bin-then-fld : judged cpi listing batch
      ≡ then (run (test cpi listing batch) none (in_relation cpi listing Bin)) (run (test cpi listing batch) none (in_relation cpi listing Fld))
  unfolding judged constraints
  bin-then-fld =
      run-onward (test cpi listing batch) (in_relation cpi listing Bin) (in_relation cpi listing Fld) none
      ∙ ap (onward (run (test cpi listing batch) none (in_relation cpi listing Bin)))
      (λ i. λ m. run-from (test cpi listing batch) (in_relation cpi listing Fld) m i)

-- ---- the merged batch

holds_same : (z y : ℕ → Gf128) → ((c : ℕ) → z c ≡ y c) → (s : Sides) → holds z s ≡ holds y s
holds_same z y h s = holds-depends z y s (all-every (λ c. z c ≡ y c) h (named_by s))

module _ (cpi : ℕ) (first second : List ℕ) (len : length first ≡ batch_words cpi) (long : length second ≡ batch_words cpi)
    (same : SamePublic cpi first second) (listing : List ℕ) where
  abbrev batch : List ℕ
  batch = merged cpi first second

  abbrev test_m : Constraint → Bool
  test_m = test (2 * cpi) listing batch

  abbrev test₁ : Constraint → Bool
  test₁ = test cpi listing first

  abbrev test₂ : Constraint → Bool
  test₂ = test cpi listing second

  agree-first : (rs : List Row) → All (λ k. test_m k ≡ test₁ k) (in_cycles 0 cpi rs)
  agree-first rs =
      (in-cycles (λ k. test_m k ≡ test₁ k) rs cpi 0).1
      (λ e l u. all-every (λ r. test_m (in_cycle e r) ≡ test₁ (in_cycle e r))
      (λ r. holds_same _ _ (seen_first cpi first second len e (omega arith)) r.sides) rs)

  agree-second : (rs : List Row) → All (λ k. test_m (move_by cpi k) ≡ test₂ k) (in_cycles 0 cpi rs)
  agree-second rs =
      (in-cycles (λ k. test_m (move_by cpi k) ≡ test₂ k) rs cpi 0).1
      (λ e l u. all-every (λ r. test_m (move_by cpi (in_cycle e r)) ≡ test₂ (in_cycle e r))
      (λ r. holds_same _ _ (seen-second cpi first second len long same e (omega arith)) r.sides) rs)

  -- one relation: the first's walk, and then the second's some cycles on
  both-walks : (rs : List Row)
      → run test_m none (in_cycles 0 (2 * cpi) rs) ≡ then (run test₁ none (in_cycles 0 cpi rs)) (moved_by cpi (run test₂ none (in_cycles 0 cpi rs)))
  both-walks rs =
      let ks = in_cycles 0 cpi rs in
      ap (run test_m none) (twice-cycles rs cpi) ∙ run-onward test_m ks (map (move_by cpi) ks) none
      ∙ ap₂ onward (run-same test_m test₁ ks none (agree-first rs))
      (λ i. λ m. (run-from test_m (map (move_by cpi) ks) m ∙ ap (later m) (run_moved test_m test₂ cpi ks none (agree-second rs))) i)

  pub merged-verdict : judged (2 * cpi) listing batch ≡ joined cpi (judged cpi listing first) (judged cpi listing second)
  merged-verdict =
      let x = ending cpi listing first Bin in let x₂ = ending cpi listing second Bin in
      let y = ending cpi listing first Fld in let y₂ = ending cpi listing second Fld in
      bin-then-fld (2 * cpi) listing batch ∙ ap₂ then (both-walks (of_relation Bin (rows_of listing))) (both-walks (of_relation Fld (rows_of listing)))
      ∙ ap₂ then (ap₂ (λ (v w : Verdict). then v (moved_by cpi w)) x.1 x₂.1) (ap₂ (λ (v w : Verdict). then v (moved_by cpi w)) y.1 y₂.1)
      ∙ all-endings cpi (all cpi listing first Bin) (all cpi listing first Fld) x.0 x₂.0 y.0 y₂.0
      ∙ sym
      (ap₂ (joined cpi) (bin-then-fld cpi listing first ∙ ap₂ then x.1 y.1)
      (bin-then-fld cpi listing second ∙ ap₂ then x₂.1 y₂.1))

-- ---- what the joined verdict says

pub joined-failure : (cpi : ℕ) (v w : Verdict) → failure_of (joined cpi v w) ≡ earlier (failure_of v) (moved cpi (failure_of w))
joined-failure cpi (Accepted n) (Accepted m) = refl
joined-failure cpi (Accepted n) (Failed Bin row m) = refl
joined-failure cpi (Accepted n) (Failed Fld row m) = refl
joined-failure cpi (Failed Bin row n) w = refl
joined-failure cpi (Failed Fld row n) (Accepted m) = refl
joined-failure cpi (Failed Fld row n) (Failed Bin row₂ m) = refl
joined-failure cpi (Failed Fld row n) (Failed Fld row₂ m) = refl

pub joined-accepts : (cpi : ℕ) (a b : Answer Verdict) → (accepts (joined_answer cpi a b) ≡ true) ↔ ((accepts a ≡ true) × (accepts b ≡ true))
joined-accepts cpi (Err r) b = (λ e. absurd (false≢true e), λ h. h.0)
joined-accepts cpi (Ok (Accepted n)) (Err r) = (λ e. absurd (false≢true e), λ h. h.1)
joined-accepts cpi (Ok (Accepted n)) (Ok (Accepted m)) = (λ e. (refl, refl), λ h. refl)
joined-accepts cpi (Ok (Accepted n)) (Ok (Failed Bin row m)) = (λ e. absurd (false≢true e), λ h. h.1)
joined-accepts cpi (Ok (Accepted n)) (Ok (Failed Fld row m)) = (λ e. absurd (false≢true e), λ h. h.1)
joined-accepts cpi (Ok (Failed rel row n)) (Err r) = (λ e. absurd (false≢true e), λ h. h.0)
joined-accepts cpi (Ok (Failed Bin row n)) (Ok w) = (λ e. absurd (false≢true e), λ h. h.0)
joined-accepts cpi (Ok (Failed Fld row n)) (Ok (Accepted m)) = (λ e. absurd (false≢true e), λ h. h.0)
joined-accepts cpi (Ok (Failed Fld row n)) (Ok (Failed Bin row₂ m)) = (λ e. absurd (false≢true e), λ h. h.0)
joined-accepts cpi (Ok (Failed Fld row n)) (Ok (Failed Fld row₂ m)) = (λ e. absurd (false≢true e), λ h. h.0)

-- ---- by the numbers of the rows

failed_row : (v : Verdict) {rel : Relation} {row : ℕ} → failure_of v ≡ at rel row → (n : Counts) × (v ≡ Failed rel row n)
failed_row (Accepted n) e = let z : ◌≡◌ {A = ℕ} 0 1 = cc in absurd (omega arith)
failed_row (Failed rel row n) e = (n, cc)

pub rows_apart : (cpi : ℕ) (first listing : List ℕ) → allowed cpi ≡ true → ((i : ℕ) → get_or listing i 0 < 2 ^ 32) → validated listing ≡ Ok tt
    → (rel : Relation) (row row₂ : ℕ) → failure_of (judged cpi listing first) ≡ at rel row → row < batch_row rel cpi row₂
rows_apart cpi first listing size fit valid rel row row₂ e =
    let f = failed_row (judged cpi listing first) e in let n = failed-names cpi listing first size fit valid f.1 in
    by-relation rel n.in-batch n.in-relation n.batch-row
  where
    by-relation : (rel : Relation) {d r : ℕ} → d < cpi → r < rows_a_cycle rel → row ≡ batch_row rel d r → row < batch_row rel cpi row₂
    by-relation Bin l m q = omega arith
    by-relation Fld l m q = omega arith
