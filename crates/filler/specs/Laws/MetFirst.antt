-- All tests are true exactly when the record of the conditions holds. The answer says that all are met exactly then, and the condition
-- that it names is the first that is not met.
-- Assumes nothing.
use Rattle.std.specs.Prelude.{◌≡◌, ℕ, zero, suc, ◌+◌, ◌-◌, ◌<◌, ◌≤◌, Bool, true, false, cond, not, ◌&&◌, ◌↔◌, List, [], ◌∷◌, length, get_or, nat_lt, slice_index_or, Err, None, Ok, Some, Option}
use Rattle.std.proofs.Math.Path.{refl, sym, ap}
use Rattle.std.proofs.Common.{ap₂, ◌∙◌, not-suc-le-zero, le_of_suc-le-suc}
use Rattle.std.proofs.Math.Logic.Iff.{trans as iff_trans}
use Rattle.std.proofs.Math.Bool.{true≢false}
use native.Mathlib.Omega.{arith}
use borrow.Author.Tests.{lt-ltb, ltb-true, ltb-false, not-true, not-false}
use Rattle.base.specs.Tests.{first_from}
use Rattle.base.specs.Laws.Tests.{passed, both, both_so}
use Rattle.base.specs.Laws.First.{first_passes, first-least, first-from}
use Rattle.field.specs.declared.Gf128.{Gf128}
use Rattle.layout.specs.Columns.{ONE-COL, IS-LOAD, IS-STORE}
use Rattle.layout.specs.Questions.{no, if_yes, Answer}
use Rattle.strict.specs.declared.Known.{Known}
use Rattle.strict.specs.declared.Known.TheVariants.{House, Strict}
use Rattle.verdict.specs.Row.{cycle_of, bits_of}
use Rattle.step.specs.Step.{Condition, Step}
use Rattle.step.specs.Strict.{widths, ConditionsOf}
use Rattle.step.specs.Fill.{fill_asked}
use Rattle.step.proofs.Laws.Strict.{not-clause}
use Rattle.step.proofs.Laws.Widths.{width-clauses}
use Rattle.filler.specs.Met.{words_of, flags_of, conditions, conditions_of, all_true, named, first_false, first_unmet, if_inside, step_answer}
use Rattle.filler.specs.Laws.MetEach as each
use Rattle.layout.specs.declared.questions.Question.TheVariants.{CycleRange}

-- ---- all of a list, and each

all-at : (ts : List Bool) → all_true ts ≡ true → (k : ℕ) → k < length ts → slice_index_or ts k false ≡ true
all-at [] e k l = absurd (not-suc-le-zero l)
all-at (t ∷ ts) e zero l = (both t (all_true ts) e).0
all-at (t ∷ ts) e (suc k) l = all-at ts (both t (all_true ts) e).1 k (le_of_suc-le-suc l)

at_all : (ts : List Bool) → ((k : ℕ) → k < length ts → slice_index_or ts k false ≡ true) → all_true ts ≡ true
at_all [] h = refl
at_all (t ∷ ts) h = ap₂ ◌&&◌ (h 0 (omega arith)) (at_all ts (λ k l. h (suc k) (omega arith)))

-- which number an answer names
none_named : (n : ℕ) → named n ≡ None → 10 < n
none_named n e = go (nat_lt n 11) refl e
  where
    go : (t : Bool) → nat_lt n 11 ≡ t → cond t (Some n) None ≡ None → 10 < n
    go true q f = let z : ◌≡◌ {A = ℕ} 0 1 = cc in absurd (omega arith)
    go false q f = ltb-false n 11 q

one-named : (n k : ℕ) → named n ≡ Some k → (n ≡ k) × (n ≤ 10)
one-named n k e = go (nat_lt n 11) refl e
  where
    go : (t : Bool) → nat_lt n 11 ≡ t → cond t (Some n) None ≡ Some k → (n ≡ k) × (n ≤ 10)
    go true q f = (cc, omega (arith, ltb-true n 11 q))
    go false q f = let z : ◌≡◌ {A = ℕ} 0 1 = cc in absurd (omega arith)

module _ (b : ℕ → Bool) (output : Gf128) where
  abbrev met : ℕ → Bool
  met k = each.met b output k

  -- what the answer says where it names condition k: that one is not met, and those before it are
  pub record FirstUnmet (k : ℕ) : Type 0 where
    pub number : (1 ≤ k) × (k ≤ 10)
    pub unmet : Condition b output k → ⊥
    pub before : (i : ℕ) → 1 ≤ i → i < k → Condition b output i

  abbrev fails : ℕ → Bool
  fails k = not (met k)

  abbrev first : ℕ
  first = first_from fails 1 10

  met-before : (i : ℕ) → 1 ≤ i → i < first → met i ≡ true
  met-before i l m = not-false (met i) (first-least fails 10 1 i l m)

  pub names-first : (k : ℕ) → first_unmet b output ≡ Some k → FirstUnmet k
  unfolding first_unmet first_false
  names-first k e =
      let n = one-named first k e in
      record {
        number = (omega (arith, n.0, first-from fails 10 1), omega (arith, n.0, n.1));
        unmet = λ h. true≢false
            (sym ((each.each-met b output k).1 h) ∙ ap met (sym n.0)
            ∙ not-true (met first) (first_passes fails 10 1 (omega (arith, n.1))));
        before = λ i l m. (each.each-met b output i).0 (met-before i l (omega (arith, n.0)));
      }

  all-met : first_unmet b output ≡ None → (i : ℕ) → 1 ≤ i → i ≤ 10 → met i ≡ true
  unfolding first_unmet first_false
  all-met e i l m = met-before i l (omega (arith, none_named first e))

  abbrev tests : List Bool
  tests = conditions (words_of b) (flags_of b) output

  -- all tests are true exactly when the record holds
  pub all_true_lem : (all_true (conditions (words_of b) (flags_of b) output) ≡ true) ↔ Step b output
  unfolding conditions
  all_true_lem = (
    λ e.
        let m = all-at tests e in let n = each.each-met b output in
        record {
          arithmetic = (n 1).0 (m 0 (omega arith));
          shift = (n 2).0 (m 1 (omega arith));
          write = (n 3).0 (m 2 (omega arith));
          system = (n 4).0 (m 3 (omega arith));
          load_word = (n 5).0 (m 4 (omega arith));
          load_byte = (n 6).0 (m 5 (omega arith));
          load-half = (n 7).0 (m 6 (omega arith));
          upper-zero = (n 8).0 (m 7 (omega arith));
          second-zero = (n 9).0 (m 8 (omega arith));
          address = (n 10).0 (m 9 (omega arith));
        },
    λ s.
        let n = each.each-met b output in
        rw (
          (n 1).1 s.arithmetic,
          (n 2).1 s.shift,
          (n 3).1 s.write,
          (n 4).1 s.system,
          (n 5).1 s.load_word,
          (n 6).1 s.load_byte,
          (n 7).1 s.load-half,
          (n 8).1 s.upper-zero,
          (n 9).1 s.second-zero,
          (n 10).1 s.address,
        ),
  )

  -- so of the conditions of a known listing
  pub all_known_lem : (k : Known) → (all_true (conditions_of k (words_of b) (flags_of b) output) ≡ true) ↔ ConditionsOf k b output
  all_known_lem House = all_true_lem
  all_known_lem Strict =
      let tests = both_so _ _ (not-clause (b IS-LOAD && b IS-STORE)) (both_so _ _ (width-clauses (b IS-LOAD) (widths b)) all_true_lem) in (
        λ e. let c = tests.0 e in record { ten = c.1.1; apart = c.0; one_width = c.1.0.0; no-width = c.1.0.1 },
        λ s. tests.1 (s.apart, ((s.one_width, s.no-width), s.ten)),
      )

  -- where all are true, the search names none
  true-meets : all_true tests ≡ true → named first ≡ None
  unfolding conditions
  true-meets e = go (nat_lt first 11) refl
    where
      go : (t : Bool) → nat_lt first 11 ≡ t → cond t (Some first) None ≡ None
      go true q =
          let l = ltb-true first 11 q in
          absurd
          (true≢false
          (sym (all-at tests e (first - 1) (omega (arith, first-from fails 10 1))) ∙ not-true (met first) (first_passes fails 10 1 l)))
      go false q = refl

  -- it says that all are met exactly when the record holds
  pub meets-all : (first_unmet b output ≡ None) ↔ Step b output
  unfolding first_unmet first_false conditions
  meets-all =
      iff_trans (
        λ e. at_all tests (λ k l. let s : k ≡ k + 1 - 1 = omega arith in
            ap (λ (j : ℕ). get_or tests j false) s ∙ all-met e (k + 1) (omega arith) (omega arith)),
        true-meets,
      )
      all_true_lem

-- ---- as it is called, where the questions were answered with yes

module _ (cpi : ℕ) (batch : List ℕ) (d : ℕ) (yes : fill_asked cpi batch ≡ Ok tt) (inside : d < cpi) where
  pub answer-is : step_answer cpi batch d ≡ Ok (first_unmet (bits_of cpi batch d) (cycle_of cpi batch d (ONE-COL + 1)))
  unfolding step_answer
  answer-is = ap (λ q. if_yes Err q (if_inside cpi batch d)) yes ∙ sym (passed _ _ (Err (no CycleRange 0)) (lt-ltb d cpi inside))

  answered : {v w : Option ℕ} → ◌≡◌ {A = Answer (Option ℕ)} (Ok v) (Ok w) → v ≡ w
  answered e = cc e

  pub answer-meets : (step_answer cpi batch d ≡ Ok None) ↔ Step (bits_of cpi batch d) (cycle_of cpi batch d (ONE-COL + 1))
  answer-meets =
      iff_trans (λ e. answered (sym answer-is ∙ e), λ e. answer-is ∙ ap Ok e) (meets-all (bits_of cpi batch d) (cycle_of cpi batch d (ONE-COL + 1)))

  pub answer-names : (k : ℕ) → step_answer cpi batch d ≡ Ok (Some k) → FirstUnmet (bits_of cpi batch d) (cycle_of cpi batch d (ONE-COL + 1)) k
  answer-names k e = names-first (bits_of cpi batch d) (cycle_of cpi batch d (ONE-COL + 1)) k (answered (sym answer-is ∙ e))
