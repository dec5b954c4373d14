-- What a verdict says, for whoever builds on it: acceptance is that every row holds in every cycle; a cycle that fails gives the verdict,
-- and the cycles before it count. What a failure names, Run says.
-- Assumes nothing.
use Rattle.std.specs.Prelude.{◌≡◌, ◌↔◌, Bool, cond, ℕ, zero, suc, ◌+◌, ◌<◌, ◌≤◌, length, replicate, Err, Ok}
use Rattle.std.proofs.Common.{sym, ◌∙◌, arith}
use Rattle.std.proofs.Math.Path.{ap}
use Rattle.std.proofs.Math.Bool.{true, false}
use mathlib.Core.List.{List, [], ◌∷◌, map}
use Rattle.base.specs.Lists.{All, from_each}
use Rattle.base.specs.Laws.Tests.{passed}
use Rattle.base.specs.Laws.Lists.{all_append, all_left, all_right, all_map}
use Rattle.base.specs.Laws.From.{all-each}
use Rattle.layout.specs.Batch.{allowed, batch_words, scratch_fits}
use Rattle.layout.specs.Laws.Questions.{if_yes_lem, yes-batch}
use Rattle.circuit.specs.declared.Relation.{Relation}
use Rattle.circuit.specs.declared.Relation.TheVariants.{Bin, Fld}
use Rattle.circuit.specs.Rows.{Row, same_relation, of_relation}
use Rattle.circuit.specs.Parse.{rows_of}
use Rattle.circuit.specs.Valid.{validated}
use Rattle.verdict.specs.declared.Counts.{Counts}
use Rattle.verdict.specs.declared.Verdict.TheVariants.{Accepted, Failed}
use Rattle.verdict.specs.Counts.{none, every_row}
use Rattle.verdict.specs.Check.{Constraint, in_cycle, in_cycles, constraints, met, run, judged, asked, after, checked}
use Rattle.verdict.specs.Row.{cycle_of, holds}
use Rattle.verdict.specs.Laws.Counts.{plus, none-plus, plus_assoc, tally, tally-append, tally-all}
use Rattle.verdict.specs.Laws.Run.{run_past, run-met, met-run, run-stops, run-from, later}

-- ---- the constraints

-- rows in n cycles from s on: where all hold in the cycles before s + d, and cycle s + d fails, that is the verdict, and the cycles before
-- it count
pub cycle-fails : (test : Constraint → Bool) (rs : List Row) (n s d : ℕ) (m : Counts) {rel : Relation} {row : ℕ} {c : Counts} → d < n
    → ((e : ℕ) → s ≤ e → e < s + d → All (λ r. test (in_cycle e r) ≡ true) rs)
    → run test none (map (in_cycle (s + d)) rs) ≡ Failed rel row c
    → run test m (in_cycles s n rs) ≡ Failed rel row (plus m (plus (tally (in_cycles s d rs)) c))
unfolding from_each tally
cycle-fails test rs zero s d m h held fails = absurd (omega arith)
cycle-fails test rs (suc n) s zero m {rel} {row} {c} h held fails =
    run-stops test (map (in_cycle s) rs) (in_cycles (suc s) n rs) m
    (run-from test (map (in_cycle s) rs) m
    ∙ ap (later m) (ap (λ (e : ℕ). run test none (map (in_cycle e) rs)) (omega arith) ∙ fails)
    ∙ ap (λ (k : Counts). Failed rel row (plus m k)) (sym (none-plus c)))
cycle-fails test rs (suc n) s (suc d) m {rel} {row} {c} h held fails =
    let here = tally (map (in_cycle s) rs) in let between = tally (in_cycles (suc s) d rs) in
    run_past test (map (in_cycle s) rs) (in_cycles (suc s) n rs) m
    ((all_map (λ k. test k ≡ true) (in_cycle s) rs).1 (held s (omega arith) (omega arith)))
    ∙ cycle-fails test rs n (suc s) d (plus m here) (omega arith) (λ e l u. held e (omega arith) (omega arith))
    (ap (λ (e : ℕ). run test none (map (in_cycle e) rs)) (omega arith) ∙ fails)
    ∙ ap (Failed rel row)
    (plus_assoc m here (plus between c)
    ∙ ap (plus m)
    (sym (plus_assoc here between c)
    ∙ ap (λ (k : Counts). plus k c) (sym (tally-append (map (in_cycle s) rs) (in_cycles (suc s) d rs)))))

module _ (P : Row → Type 0) where
  all_of : (rel : Relation) (rs : List Row) → All P rs → All P (of_relation rel rs)
  unfolding of_relation
  all_of rel [] p = tt
  all_of rel (r ∷ rs) p = by-test (same_relation r.relation rel) (all_of rel rs p.1)
    where
      by-test : (b : Bool) → All P (of_relation rel rs) → All P (cond b (r ∷ of_relation rel rs) (of_relation rel rs))
      by-test true q = (p.0, q)
      by-test false q = q

  of-all : (rs : List Row) → All P (of_relation Bin rs) → All P (of_relation Fld rs) → All P rs
  unfolding of_relation
  of-all [] p q = tt
  of-all (r ∷ rs) p q = by-relation r.relation p q (of-all rs)
    where
      by-relation : (rel : Relation) → All P (cond (same_relation rel Bin) (r ∷ of_relation Bin rs) (of_relation Bin rs))
          → All P (cond (same_relation rel Fld) (r ∷ of_relation Fld rs) (of_relation Fld rs))
          → (All P (of_relation Bin rs) → All P (of_relation Fld rs) → All P rs) → P r × All P rs
      by-relation Bin p q later = (p.0, later p.1 q)
      by-relation Fld p q later = (q.0, later p q.1)

module _ (P : Constraint → Type 0) where
  abbrev InCycle : ℕ → List Row → Type 0
  InCycle d rs = All (λ r. P (in_cycle d r)) rs

  pub in-cycles : (rs : List Row) (n d : ℕ) → All P (in_cycles d n rs) ↔ ((e : ℕ) → d ≤ e → e < d + n → InCycle e rs)
  in-cycles rs n d =
      let k = all-each P d n (λ e. map (in_cycle e) rs) in
      (λ p e l u. (all_map P (in_cycle e) rs).0 (k.0 p e l u), λ h. k.1 (λ e l u. (all_map P (in_cycle e) rs).1 (h e l u)))

  -- every constraint: every row in every cycle
  pub every-constraint : (cpi : ℕ) (rs : List Row) → All P (constraints cpi rs) ↔ ((d : ℕ) → d < cpi → InCycle d rs)
  unfolding constraints
  every-constraint cpi rs = (
    λ p d h. of-all (λ r. P (in_cycle d r)) rs
        ((in-cycles (of_relation Bin rs) cpi 0).0
        (all_left P (in_cycles 0 cpi (of_relation Bin rs)) (in_cycles 0 cpi (of_relation Fld rs)) p) d (omega arith) (omega arith))
        ((in-cycles (of_relation Fld rs) cpi 0).0
        (all_right P (in_cycles 0 cpi (of_relation Bin rs)) (in_cycles 0 cpi (of_relation Fld rs)) p) d (omega arith) (omega arith)),
    λ h. all_append P (in_cycles 0 cpi (of_relation Bin rs)) (in_cycles 0 cpi (of_relation Fld rs))
        ((in-cycles (of_relation Bin rs) cpi 0).1 (λ e l u. all_of (λ r. P (in_cycle e r)) Bin rs (h e (omega arith))))
        ((in-cycles (of_relation Fld rs) cpi 0).1 (λ e l u. all_of (λ r. P (in_cycle e r)) Fld rs (h e (omega arith)))),
  )

-- ---- acceptance

module _ (cpi : ℕ) (listing batch : List ℕ) where
  -- every row of the listing holds in every cycle
  abbrev pub EveryRowHolds : Type 0
  EveryRowHolds = (d : ℕ) → d < cpi → All (λ r. holds (cycle_of cpi batch d) r.sides ≡ true) (rows_of listing)

  pub accepts : EveryRowHolds → judged cpi listing batch ≡ Accepted (every_row cpi (rows_of listing))
  unfolding judged
  accepts h =
      run-met (met (cycle_of cpi batch)) (constraints cpi (rows_of listing)) none
      ((every-constraint (λ k. met (cycle_of cpi batch) k ≡ true) cpi (rows_of listing)).1 h)
      ∙ ap Accepted (none-plus (tally (constraints cpi (rows_of listing))) ∙ tally-all cpi (rows_of listing))

  pub accepted : (n : Counts) → judged cpi listing batch ≡ Accepted n → EveryRowHolds
  unfolding judged
  accepted n e =
      (every-constraint (λ k. met (cycle_of cpi batch) k ≡ true) cpi (rows_of listing)).0
      (met-run (met (cycle_of cpi batch)) (constraints cpi (rows_of listing)) none n e)

-- ---- the check as it is called: where every question is answered with yes, it is the verdict, and zeros in the scratch
pub answered-yes : (cpi : ℕ) (listing batch scratch : List ℕ) → allowed cpi ≡ true → validated listing ≡ Ok tt
    → scratch_fits (length scratch) ≡ true
    → length batch ≡ batch_words cpi
    → checked cpi listing batch scratch ≡ record { answer = Ok (judged cpi listing batch); scratch = replicate (length scratch) 0 }
unfolding checked asked
answered-yes cpi listing batch scratch size valid room words =
    ap (λ q. after q (judged cpi listing batch) scratch)
    (sym (sym valid ∙ passed _ _ _ room ∙ if_yes_lem Err _ (yes-batch cpi (length batch) size words)))
