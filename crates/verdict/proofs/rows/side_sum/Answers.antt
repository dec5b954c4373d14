-- `verdict::rows::side_sum` meets its contract: what the terms so far add up to, and the sum of the rest of the run, is the sum of the run.
-- Assumes nothing.
use mathlib.Core.Path.{◌≡◌, refl, sym, ap, ◌∙◌}
use mathlib.Core.Bool.{true, false}
use mathlib.Core.List.{List, [], ◌∷◌}
use native.Mathlib.Omega.{arith}
use lib.ListN.{length}
use Prim.Native.Nat.{ℕ, ◌≤◌, ◌<◌}
use borrow.Author.Tests.{lt-ltb, le-ltb}
use lib.Dec.{ltb}
use Rattle.field.specs.declared.Gf128.{Gf128}
use Rattle.field.specs.Gf.{added}
use Rattle.field.specs.Gf.Laws.{add_assoc, add-zero, zero-add}
use Rattle.circuit.specs.declared.Side.{Side}
use Rattle.circuit.specs.Words.{kind_of, side_kind, past}
use Rattle.circuit.specs.Rows.{Term}
use Rattle.circuit.specs.Laws.Search.{stops, goes, ends}
use Rattle.verdict.specs.Row.{times, sum_of}
use Rattle.verdict.specs.Laws.RowParts.{run-stops, run-goes, run_ends}
use Rattle.verdict.proofs.rows.side_sum.Goals as goal

module _ (z : ℕ → Gf128) (sum : Gf128) where
  -- nothing is left of the run
  done : {ts : List Term} {whole : Gf128} → ts ≡ [] → added sum (sum_of z ts) ≡ whole → sum ≡ whole
  unfolding sum_of
  done e h = sym (add-zero sum) ∙ ap (λ ts. added sum (sum_of z ts)) (sym e) ∙ h

  -- one more term
  more : {t : Term} {ts us : List Term} {whole : Gf128} → us ≡ t ∷ ts → added sum (sum_of z us) ≡ whole
      → added (added sum (times t.coefficient (z t.column))) (sum_of z ts) ≡ whole
  unfolding sum_of
  more {t} {ts} e h = add_assoc sum _ (sum_of z ts) ∙ ap (λ vs. added sum (sum_of z vs)) (sym e) ∙ h

-- what the loop's test says of a word, by the side's kind
module _ (side : Side) (w : ℕ) {kind : ℕ} (e : kind ≡ side_kind side) where
  is-behind : kind < kind_of w → past side w ≡ true
  is-behind h = ap (λ (k : ℕ). ltb k (kind_of w)) (sym e) ∙ lt-ltb kind (kind_of w) h

  is_within : kind_of w ≤ kind → past side w ≡ false
  is_within h = ap (λ (k : ℕ). ltb k (kind_of w)) (sym e) ∙ le-ltb kind (kind_of w) h

pub loop-i-init : goal.loop-i-init
loop-i-init c = (refl, rw c.zero-sum.ensures (zero-add _))

pub returns-then-side_kind-w : goal.returns-then-side_kind-w
returns-then-side_kind-w c =
    let t = c.loop-i in let a = c.args in
    let inside = c.loop-i-test.true in let stop = is-behind a.side _ c.side_kind.ensures c.if-side_kind-w.true in
    record {
      end_is = sym (stops (past a.side) _ t.i inside stop) ∙ t.invariant.0;
      sum_is = done _ _ (run-stops a.side _ t.i inside stop) t.invariant.1;
      fits = omega arith;
    }

pub loop-i-preserved : goal.loop-i-preserved
loop-i-preserved c =
    let t = c.loop-i in
    let a = c.args in
    let inside = c.loop-i-test.true in let go = is_within a.side _ c.side_kind.ensures c.if-side_kind-w.false in (
      sym (goes (past a.side) _ t.i inside go) ∙ t.invariant.0,
      rw (c.add-sum.ensures, c.term.ensures) (more _ _ (run-goes a.side _ t.i inside go) t.invariant.1),
    )

pub returns : goal.returns
returns c =
    let t = c.loop-i in let a = c.args in
    let all : length a.listing.now ≡ t.i = omega arith in
    record {
      end_is = all ∙ sym (ends (past a.side) _ t.i c.loop-i-test.false) ∙ t.invariant.0;
      sum_is = done _ _ (run_ends a.side _ t.i c.loop-i-test.false) t.invariant.1;
      fits = omega arith;
    }
