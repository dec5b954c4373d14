-- `verdict::walk::walk_parts` meets its contract: at each loop the verdict on what is left, with the counts so far, is the whole verdict.
-- Assumes nothing.
use Rattle.std.proofs.Common.{◌≡◌, refl, sym, ap, subst, ◌∙◌, true, ℕ, zero, suc, ◌<◌, ◌≤◌, List, [], ◌∷◌, length, slice_index_or, Bor, rules, arith}
use borrow.Author.Tests.{not-true, not-false}
use Rattle.verdict.specs.Row.{cycle_of}
use Rattle.verdict.specs.RowParts.{sorted}
use Rattle.verdict.specs.Laws.RowParts.{at_mark}
use Rattle.circuit.specs.declared.Relation.{Relation}
use Rattle.verdict.specs.Counts.{counted, rows}
use Rattle.verdict.specs.Laws.Counts.{rows-counted}
use Rattle.verdict.specs.Check.{met, run}
use Rattle.verdict.specs.StillToTest.{part_at}
use Rattle.verdict.specs.Laws.StillToTest.{of_parts, relation-step, relation-end, cycle-step, cycle-end, row-end, row_here, along, run_on, run-stop}
use Rattle.verdict.proofs.walk.walk_parts.Goals as goal

-- the words that the loop over the relations is at
part-is : (bin fld none : Bor (List ℕ)) (r : ℕ) → r < 2 → (slice_index_or (bin ∷ fld ∷ []) r none).now ≡ part_at bin.now fld.now r
part-is bin fld none zero h = refl
part-is bin fld none (suc zero) h = refl
part-is bin fld none (suc (suc r)) h = absurd (omega arith)

pub cycles-init : goal.cycles-init
cycles-init c =
    (search rules, along _ _ (relation-step _ _ _ _ c.loop-part-test.true) c.loop-part.invariant.1)

pub rows-init : goal.rows-init
rows-init c =
    let r = c.loop-part.part-index in
    let e = part-is c.args.bin c.args.fld _ r c.loop-part-test.true in let p = c.requires in (
      search rules,
      subst (λ part. length part ≤ 16384) (sym e) (of_parts (λ part. length part ≤ 16384) _ _ p.1.1.0 p.1.1.1.0 r),
      search rules,
      subst (λ part. sorted 3 part ≡ true) (sym e) (of_parts (λ part. sorted 3 part ≡ true) _ _ p.1.1.1.1.0 p.1.1.1.1.1 r),
      along _ _ (cycle-step _ _ _ _ _ c.cycles-test.true _ e) c.cycles.invariant.1,
    )

pub test_row-row-requires : goal.test_row-row-requires
test_row-row-requires c =
    let t = c.rows in
    (search rules, (at_mark _ t.at c.rows-test.true t.invariant.3).1)

pub rows-preserved : goal.rows-preserved
rows-preserved c =
    let r = c.test_row-row in let t = c.rows in let m = at_mark _ t.at c.rows-test.true t.invariant.3 in
    let more = c.one_more-tested.ensures ∙ ap (λ (q : Relation). counted q t.tested) c.relation_of-kind.ensures in (
      r.ensures.ends.fits,
      t.invariant.1,
      omega (arith, r.ensures.ends.onward, ap rows c.one_more-tested.ensures, rows-counted c.relation_of-kind.result t.tested),
      r.ensures.ends.in_rows,
      run_on _ _ (row_here _ _ _ _ _ _ t.at _ c.rows-test.true m.0 r.ensures.ends) t.invariant.4 more
          (sym r.ensures.holds-is ∙ not-false _ c.if-not-row.false),
    )

pub cycles-preserved : goal.cycles-preserved
cycles-preserved c =
    (omega arith, along _ _ (row-end _ _ _ _ _ _ _ c.rows-test.false) c.rows.invariant.4)

pub loop-part-preserved : goal.loop-part-preserved
loop-part-preserved c =
    (omega arith, along _ _ (cycle-end _ _ _ _ _ c.cycles-test.false) c.cycles.invariant.1)

pub returns-after-loop-part : goal.returns-after-loop-part
unfolding run
returns-after-loop-part c =
    let a = c.args in
    along (met (cycle_of a.cpi a.batch.now)) _ (relation-end _ _ _ c.loop-part.part-index (omega arith)) c.loop-part.invariant.1

pub returns-then-not-row : goal.returns-then-not-row
returns-then-not-row c =
    let r = c.test_row-row in let t = c.rows in let m = at_mark _ t.at c.rows-test.true t.invariant.3 in
    run-stop _ _ (row_here _ _ _ _ _ _ t.at _ c.rows-test.true m.0 r.ensures.ends) t.invariant.4
    c.relation_of-kind.ensures c.batch_row.ensures c.one_more-tested.ensures
    (sym r.ensures.holds-is ∙ not-true _ c.if-not-row.true)
