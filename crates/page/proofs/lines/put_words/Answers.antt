-- `page::lines::put_words` meets its contract: as far as the loop has come, the lines of the words stand one behind the other.
-- Assumes nothing.
use Rattle.std.proofs.Common.{arith}
use Rattle.std.proofs.Math.Nat.{sub-zero}
use Rattle.base.specs.Lists.{joined}
use Rattle.text.specs.Laws.Put.{placed-then, placed-as, placed-none}
use Rattle.page.specs.Laws.Terms.{one-line-more}
use Rattle.page.proofs.lines.put_words.Goals as goal

pub loop-w-init : goal.loop-w-init
unfolding joined
loop-w-init c = (omega arith, placed-none _ _)

pub loop-w-preserved : goal.loop-w-preserved
loop-w-preserved c =
    let t = c.loop-w in let x = c.args.cycle.now in let p = c.put_word-k.ensures in
    let more = simp sub-zero at (one-line-more x.cpi x.batch.now x.number c.args.words.now 0 t.w-index (omega arith) c.loop-w-test.true) in
    (omega (arith, p.1), placed-as _ _ _ _ _ _ more (placed-then (omega arith) t.invariant.1 p.0))
