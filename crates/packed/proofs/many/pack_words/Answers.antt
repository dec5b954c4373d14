-- `packed::many::pack_words` meets its contract: the words passed stand in their places, of every cycle.
-- Assumes nothing.
use Rattle.std.proofs.Common.{arith}
use Rattle.packed.specs.Laws.Ranges.{next-range}
use Rattle.packed.proofs.many.pack_words.Goals as goal

pub loop-k-preserved : goal.loop-k-preserved
loop-k-preserved c =
    let p = c.requires in let a = c.args in let l = c.loop-k in let w = c.word_columns-bad.ensures in (
      w.sized,
      (
        omega (arith, l.invariant.1.0),
        (
          omega (arith, c.loop-k-test.true),
          next-range a.cpi a.batch.now a.first l.k _ a.out.now l.out _ l.bad _ l.invariant.1.0
              (omega (arith, p.0.inside, c.loop-k-test.true)) l.invariant.1.1.1 w c.put_words.ensures,
        ),
      ),
    )
