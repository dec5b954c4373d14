-- `packed::many::word_columns` meets its contract: after each turn acc has the stack of the columns passed.
-- Assumes nothing.
use Rattle.std.proofs.Common.{arith, rules}
use Rattle.packed.specs.Laws.Columns.{first_word, next_word, last_word}
use Rattle.packed.proofs.many.word_columns.Goals as goal

pub loop-j-init : goal.loop-j-init
loop-j-init c = search (first_word, rules)

pub loop-j-preserved : goal.loop-j-preserved
loop-j-preserved c =
    let p = c.requires in let a = c.args in let l = c.loop-j in (
      omega (arith, l.invariant.0),
      next_word a.cpi a.batch.now a.k l.acc _ l.bad _ l.j c.loop-j-test.true l.invariant.0 l.invariant.1
          c.four_columns-bad.ensures,
    )

pub returns : goal.returns
returns c =
    let a = c.args in let l = c.loop-j in
    last_word a.cpi a.batch.now a.k l.acc l.bad l.j (omega (arith, c.loop-j-test.false)) l.invariant.1
