-- `packed::unpack::lay_word` meets its contract: the bits passed stand as elements, and nothing else moved.
-- Assumes nothing.
use Rattle.std.proofs.Common.{arith}
use Rattle.packed.proofs.Laws.Unpack.{next-rest, next-laid}
use Rattle.packed.proofs.unpack.lay_word.Goals as goal

pub loop-j-preserved : goal.loop-j-preserved
loop-j-preserved c =
    let l = c.loop-j in (
      omega arith,
      (
        search next-rest,
        next-laid c.args.w c.args.at l.j c.args.batch.now l.batch l.rest l.invariant.1.0
            (omega (arith, c.requires.inside, c.loop-j-test.true)) l.invariant.1.1,
      ),
    )
