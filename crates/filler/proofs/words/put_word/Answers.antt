-- `filler::words::put_word` meets its contract: the columns passed hold the bits of w, and `rest` is w without them.
-- Assumes nothing.
use Rattle.std.proofs.Common.{sym, refl, ◌∙◌, div-one}
use Rattle.filler.specs.Blocks.{put_word}
use Rattle.base.specs.Laws.Words.{half-turn}
use Rattle.filler.specs.Laws.Loops.{put-turn}
use Rattle.filler.proofs.words.put_word.Goals as goal

pub loop-i-init : goal.loop-i-init
unfolding put_word
loop-i-init c = (sym (div-one _), refl)

pub loop-i-preserved : goal.loop-i-preserved
loop-i-preserved c =
    let a = c.args in let l = c.loop-i in (
      half-turn a.w l.i l.invariant.0,
      c.put_bit.ensures ∙ put-turn a.w l.i l.invariant.0 a.cpi a.cycle a.column a.batch.now l.invariant.1,
    )
