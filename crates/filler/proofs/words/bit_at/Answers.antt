-- `filler::words::bit_at` meets its contract: the low word of the column tells its bit.
-- Assumes nothing.
use Rattle.std.proofs.Common.{ap, ◌∙◌}
use Rattle.base.specs.Bits.{digit}
use Rattle.verdict.specs.Laws.Row.{bit-read}
use Rattle.filler.proofs.words.bit_at.Goals as goal

pub returns : goal.returns
returns c =
    let a = c.args in
    c.word_of.ensures.0
    ∙ ap digit
    (bit-read a.cpi a.cycle a.column a.batch.now c.requires.1 c.column_at-at.ensures.0 c.element.ensures c.low.ensures)
