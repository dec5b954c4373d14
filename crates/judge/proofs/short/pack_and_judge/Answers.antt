-- `judge::short::pack_and_judge` meets its contract: where the columns are bits the packed words are judged, and else it is a no.
-- Assumes nothing.
use Rattle.std.proofs.Common.{Ok, ap, ◌∙◌}
use Rattle.judge.specs.Laws.Short.{not-of-bits, not-bits, refused-bits}
use Rattle.judge.proofs.short.pack_and_judge.Goals as goal

pub returns-else-bits : goal.returns-else-bits
returns-else-bits c =
    c.if-bits.false ∙ not-of-bits _ _ _ _ c.requires c.pack.ensures (not-bits (c.in-Ok.is ∙ ap Ok c.if-bits.false))

pub returns-in-Err : goal.returns-in-Err
returns-in-Err c = not-of-bits _ _ _ _ c.requires c.pack.ensures (refused-bits c.in-Err.is)
