-- `packed::turn::unturn` meets its contract: six steps undone.
-- Assumes nothing.
use Rattle.std.proofs.Common.{arith, rules}
use Rattle.packed.specs.Laws.Exchange.{masks}
use Rattle.packed.specs.Laws.Queue.{six-steps}
use Rattle.packed.proofs.turn.unturn.Goals as goal

pub unqueue-requires : goal.unqueue-requires
unqueue-requires c = search (masks, rules)

pub unqueue-requires-2 : goal.unqueue-requires-2
unqueue-requires-2 c = search (masks, rules)

pub unqueue-requires-3 : goal.unqueue-requires-3
unqueue-requires-3 c = search (masks, rules)

pub unqueue-requires-4 : goal.unqueue-requires-4
unqueue-requires-4 c = search (masks, rules)

pub unqueue-requires-5 : goal.unqueue-requires-5
unqueue-requires-5 c = search (masks, rules)

pub unqueue-requires-6 : goal.unqueue-requires-6
unqueue-requires-6 c =
    let s = c.requires in
    record { few = s.few; from-words = omega (arith, s); to-words = s.block; mask = search masks }

pub returns : goal.returns
returns c =
    six-steps _ _ _ _ _ _ _ _ c.unqueue-6.ensures c.unqueue-5.ensures c.unqueue-4.ensures c.unqueue-3.ensures
    c.unqueue-2.ensures c.unqueue.ensures
