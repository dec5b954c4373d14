-- `packed::turn::turn` meets its contract: six steps.
-- Assumes nothing.
use Rattle.std.proofs.Common.{arith, rules}
use Rattle.packed.specs.Laws.Exchange.{masks}
use Rattle.packed.specs.Laws.Queue.{six-steps}
use Rattle.packed.proofs.turn.turn.Goals as goal

pub queue-requires : goal.queue-requires
queue-requires c = search (masks, rules)

pub queue-requires-2 : goal.queue-requires-2
queue-requires-2 c = search (masks, rules)

pub queue-requires-3 : goal.queue-requires-3
queue-requires-3 c = search (masks, rules)

pub queue-requires-4 : goal.queue-requires-4
queue-requires-4 c = search (masks, rules)

pub queue-requires-5 : goal.queue-requires-5
queue-requires-5 c = search (masks, rules)

pub queue-requires-6 : goal.queue-requires-6
queue-requires-6 c =
    let s = c.requires in
    record { few = s.few; from-words = omega (arith, s); to-words = omega (arith, s); mask = search masks }

pub returns : goal.returns
returns c = search six-steps
