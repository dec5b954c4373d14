-- `packed::turn::exchange` meets its contract: its operations exchange the runs that its mask has.
-- Assumes nothing.
use Rattle.packed.specs.Laws.Exchange.{exchanged}
use Rattle.packed.proofs.turn.exchange.Goals as goal

pub returns : goal.returns
returns c = search exchanged
