-- `filler::fill::fill_cycles` meets its contract: the cycles passed are filled; all of them make the batch that the rows determine.
-- Assumes nothing.
use Rattle.std.proofs.Common.{◌≡◌}
use Rattle.filler.specs.Words.{fill_cycles}
use Rattle.filler.proofs.fill.fill_cycles.Given as goal

abbrev pub invariant-loop-cycle : goal.invariant-loop-cycle
invariant-loop-cycle l = l.batch ≡ fill_cycles l.cpi l.cycle l.initial.batch
