-- `filler::fill::first_faulty` meets its contract: the search from here finds what the whole search does, at every turn.
-- Assumes nothing.
use Rattle.std.proofs.Common.{◌≡◌, ◌-◌, ◌^◌, ◌<◌}
use Rattle.base.specs.Tests.{first_from}
use Rattle.step.specs.Fill.{faulty, first_faulty}
use Rattle.filler.proofs.fill.first_faulty.Given as goal

abbrev pub invariant-loop-i : goal.invariant-loop-i
invariant-loop-i l = (l.k < 9) × (2 ^ l.k ≡ l.cpi) × (first_from (faulty l.cpi l.batch) l.i (l.columns - l.i) ≡ first_faulty l.cpi l.batch)
