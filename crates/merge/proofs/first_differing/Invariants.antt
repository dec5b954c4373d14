-- `merge::first_differing` meets its contract: the search from here finds what the whole search does, at every turn.
-- Assumes nothing.
use mathlib.Core.Path.{◌≡◌}
use Prim.Native.Nat.{◌-◌}
use Rattle.base.specs.Tests.{first_from}
use Rattle.merge.specs.Calls.{differs}
use Rattle.merge.proofs.first_differing.Given as goal

abbrev pub invariant-loop-i : goal.invariant-loop-i
invariant-loop-i l = first_from (differs l.first l.second) l.i (l.end - l.i) ≡ first_from (differs l.first l.second) l.start (l.end - l.start)
