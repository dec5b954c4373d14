-- `verdict::bits::first_above` meets its contract: the search from here finds what the whole search does, at every turn.
-- Assumes nothing.
use mathlib.Core.Path.{◌≡◌}
use Prim.Native.Nat.{◌-◌}
use Rattle.base.specs.Tests.{first_from}
use Rattle.verdict.specs.Bits.{above_one}
use Rattle.verdict.proofs.bits.first_above.Given as goal

abbrev pub invariant-loop-i : goal.invariant-loop-i
invariant-loop-i l = first_from (above_one l.batch) l.i (l.columns - l.i) ≡ first_from (above_one l.batch) 0 l.columns
