-- `packed::unpack::lay_word` meets its contract: the bits passed stand as elements, and nothing else moved.
-- Assumes nothing.
use Rattle.std.proofs.Common.{◌≡◌, ◌/◌, ◌^◌, ◌≤◌}
use Rattle.packed.specs.Unpack.{Laid}
use Rattle.packed.proofs.unpack.lay_word.Given as goal

abbrev pub invariant-loop-j : goal.invariant-loop-j
invariant-loop-j l = (l.j ≤ 64) × ((l.rest ≡ l.w / 2 ^ l.j) × Laid l.w l.at l.j l.initial.batch l.batch)
