-- `packed::many::put_words` meets its contract: the cycles passed have their word, and nothing else moved.
-- Assumes nothing.
use Rattle.std.proofs.Common.{◌≤◌, length}
use Rattle.packed.specs.Ranges.{Scattered}
use Rattle.packed.proofs.many.put_words.Given as goal

abbrev pub invariant-loop-d : goal.invariant-loop-d
invariant-loop-d l = (l.d ≤ length l.acc) × Scattered l.acc l.k l.d l.initial.out l.out
