-- `packed::many::pack_words` meets its contract: the words passed stand in their places, of every cycle.
-- Assumes nothing.
use Rattle.std.proofs.Common.{◌≡◌, ◌≤◌, length}
use Rattle.packed.specs.Ranges.{Ranged}
use Rattle.packed.proofs.many.pack_words.Given as goal

abbrev pub invariant-loop-k : goal.invariant-loop-k
invariant-loop-k l = (length l.acc ≡ l.cpi) × ((l.first ≤ l.k) × ((l.k ≤ l.last) × Ranged l.cpi l.batch l.first l.k l.initial.out l.out l.bad))
