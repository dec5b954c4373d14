-- `packed::one::pack_words` meets its contract: the words passed stand in their places.
-- Assumes nothing.
use Rattle.std.proofs.Common.{◌≤◌}
use Rattle.packed.specs.One.{InRow}
use Rattle.packed.proofs.one.pack_words.Given as goal

abbrev pub invariant-loop-k : goal.invariant-loop-k
invariant-loop-k g l = (l.first ≤ l.k) × ((l.k ≤ l.last) × InRow (g.W.Words.words l.batch) l.first l.k l.initial.out l.out l.bad)
