-- `packed::unpack::lay_words` meets its contract: the words passed stand as elements, and nothing behind them moved.
-- Assumes nothing.
use Rattle.std.proofs.Common.{◌≤◌, length}
use Rattle.packed.specs.Unpack.{Unpacked}
use Rattle.packed.proofs.unpack.lay_words.Given as goal

abbrev pub invariant-loop-k : goal.invariant-loop-k
invariant-loop-k l = (l.k ≤ length l.words) × Unpacked l.words l.k l.initial.batch l.batch
