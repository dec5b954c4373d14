-- `packed::bytes::RowBytes::read` meets its contract: the words below i are written.
-- Assumes nothing.
use Prim.Native.Nat.{◌≤◌}
use lib.ListN.{length}
use Rattle.base.specs.Written.{Written}
use Rattle.packed.proofs.Spelled.{word_in}
use Rattle.packed.proofs.bytes.RowBytes.read.Given as goal

abbrev pub invariant-loop-i : goal.invariant-loop-i
invariant-loop-i l = (l.i ≤ length l.initial.words) × Written (word_in l.self.bytes.now) 0 l.i l.initial.words l.words
