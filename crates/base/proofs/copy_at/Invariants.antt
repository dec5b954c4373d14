-- `base::copy_at` meets its contract: from start on stand the words, as far as the loop has come.
-- Assumes nothing.
use Rattle.std.proofs.Common.{length, ◌+◌, ◌-◌, ◌≤◌}
use Rattle.base.specs.Written.{Written}
use lib.ListN.{get_or}
use Rattle.base.proofs.copy_at.Given as goal

abbrev pub invariant-loop-k : goal.invariant-loop-k
invariant-loop-k l = (l.k ≤ l.start + length l.words) × Written (λ i. get_or l.words (i - l.start) 0) l.start l.k l.initial.s l.s
