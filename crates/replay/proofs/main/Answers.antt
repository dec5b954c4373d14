-- `replay::main` is safe. The search would count the words of the arrays one by one, which a law on their length spares.
-- Assumes nothing.
use Rattle.std.proofs.Common.{◌≡◌, ℕ, length, sym}
use lib.ListN.{replicate, length-replicate}
use Rattle.replay.proofs.main.Goals as goal

zeros : (n : ℕ) → n ≡ length (replicate {A = ℕ} n 0)
zeros n = sym (length-replicate n 0)

pub slice_bounds-read_full-end : goal.slice_bounds-read_full-end
slice_bounds-read_full-end c = zeros 0x80001

pub slice_bounds-text-end : goal.slice_bounds-text-end
slice_bounds-text-end c = c.in_ok-n.ensures.count.0

pub slice_bounds-replay_all-end : goal.slice_bounds-replay_all-end
slice_bounds-replay_all-end c = c.in_ok-n.ensures.count.1
