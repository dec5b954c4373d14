-- What was read so far, joined with the rest, is the same with one word more read; with none left to read, it is what was read.
-- Assumes nothing.
use Rattle.std.proofs.Common.{◌≡◌, ℕ, ◌+◌, ◌≤◌, ◌<◌, List, bit_or, length, get_or, drop, add-one, drop-cons}
use Rattle.std.proofs.Math.ListN.{drop_of_length-le}
use Rattle.compare.specs.Reads.{ored_with}

pub read_one : (ws : List ℕ) (all i : ℕ) → i < length ws → ored_with (bit_or all (get_or ws i 0)) (drop (i + 1) ws) ≡ ored_with all (drop i ws)
unfolding ored_with
read_one ws all i h = rw (add-one, drop-cons ws i 0)

pub read_none : (ws : List ℕ) (all i : ℕ) → length ws ≤ i → ored_with all (drop i ws) ≡ all
unfolding ored_with
read_none ws all i h = rw (drop_of_length-le ws h)
