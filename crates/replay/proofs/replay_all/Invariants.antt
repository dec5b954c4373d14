-- Each line has a byte at least, and is counted at most once.
-- Assumes nothing.
use Rattle.std.proofs.Common.{◌+◌, ◌≤◌, length}
use Rattle.std.specs.Slice.Iter.{split_inclusive_rest}
use Rattle.replay.proofs.replay_all.Given as goal

abbrev pub invariant-loop-line : goal.invariant-loop-line
invariant-loop-line l =
    (l.tally.right + length (split_inclusive_rest l.line-iterator) ≤ length l.text)
    × (l.tally.wrong + length (split_inclusive_rest l.line-iterator) ≤ length l.text)
