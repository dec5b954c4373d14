-- What was read so far, joined with the rest, is the or of all, at every turn.
-- Assumes nothing.
use Rattle.std.proofs.Common.{◌≡◌, drop}
use Rattle.compare.specs.Reads.{ored_with, ored}
use Rattle.compare.proofs.reads.compare_read.Given as goal

abbrev pub invariant-loop-word : goal.invariant-loop-word
invariant-loop-word l = ored_with l.all (drop l.word-index l.words) ≡ ored l.words
