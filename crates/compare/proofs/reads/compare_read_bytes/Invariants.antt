-- What was read so far, joined with the rest, is the or of all, at every turn.
-- Assumes nothing.
use Rattle.std.proofs.Common.{◌≡◌, drop}
use Rattle.compare.specs.Reads.{ored_with, ored}
use Rattle.compare.proofs.reads.compare_read_bytes.Given as goal

abbrev pub invariant-loop-byte : goal.invariant-loop-byte
invariant-loop-byte l = ored_with l.all (drop l.byte-index l.bytes) ≡ ored l.bytes
