-- `witness::row::write_word` meets its contract: the columns passed hold the bits of w, and `rest` is w without them.
-- Assumes nothing.
use Rattle.std.proofs.Common.{◌≡◌, ◌+◌, ◌*◌, ◌/◌, ◌^◌}
use Rattle.base.specs.Written.{Written}
use Rattle.witness.specs.RowWords.{bits_from}
use Rattle.witness.proofs.row.write_word.Given as goal

abbrev pub invariant-loop-i : goal.invariant-loop-i
invariant-loop-i l = (l.rest ≡ l.w / 2 ^ l.i) × Written (bits_from l.start l.w) l.start (l.start + 2 * l.i) l.initial.row l.row
