-- `filler::words::put_word` meets its contract: the columns passed hold the bits of w, and `rest` is w without them.
-- Assumes nothing.
use Rattle.std.proofs.Common.{◌≡◌, ◌/◌, ◌^◌}
use Rattle.filler.specs.Blocks.{put_word}
use Rattle.filler.proofs.words.put_word.Given as goal

abbrev pub invariant-loop-i : goal.invariant-loop-i
invariant-loop-i l = (l.rest ≡ l.w / 2 ^ l.i) × (l.batch ≡ put_word l.cpi l.cycle l.column l.w l.i l.initial.batch)
