-- `filler::words::read_word` meets its contract: from the top bit down, w is the word of the columns passed.
-- Assumes nothing.
use Rattle.std.proofs.Common.{◌≡◌, ◌+◌, ◌-◌}
use Rattle.base.specs.Bits.{word}
use Rattle.verdict.specs.Row.{bits_of}
use Rattle.filler.proofs.words.read_word.Given as goal

abbrev pub invariant-loop-i : goal.invariant-loop-i
invariant-loop-i l = (l.w ≡ word (bits_of l.cpi l.batch l.cycle) (l.column + l.i) (64 - l.i))
