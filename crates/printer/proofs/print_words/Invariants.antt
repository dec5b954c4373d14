-- `printer::print_words` meets its contract: as far as the loop has come, the lines of the words so far are written.
-- Assumes nothing.
use Rattle.std.proofs.Common.{take}
use Rattle.std.specs.Prelude.{flat_map}
use Rattle.std.specs.Io.KnownBytes.{Appends}
use Rattle.printer.specs.Hex.{line_of}
use Rattle.printer.proofs.print_words.Given as goal

abbrev pub invariant-loop-word : goal.invariant-loop-word
invariant-loop-word g l = Appends (g.W.Write.contents l.initial.out) (g.W.Write.contents l.out) (flat_map line_of (take l.word-index l.words))
