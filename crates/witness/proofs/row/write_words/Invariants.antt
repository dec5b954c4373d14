-- `witness::row::write_words` meets its contract: the words passed are written.
-- Assumes nothing.
use Rattle.std.proofs.Common.{◌*◌}
use Rattle.base.specs.Written.{Written}
use Rattle.witness.specs.Row.{bit_word}
use Rattle.witness.specs.RowWords.{bit_in}
use Rattle.witness.proofs.row.write_words.Given as goal

abbrev pub invariant-loop-j : goal.invariant-loop-j
invariant-loop-j l = Written (bit_word (bit_in l.words)) 0 (128 * l.j) l.initial.row l.row
