-- `packed::bytes::RowBytes::pack` meets its contract: two stretches of words, and the or of what both say.
-- Assumes nothing.
use Rattle.std.proofs.Common.{arith}
use Rattle.packed.specs.Laws.Named.{both-rows, named-out}
use Rattle.packed.proofs.bytes.RowBytes.pack.Goals as goal

pub returns-clause-words : goal.returns-clause-words
returns-clause-words c = named-out 1 _ _ _ _ (omega arith) (both-rows _ _ _ _ _ _ c.pack_words-low.ensures c.pack_words-high.ensures)
