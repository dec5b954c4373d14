-- `packed::storage::hand_over` meets its contract: words of bits are handed over in their order, and others are not.
-- Assumes nothing.
use Rattle.packed.proofs.Laws.Stored.{row_in, not-handed, handed-batch, handed-cycles}
use Rattle.packed.proofs.storage.hand_over.Goals as goal

pub pack_words-requires : goal.pack_words-requires
pack_words-requires c = search row_in

pub returns-then-pack_words-ne0 : goal.returns-then-pack_words-ne0
returns-then-pack_words-ne0 c = search not-handed

pub returns-in-Batch : goal.returns-in-Batch
returns-in-Batch c = search handed-batch

pub returns-in-Cycles : goal.returns-in-Cycles
returns-in-Cycles c = search handed-cycles
