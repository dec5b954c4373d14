-- `packed::one::pack_words` meets its contract: the words passed stand in their places.
-- Assumes nothing.
use Rattle.std.proofs.Common.{arith}
use Rattle.packed.specs.Laws.One.{next_row}
use Rattle.packed.proofs.one.pack_words.Goals as goal

pub loop-k-preserved : goal.loop-k-preserved
loop-k-preserved g c = (omega arith, (omega arith, search next_row))
