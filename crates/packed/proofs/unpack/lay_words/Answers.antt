-- `packed::unpack::lay_words` meets its contract: the words passed stand as elements, and nothing behind them moved.
-- Assumes nothing.
use Rattle.std.proofs.Common.{arith}
use Rattle.packed.proofs.Laws.Unpack.{next-unpacked}
use Rattle.packed.proofs.unpack.lay_words.Goals as goal

pub loop-k-preserved : goal.loop-k-preserved
loop-k-preserved c = (omega arith, search next-unpacked)
