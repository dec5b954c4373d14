-- `witness::assembly::assemble` meets its contract: both halves, one behind the other.
-- Assumes nothing.
use Rattle.std.proofs.Common.{◌*◌, arith}
use Rattle.layout.specs.Batch.{batch_words}
use Rattle.witness.specs.Assembly.{cycle_word, assembled}
use Rattle.witness.specs.Laws.Assembled.{half}
use Rattle.witness.specs.Laws.Halves.{halves-written}
use Rattle.witness.proofs.assembly.assemble.Goals as goal

pub returns : goal.returns
unfolding assembled
returns c =
    let a = c.args in
    halves-written (batch_words a.cpi) (2048 * a.cpi) (half a.cpi) (cycle_word a.cpi a.cycles.now) a.public.now
    (4096 * a.cpi) (omega arith) a.batch.now _ _
    c.requires.1.0 c.write_columns.ensures c.write_upper.ensures
