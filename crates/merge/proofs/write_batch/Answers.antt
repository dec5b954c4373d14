-- `merge::write_batch` meets its contract: the columns, the public words and the zeros, one behind the other.
-- Assumes nothing.
use Rattle.merge.specs.Laws.Pieces.{batch-written}
use Rattle.merge.proofs.write_batch.Goals as goal

pub returns : goal.returns
returns c =
    let a = c.args in
    batch-written a.cpi a.first.now a.second.now a.batch.now _ _ _ c.requires.0.first-words c.requires.1
    c.write_lower.ensures c.copy_at.ensures c.clear_from.ensures
