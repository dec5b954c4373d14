-- `merge::write_column` meets its contract: a run of the first and one of the second, one behind the other.
-- Assumes nothing.
use Rattle.merge.specs.Laws.Pieces.{column-written}
use Rattle.merge.proofs.write_column.Goals as goal

pub returns : goal.returns
returns c =
    let a = c.args in let p = c.requires in
    column-written a.cpi a.first.now a.second.now a.column p.1.1 _ _ _ p.0.first-words p.0.second-words p.1.0
    c.copy_at.ensures c.copy_at-2.ensures
