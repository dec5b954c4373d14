-- `merge::write_columns` meets its contract: the columns passed are written.
-- Assumes nothing.
use Prim.Native.Nat.{◌*◌}
use Rattle.base.specs.Written.{Written}
use Rattle.merge.specs.Merged.{merged_word}
use Rattle.merge.proofs.write_columns.Given as goal

abbrev pub invariant-loop-column : goal.invariant-loop-column
invariant-loop-column l = Written (merged_word l.cpi l.first l.second) 0 (4 * (l.column * l.cpi)) l.initial.batch l.batch
