-- `witness::assembly::write_columns` meets its contract: the columns passed are written.
-- Assumes nothing.
use Rattle.std.proofs.Common.{◌*◌}
use Rattle.witness.specs.Assembly.{cycle_word}
use Rattle.base.specs.Written.{Written}
use Rattle.witness.proofs.assembly.write_columns.Given as goal

abbrev pub invariant-loop-column : goal.invariant-loop-column
invariant-loop-column l = Written (cycle_word l.cpi l.cycles) 0 (2 * (l.column * l.cpi)) l.initial.batch l.batch
