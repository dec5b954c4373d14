-- `witness::assembly::write_column` meets its contract: the cycles passed stand side by side.
-- Assumes nothing.
use Rattle.std.proofs.Common.{◌+◌, ◌*◌, ◌≤◌}
use Rattle.witness.specs.Assembly.{cycle_word}
use Rattle.base.specs.Written.{Written}
use Rattle.witness.proofs.assembly.write_column.Given as goal

abbrev pub invariant-loop-cycle : goal.invariant-loop-cycle
invariant-loop-cycle l = (l.column * l.cpi + l.cpi ≤ 2048 * l.cpi) × (l.cpi ≤ 256)
    × Written (cycle_word l.cpi l.cycles) (2 * (l.column * l.cpi)) (2 * (l.column * l.cpi) + 2 * l.cycle) l.initial.batch l.batch
