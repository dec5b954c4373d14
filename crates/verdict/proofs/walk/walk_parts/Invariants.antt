-- `verdict::walk::walk_parts` meets its contract: at each loop the verdict on what is left, with the counts so far, is the whole verdict.
-- Assumes nothing.
use mathlib.Core.Path.{◌≡◌}
use mathlib.Core.Bool.{true}
use Prim.Native.Nat.{◌+◌, ◌-◌, ◌*◌, ◌≤◌}
use lib.ListN.{length, drop}
use Rattle.verdict.specs.Row.{cycle_of}
use Rattle.verdict.specs.RowParts.{sorted}
use Rattle.verdict.specs.Counts.{none, rows}
use Rattle.verdict.specs.Check.{met, run}
use Rattle.verdict.specs.StillToTest.{all_parts, left_cycles, left_rows}
use Rattle.verdict.proofs.walk.walk_parts.Given as goal

abbrev pub invariant-rows : goal.invariant-rows
invariant-rows l = (l.at ≤ length l.part) × (length l.part ≤ 16384) × (rows l.tested ≤ l.part-index * 4194304 + l.cycle * 16384 + l.at) × (sorted 3 (drop l.at l.part) ≡ true)
    × (run (met (cycle_of l.cpi l.batch)) l.tested (left_rows l.cpi l.bin l.fld l.part l.part-index l.cycle l.at)
    ≡ run (met (cycle_of l.cpi l.batch)) none (all_parts l.cpi l.bin l.fld 0))

abbrev pub decreases-rows : goal.decreases-rows
decreases-rows l = length l.part - l.at

abbrev pub invariant-cycles : goal.invariant-cycles
invariant-cycles l = (rows l.tested ≤ l.part-index * 4194304 + l.cycle * 16384)
    × (run (met (cycle_of l.cpi l.batch)) l.tested (left_cycles l.cpi l.bin l.fld l.part-index l.cycle)
    ≡ run (met (cycle_of l.cpi l.batch)) none (all_parts l.cpi l.bin l.fld 0))

abbrev pub invariant-loop-part : goal.invariant-loop-part
invariant-loop-part l = (rows l.tested ≤ l.part-index * 4194304)
    × (run (met (cycle_of l.cpi l.batch)) l.tested (all_parts l.cpi l.bin l.fld l.part-index) ≡ run (met (cycle_of l.cpi l.batch)) none (all_parts l.cpi l.bin l.fld 0))
