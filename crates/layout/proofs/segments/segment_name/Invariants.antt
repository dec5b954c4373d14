-- `layout::segments::segment_name` meets its contract: at every turn, the name among the segments from here on is the column's.
-- Assumes nothing.
use mathlib.Core.Path.{◌≡◌}
use lib.ListN.{drop}
use Rattle.layout.specs.Segments.{segments, name_in, segment_name}
use Rattle.layout.proofs.segments.segment_name.Given as goal

abbrev pub invariant-loop-s : goal.invariant-loop-s
invariant-loop-s l = name_in (drop l.s-index segments) l.column ≡ segment_name l.column
