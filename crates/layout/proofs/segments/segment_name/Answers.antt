-- `layout::segments::segment_name` meets its contract: at every turn, the name among the segments from here on is the column's.
-- Assumes nothing.
use mathlib.Core.Path.{refl}
use Rattle.layout.specs.Segments.{segments}
use Rattle.layout.proofs.Table.{stops, goes, ends}
use Rattle.layout.proofs.segments.segment_name.Goals as goal

pub returns-then-s-column : goal.returns-then-s-column
unfolding segments
returns-then-s-column c = stops _ c.loop-s.s-index c.args.column refl c.loop-s-test.true c.if-s-column.true c.loop-s.invariant

pub loop-s-preserved : goal.loop-s-preserved
unfolding segments
loop-s-preserved c = goes _ c.loop-s.s-index c.args.column refl c.loop-s-test.true c.if-s-column.false c.loop-s.invariant

pub returns : goal.returns
returns c = ends c.loop-s.s-index c.args.column c.loop-s-test.false c.loop-s.invariant
