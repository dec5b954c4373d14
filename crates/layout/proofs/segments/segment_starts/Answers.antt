-- `layout::segments::segment_starts` meets its contract: the starts are those of the rows.
-- Assumes nothing.
use borrow.Author.Rules.{rules}
use Rattle.layout.specs.Segments.{segments}
use Rattle.layout.proofs.Table.{starts_read}
use Rattle.layout.proofs.segments.segment_starts.Goals as goal

pub returns : goal.returns
unfolding segments
returns c =
    let m = c.from_fn.ensures.items in
    starts_read c.from_fn.result m.long (λ k h. let t = (m.at k 0 h).2 in search rules)
