-- `text::put_decimal` meets its contract: the part from the first digit on is the digits.
-- Assumes nothing.
use Rattle.text.specs.Laws.Decimal.{decimal-starts, decimal-tail}
use Rattle.text.specs.Laws.Put.{put_as}
use Rattle.text.proofs.put_decimal.Goals as goal

pub slice_bounds-put-count : goal.slice_bounds-put-count
slice_bounds-put-count c = search decimal-starts

pub slice_bounds-put-start : goal.slice_bounds-put-start
slice_bounds-put-start c = search decimal-starts

pub returns : goal.returns
returns c = search (put_as, decimal-tail)
