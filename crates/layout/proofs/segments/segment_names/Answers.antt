-- `layout::segments::segment_names` meets its contract: the names, one after the other, are the first chunk of themselves.
-- Assumes nothing.
use Rattle.std.proofs.Common.{map, take, ap, ◌∙◌, arith, take_all}
use Rattle.std.proofs.lemmas.Option.{MatchOption-at_some}
use Rattle.layout.specs.Segments.{segments, padded, segment_names}
use Rattle.layout.proofs.Table.{flat_joined, bytes_of}
use Rattle.layout.proofs.segments.segment_names.Goals as goal

pub returns : goal.returns
unfolding segments
returns c =
    let chunk = (MatchOption-at_some _ _ _ c.unwrap.ensures c.first_chunk.ensures.cases).same in
    let flat = c.as_flattened.ensures.value ∙ flat_joined (map (λ s. padded s.name) segments) in
    chunk ∙ ap (take 171) flat ∙ take_all 171 (segment_names segments) (omega (arith, bytes_of))
