-- `packed::bytes::word_at` meets its contract: the first chunk behind the index are its 8 bytes.
-- Assumes nothing.
use Rattle.std.proofs.Common.{◌≡◌, length, take, drop, ap, ◌∙◌, arith}
use Rattle.std.proofs.lemmas.Option.{MatchOption-at_some}
use Rattle.std.proofs.lemmas.Slice.{between_to_end}
use Rattle.std.proofs.lemmas.List.{take-take}
use Rattle.std.specs.List.{between}
use Rattle.packed.specs.Bytes.{number_of}
use Rattle.packed.proofs.Spelled.{eight_bytes}
use Rattle.packed.proofs.bytes.word_at.Goals as goal

pub returns : goal.returns
returns c =
    let bs = c.args.bytes.now in let w = c.unwrap.result.now in
    let rest = between_to_end bs c.args.at (length bs) (omega arith) in
    let spelled : c.from_le_bytes.result ≡ number_of (take 8 w) = omega (arith, eight_bytes w, c.from_le_bytes.ensures) in
    let chunk : w ≡ take 8 (between c.args.at (length bs) bs) = (MatchOption-at_some _ _ _ c.unwrap.ensures c.first_chunk.ensures.cases).same in
    let whole : take 8 w ≡ take 8 (drop c.args.at bs) = ap (take 8) (chunk ∙ ap (take 8) rest) ∙ take-take 8 8 (drop c.args.at bs) (omega arith) in
    spelled ∙ ap number_of whole
