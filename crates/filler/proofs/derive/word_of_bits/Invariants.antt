-- `filler::derive::word_of_bits` meets its contract: w is the word of the bits behind those that are left.
-- Assumes nothing.
use Rattle.std.proofs.Common.{◌≡◌, ◌^◌, ◌<◌, Bool, List, ◌++◌, length}
use Rattle.base.specs.Fields.{pack, flags}
use Rattle.filler.proofs.derive.word_of_bits.Given as goal

abbrev pub invariant-loop-bit : goal.invariant-loop-bit
invariant-loop-bit g l =
    (behind : List Bool) × (l.fn.bits ≡ l.bit-iterator.iter.rest.now ++ behind)
    × (g.row.N < 64 → (l.w ≡ pack (flags behind)) × (l.w < 2 ^ length behind))
