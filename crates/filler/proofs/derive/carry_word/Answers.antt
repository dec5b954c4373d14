-- `filler::derive::carry_word` meets its contract: two sums that wrap are one, and the rest is its definition.
-- Assumes nothing.
use Rattle.std.proofs.Common.{refl, ap}
use lib.Bits.{bit_xor}
use Rattle.filler.specs.Derive.{carry_word}
use Rattle.base.specs.Laws.Words.{wrap-twice}
use Rattle.filler.proofs.derive.carry_word.Goals as goal

pub returns : goal.returns
unfolding carry_word
returns c = let a = c.args in ap (bit_xor (bit_xor a.a a.b)) (wrap-twice a.a a.b a.s refl refl)
