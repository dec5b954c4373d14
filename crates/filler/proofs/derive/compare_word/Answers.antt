-- `filler::derive::compare_word` meets its contract: each of the nine bits is what its function gives.
-- Assumes nothing.
use Rattle.std.proofs.Common.{arith, ◌≡◌, Bool, true, false, not, refl}
use Rattle.base.specs.Bits.{◌⊻◌}
use Rattle.filler.specs.Laws.Loops.{compare-is, xor_is}
use Rattle.filler.proofs.derive.compare_word.Goals as goal

not_is : (b : Bool) → not b ≡ b ⊻ true
not_is true = refl
not_is false = refl

pub returns : goal.returns
returns c =
    let a = c.args in (
      compare-is a.e a.t a.f (xor_is _ _) (not_is _) (xor_is _ _) c.picked-ceq.ensures (xor_is _ _) c.picked-clt.ensures
          (xor_is _ _) (not_is _) c.picked-clu.ensures (c.word_of_bits.ensures (omega arith)).0,
      (c.word_of_bits.ensures (omega arith)).1,
    )
