-- An element is 0 or 1 where the high word is 0 and the low word 0 or 1.
use Rattle.field.specs.Gf.Words.{is_bit-is}
use Rattle.field.proofs.Gf128.is_bit.Goals as goal

pub returns : goal.returns
returns c = search is_bit-is
