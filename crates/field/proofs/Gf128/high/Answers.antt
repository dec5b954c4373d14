-- It is the high word.
use Rattle.field.specs.Gf.Words.{high_is}
use Rattle.field.proofs.Gf128.high.Goals as goal

pub returns : goal.returns
returns c = search high_is
