-- The sum is defined word by word, as the code goes.
use Rattle.field.specs.Gf.Words.{added_is}
use Rattle.field.proofs.Gf128.add.Goals as goal

pub returns : goal.returns
returns c = search added_is
