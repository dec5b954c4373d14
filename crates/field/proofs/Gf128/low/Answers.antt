-- It is the low word.
use Rattle.field.specs.Gf.Words.{low-is}
use Rattle.field.proofs.Gf128.low.Goals as goal

pub returns : goal.returns
returns c = search low-is
