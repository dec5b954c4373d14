-- `packed::bytes::RowBytes::read` meets its contract: the words below i are written.
-- Assumes nothing.
use mathlib.Core.Path.{refl, ◌∙◌}
use native.Mathlib.Omega.{arith}
use Rattle.base.specs.Laws.Written.{written_all}
use Rattle.packed.proofs.Spelled.{words-all}
use Rattle.packed.proofs.bytes.RowBytes.read.Goals as goal

pub returns : goal.returns
returns c = written_all _ _ _ _ _ refl (omega arith) c.loop-i.invariant.1 ∙ words-all _ _
