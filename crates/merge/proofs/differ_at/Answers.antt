-- `merge::differ_at` meets its contract: the words read are those of the column in either batch.
-- Assumes nothing.
use mathlib.Core.Path.{ap, ap₂, ◌∙◌}
use mathlib.Core.Bool.{not}
use Rattle.field.specs.Gf.{same}
use Rattle.field.specs.Gf.Tests.{ne_not}
use Rattle.merge.proofs.differ_at.Goals as goal

pub returns : goal.returns
returns c = ne_not _ _ c.ne.ensures ∙ ap not (ap₂ same c.of_words-one.ensures c.of_words-other.ensures)
