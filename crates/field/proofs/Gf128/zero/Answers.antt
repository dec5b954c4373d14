-- Both words of zero are known.
use mathlib.Core.Path.{◌∙◌}
use Rattle.field.specs.Gf.Laws.{words-zero}
use Rattle.field.proofs.Gf128.zero.Goals as goal

pub returns : goal.returns
returns c = c.of_words.ensures ∙ words-zero
