-- Both words of one are known.
use mathlib.Core.Path.{◌∙◌}
use Rattle.field.specs.Gf.Laws.{words-one}
use Rattle.field.proofs.Gf128.one.Goals as goal

pub returns : goal.returns
returns c = c.of_words.ensures ∙ words-one
