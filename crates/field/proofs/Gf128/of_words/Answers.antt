-- An element is its two words.
use Rattle.field.specs.Gf.Words.{words_are}
use Rattle.field.proofs.Gf128.of_words.Goals as goal

pub returns : goal.returns
returns c = search words_are
