-- `filler::conditions::system` meets its contract: the element that it compares with is RD with high word 0.
-- Assumes nothing.
use Rattle.std.proofs.Common.{ap, ◌∙◌}
use Rattle.field.specs.Gf.{same}
use Rattle.field.specs.Gf.Tests.{eq_same}
use Rattle.filler.proofs.conditions.system.Goals as goal

pub returns : goal.returns
returns c = let e = eq_same _ _ c.eq.ensures ∙ ap (same c.args.output) c.of_words.ensures in cc e
