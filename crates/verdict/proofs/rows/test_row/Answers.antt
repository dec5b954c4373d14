-- `verdict::rows::test_row` meets its contract: the row's sums are balanced where it holds.
-- Assumes nothing.
use mathlib.Core.Path.{ap, ◌∙◌}
use Rattle.field.specs.Gf.{same}
use Rattle.field.specs.Gf.Tests.{eq_same}
use Rattle.verdict.specs.Row.{balanced}
use Rattle.verdict.proofs.rows.test_row.Goals as goal

pub returns : goal.returns
unfolding balanced
returns c =
    let s = c.row_sums-row in
    record {
      holds-is = eq_same _ _ c.eq.ensures ∙ ap (λ x. same x s.result.sums.c) c.mul.ensures ∙ ap balanced s.ensures.sums-are;
      ends = s.ensures.ends;
    }
