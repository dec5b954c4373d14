-- `page::lines::put_head` meets its contract: relation, blank, number and blanks are the line.
-- Assumes nothing.
use mathlib.Core.Path.{ap, ◌∙◌}
use mathlib.Core.List.{◌++◌}
use native.Mathlib.Omega.{arith}
use Rattle.base.specs.Text.{left}
use Rattle.text.specs.Digits.{right}
use Rattle.text.specs.Laws.Put.{placed-then, placed-as}
use Rattle.page.specs.Laws.Lines.{head-pieces}
use Rattle.page.proofs.lines.put_head.Goals as goal

pub returns : goal.returns
returns c = (
  placed-as _ _ _ _ _ _
      (ap (λ t. left 4 t ++ left 56 (right 7 c.args.row)) c.relation_name-name.ensures ∙ head-pieces c.args.relation
      c.args.row)
      (placed-then (omega arith) c.put_in-number.ensures.0 c.put_right.ensures.0),
  omega arith,
)
