-- `page::lines::put_placed` meets its contract: the pieces, one behind the other, are the line.
-- Assumes nothing.
use mathlib.Core.Path.{ap₂, ◌∙◌}
use mathlib.Core.List.{◌++◌}
use native.Mathlib.Omega.{arith}
use Rattle.base.specs.Text.{left}
use Rattle.text.specs.Digits.{right, hex}
use Rattle.text.specs.Laws.Put.{placed-then, placed-as}
use Rattle.field.specs.Gf.{value}
use Rattle.verdict.specs.Row.{element_at}
use Rattle.page.specs.Lines.{exponent_text}
use Rattle.page.specs.Laws.Lines.{line-pieces}
use Rattle.page.proofs.lines.put_placed.Goals as goal

pub returns : goal.returns
returns c =
    let element = value (element_at c.args.batch.now c.args.place) in (
      placed-as _ _ _ _ _ _
          (ap₂ (λ t u. left 2 t ++ left 8 (right 7 c.args.place) ++ left 10 u ++ left 4 (exponent_text c.args.k) ++ left 36
          (hex 32 element))
          c.side_name-letter.ensures c.segment_name-name.ensures
          ∙ line-pieces c.args.side c.args.place c.args.column c.args.k element c.requires.1.1.0 c.requires.1.1.1)
          (placed-then (omega arith)
          (placed-then (omega arith)
          (placed-then (omega arith) (placed-then (omega arith) c.put_in-number.ensures.0 c.put_right-segment.ensures.0)
          c.put_in-exponent.ensures.0)
          c.put_exponent-element.ensures.0)
          c.put_element.ensures.0),
      omega arith,
    )
