-- `page::lines::put_element` meets its contract: the digits of the two words, one behind the other.
-- Assumes nothing.
use mathlib.Core.Path.{ap₂, ◌∙◌}
use mathlib.Core.List.{◌++◌}
use Prim.Native.Nat.{◌+◌, ◌*◌}
use native.Mathlib.Omega.{arith}
use lib.ListN.{get_or}
use Rattle.base.specs.Text.{left}
use Rattle.text.specs.Laws.Put.{placed-then, placed-as}
use Rattle.page.specs.Laws.Lines.{element-digits}
use Rattle.page.proofs.lines.put_element.Goals as goal

pub returns : goal.returns
returns c =
    let low = get_or c.args.batch.now (2 * c.args.place) 0 in let high = get_or c.args.batch.now (2 * c.args.place + 1) 0 in (
      placed-as _ _ _ _ _ _
          (ap₂ (λ x y. left 16 x ++ left 20 y) c.hex_digits-high.ensures c.hex_digits-low.ensures
          ∙ element-digits low high (omega (arith, c.type_inv.batch (2 * c.args.place))))
          (placed-then (omega arith) c.put_in-middle.ensures.0 c.put_in.ensures.0),
      omega arith,
    )
