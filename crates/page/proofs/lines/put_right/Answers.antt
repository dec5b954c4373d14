-- `page::lines::put_right` meets its contract: the last bytes of the digits are the number right-aligned, which has no more of them.
-- Assumes nothing.
use mathlib.Core.Path.{ap}
use Rattle.base.specs.Text.{left}
use Rattle.text.specs.Laws.Decimal.{decimal-narrow}
use Rattle.text.specs.Laws.Put.{placed-as}
use Rattle.page.proofs.lines.put_right.Goals as goal

pub returns : goal.returns
returns c =
    let w = c.requires.1.1 in (
      placed-as _ _ _ _ _ _
          (ap (left c.args.width) (decimal-narrow _ _ c.decimal_digits-digits.ensures c.args.narrow c.requires.1.0 w.1.0
          w.1.1))
          c.put_in.ensures.0,
      c.put_in.ensures.1,
    )
