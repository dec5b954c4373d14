-- `page::line::place_decimal` meets its contract: there is room for as many digits as there are at most.
-- Assumes nothing.
use native.Mathlib.Omega.{arith}
use Rattle.text.specs.Laws.Decimal.{decimal-most}
use Rattle.text.specs.Laws.Put.{put-fits}
use Rattle.page.proofs.line.place_decimal.Goals as goal

pub returns : goal.returns
returns c =
    let d = c.put_decimal in let most = decimal-most 20 c.args.n in
    let p = put-fits _ _ _ _ _ (omega arith) d.ensures in (p, omega arith)
