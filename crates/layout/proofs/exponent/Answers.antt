-- `layout::exponent` meets its contract: a size is 2 to the number of its trailing zeros, and what is not so made is no size.
-- Assumes nothing.
use mathlib.Core.Path.{sym, ◌∙◌}
use native.Mathlib.Omega.{arith}
use Rattle.layout.specs.Laws.Exponent.{one_shifted, exponent-found, exponent-missed}
use Rattle.layout.proofs.exponent.Goals as goal

pub returns-then-k-gt8 : goal.returns-then-k-gt8
returns-then-k-gt8 c = exponent-missed _ (λ few e. omega arith)

pub returns-then-k-cpi : goal.returns-then-k-cpi
returns-then-k-cpi c = exponent-found _ _ (omega arith) (sym (one_shifted _ (omega arith)) ∙ c.if-k-cpi.true)

pub returns-else-k-cpi : goal.returns-else-k-cpi
returns-else-k-cpi c = exponent-missed _ (λ few e. c.if-k-cpi.false (one_shifted _ few ∙ e))
