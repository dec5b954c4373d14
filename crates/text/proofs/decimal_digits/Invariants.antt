-- `text::decimal_digits` meets its contract: the last digit first, and what is left of the number goes before the digits that stand.
-- Assumes nothing.
use Rattle.text.specs.Laws.Decimal.{Begun}
use Rattle.text.proofs.decimal_digits.Given as goal

abbrev pub invariant-loop-rest : goal.invariant-loop-rest
invariant-loop-rest l = Begun l.n l.rest l.start l.bytes

abbrev pub decreases-loop-rest : goal.decreases-loop-rest
decreases-loop-rest l = l.rest
