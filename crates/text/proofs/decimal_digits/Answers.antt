-- `text::decimal_digits` meets its contract: the last digit first, and what is left of the number goes before the digits that stand.
-- Assumes nothing.
use borrow.Author.Rules.{rules}
use Rattle.text.specs.Laws.Decimal.{begun, begun_more, begun_all}
use Rattle.text.proofs.decimal_digits.Goals as goal

pub loop-rest-init : goal.loop-rest-init
loop-rest-init c = search (begun, rules)

pub loop-rest-preserved : goal.loop-rest-preserved
loop-rest-preserved c = search (begun_more, rules)

pub returns : goal.returns
returns c = search (begun_all, rules)
