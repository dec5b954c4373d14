-- `witness::branch::below_signed` meets its contract: two words with equal top bits are in the order of their values, others in the other.
-- Assumes nothing.
use Rattle.std.proofs.Common.{rules}
use Rattle.witness.proofs.Signs.{same-signs, other-signs}
use Rattle.witness.proofs.branch.below_signed.Goals as goal

pub returns-then-x-y : goal.returns-then-x-y
returns-then-x-y c = same-signs _ _ (search rules) (search rules) c.if-x-y.true

pub returns : goal.returns
returns c = other-signs _ _ (search rules) (search rules) c.if-x-y.false
