-- The sum so far, and a times the rest of b, make the product all along. The rest of b is halved at each turn.
use mathlib.Core.Path.{◌≡◌}
use Rattle.field.specs.Gf.{value, Proper, added, product}
use Rattle.field.proofs.Gf128.shift_and_add.Given as goal

abbrev pub invariant-loop-a : goal.invariant-loop-a
invariant-loop-a l = (Proper l.a) × (Proper l.b) × (added l.sum (product l.a l.b) ≡ product l.initial.a l.initial.b)

abbrev pub decreases-loop-a : goal.decreases-loop-a
decreases-loop-a l = value l.b
