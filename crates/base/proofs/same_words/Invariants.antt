-- `base::same_words` meets its contract: what differs so far is 0 exactly where the words passed are the same.
-- Assumes nothing.
use mathlib.Core.Path.{◌≡◌}
use mathlib.Core.Logic.{◌↔◌}
use lib.ListN.{length}
use Rattle.base.specs.Laws.Compared.{SameBelow}
use Rattle.base.proofs.same_words.Given as goal

abbrev pub invariant-loop-x : goal.invariant-loop-x
invariant-loop-x l = (l.different ≡ 0) ↔ SameBelow l.a l.b (length l.yielded)
