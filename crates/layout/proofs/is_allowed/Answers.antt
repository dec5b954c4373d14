-- `layout::is_allowed` meets its contract: sizes are the numbers that have an exponent.
-- Assumes nothing.
use mathlib.Core.Path.{ap, ◌∙◌}
use Prim.Native.Nat.{ℕ}
use lib.Dec.{ltb}
use Rattle.layout.specs.Laws.Exponent.{exponent-allowed}
use Rattle.layout.proofs.is_allowed.Goals as goal

pub returns : goal.returns
returns c = ap (λ (k : ℕ). ltb k 9) c.exponent.ensures ∙ exponent-allowed _
