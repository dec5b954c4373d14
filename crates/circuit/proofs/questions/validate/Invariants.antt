-- `circuit::questions::validate` meets its contract: what is left, asked from here, answers as the whole does, at every turn.
-- Assumes nothing.
use mathlib.Core.Path.{◌≡◌}
use lib.ListN.{drop}
use Rattle.circuit.specs.Valid.{valid_from}
use Rattle.circuit.proofs.questions.validate.Given as goal

abbrev pub invariant-loop-i : goal.invariant-loop-i
invariant-loop-i l = valid_from l.i l.low l.kind (drop l.i l.listing) ≡ valid_from 0 0 0 l.listing
