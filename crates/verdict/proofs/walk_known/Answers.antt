-- `verdict::walk_known` meets its contract: each table is the listing of its name, which is in order, so the loops may start at once.
-- Assumes nothing.
use mathlib.Core.Path.{ap, ◌∙◌}
use Rattle.circuit.specs.Valid.{validated}
use Rattle.strict.specs.declared.Known.TheVariants.{House, Strict}
use Rattle.strict.proofs.Laws.Known.{in_order}
use Rattle.verdict.proofs.walk_known.Goals as goal

pub walk-requires : goal.walk-requires
walk-requires c =
    let pre = c.requires in
    (pre.0, (pre.1, ap validated c.build_circuit-listing.ensures ∙ in_order House))

pub walk-requires-in-Strict : goal.walk-requires-in-Strict
walk-requires-in-Strict c =
    let pre = c.requires in
    (pre.0, (pre.1, ap validated c.build_strict-listing.ensures ∙ in_order Strict))
