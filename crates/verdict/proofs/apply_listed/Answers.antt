-- `verdict::apply_listed` meets its contract: in a listing in order the terms of a row are sorted.
-- Assumes nothing.
use mathlib.Core.Path.{sym, subst, ◌∙◌}
use Rattle.verdict.specs.Apply.{RowFound}
use Rattle.verdict.specs.Laws.Apply.{row-found}
use Rattle.verdict.proofs.apply_listed.Goals as goal

pub apply_row-requires : goal.apply_row-requires
apply_row-requires c =
    let p = c.requires in
    (p.0, (p.1, subst (RowFound _) (sym c.find_row.ensures) (row-found _ _ _ (sym c.validate.ensures ∙ c.in_ok-validate.was))))
