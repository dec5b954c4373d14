-- `filler::fill::ask_columns` meets its contract: each way out peels off the question before it.
-- Assumes nothing.
use Rattle.std.proofs.Common.{Err, leb, sym, ap, ap₂, ◌∙◌, arith, le-leb}
use Rattle.base.specs.Laws.Tests.{passed, refused}
use Rattle.field.specs.Gf.{same}
use Rattle.field.specs.Gf.Tests.{ne_differ, ne_same}
use Rattle.layout.specs.Laws.Sizes.{allowed-range}
use Rattle.filler.proofs.fill.ask_columns.Goals as goal

pub element-requires : goal.element-requires
element-requires c = let p = c.requires in omega (arith, allowed-range _ p.0, p.1)

pub returns-then-ne : goal.returns-then-ne
returns-then-ne c =
    ap Err c.refused.ensures
    ∙ refused _ _ _ (sym (ap₂ same c.element.ensures c.one.ensures) ∙ ne_differ _ _ c.ne.ensures c.if-ne.true)
    ∙ passed _ _ _ (sym (ap (leb _) c.first_faulty-place.ensures) ∙ le-leb _ _ c.if-place-cpi.false)

pub returns : goal.returns
returns c =
    passed _ _ _ (sym (ap₂ same c.element.ensures c.one.ensures) ∙ ne_same _ _ c.ne.ensures c.if-ne.false)
    ∙ passed _ _ _ (sym (ap (leb _) c.first_faulty-place.ensures) ∙ le-leb _ _ c.if-place-cpi.false)
