-- `page::lay_row` meets its contract: each way out is the case that its questions pick.
-- Assumes nothing.
use mathlib.Core.Path.{sym, ◌∙◌}
use Rattle.page.specs.Laws.Rows.{row_read_lem, read-few}
use Rattle.page.specs.Laws.Ways.{laid-15, laid-16, laid-yes}
use Rattle.page.proofs.lay_row.Goals as goal

pub overflow_sub-place : goal.overflow_sub-place
overflow_sub-place c = (read-few _ _ _ _ _ (sym
    c.read_row.ensures ∙ c.in_ok-place.was)).0

pub bytes_of_lines-requires : goal.bytes_of_lines-requires
bytes_of_lines-requires c = (read-few _ _ _ _ _ (sym c.read_row.ensures ∙ c.in_ok-place.was)).1

pub returns-then-page-bytes_of_lines : goal.returns-then-page-bytes_of_lines
returns-then-page-bytes_of_lines c =
    let x =
    c.args in
    laid-16 x.cpi x.listing.now x.batch.now x.relation x.row x.cycle x.page.now _ _ _
    (sym c.read_row.ensures ∙ c.in_ok-place.was) c.bytes_of_lines.ensures _ c.if-page-bytes_of_lines.true c.refused.ensures

pub returns-then-cpi-cycle : goal.returns-then-cpi-cycle
returns-then-cpi-cycle c =
    let x = c.args in
    laid-15 x.cpi x.listing.now x.batch.now x.relation x.row x.cycle x.page.now _ _ _
    (sym c.read_row.ensures ∙ c.in_ok-place.was) c.bytes_of_lines.ensures _ c.if-page-bytes_of_lines.false c.if-cpi-cycle.true
    c.refused-then-cpi-cycle.ensures

pub write_pages-requires : goal.write_pages-requires
write_pages-requires c =
    let w = row_read_lem _ _ _ _ _ (sym c.read_row.ensures ∙ c.in_ok-place.was) in
    (w.0, (w.1, c.if-page-bytes_of_lines.false ∙ c.bytes_of_lines.ensures))

pub returns : goal.returns
returns c =
    let x = c.args in
    laid-yes x.cpi x.listing.now x.batch.now x.relation x.row x.cycle x.page.now _ _ _
    (sym c.read_row.ensures ∙ c.in_ok-place.was) c.bytes_of_lines.ensures _ c.if-page-bytes_of_lines.false c.if-cpi-cycle.false
    c.write_pages.ensures
