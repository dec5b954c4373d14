-- `page::page_bytes` meets its contract: a row has as many lines as words, its mark's the head.
-- Assumes nothing.
use mathlib.Core.Path.{sym, ap, ◌∙◌}
use Rattle.page.specs.Pages.{page_bytes, bytes_at, bytes_for}
use Rattle.page.specs.Laws.Rows.{row_read_lem, read-few}
use Rattle.page.specs.Laws.Pages.{lines_are}
use Rattle.page.proofs.page_bytes.Goals as goal
use Rattle.std.specs.Prelude.{Ok}

pub overflow_sub-place : goal.overflow_sub-place
overflow_sub-place c = (read-few _ _ _ _ _ (sym c.read_row.ensures
    ∙ c.in_ok-place.was)).0

pub bytes_of_lines-requires : goal.bytes_of_lines-requires
bytes_of_lines-requires c = (read-few _ _ _ _ _ (sym c.read_row.ensures ∙ c.in_ok-place.was)).1

pub returns : goal.returns
unfolding bytes_for
returns c =
    let e = sym c.read_row.ensures ∙ c.in_ok-place.was in
    ap Ok (c.bytes_of_lines.ensures ∙ ap page_bytes (sym (lines_are _ _ _ (row_read_lem _ _ _ _ _ e).0)))
    ∙ ap (bytes_at c.args.listing.now) (sym e)
