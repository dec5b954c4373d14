-- `page::write_pages` meets its contract: head, terms and blanks, one behind the other, are the pages.
-- Assumes nothing.
use mathlib.Core.Path.{◌≡◌, sym, ap, ◌∙◌}
use Prim.Native.Nat.{ℕ, ◌+◌, ◌*◌, ◌-◌}
use native.Mathlib.Omega.{arith}
use mathlib.Core.List.{List}
use lib.ListN.{length, take, drop, length-drop}
use lib.Seq.{length-take-le}
use Rattle.circuit.specs.Batched.{batch_row}
use Rattle.base.specs.Lists.{joined}
use Rattle.text.specs.Laws.Put.{placed-then, placed-as}
use Rattle.page.specs.Lines.{head_line, row_lines}
use Rattle.page.specs.Pages.{page_bytes, sides_at}
use Rattle.page.specs.Laws.Pages.{room, row-lines, lines_are, lines-count, number_small, pages-put}
use Rattle.page.specs.Promises.{RowAt}
use Rattle.page.proofs.write_pages.Goals as goal

-- a row has as many terms as words behind its mark
terms : (ws : List ℕ) (start end : ℕ) → RowAt ws start end → length (take (end - (start + 1)) (drop (start + 1) ws)) ≡ end - (start + 1)
terms ws start end w =
    length-take-le (end - (start + 1)) (drop (start + 1) ws) (omega (arith, w.begins, w.fits, length-drop (start + 1) ws))

pub put_head-head-requires : goal.put_head-head-requires
put_head-head-requires c =
    let x = c.args.cycle.now in let b = x.in_batch in
    let l = number_small x.cpi c.args.relation _ _ _ b.size b.inside c.requires.1.0 c.rows_a_cycle.ensures in
    (omega (arith, room (c.args.end - c.args.start), c.requires.1.1, c.requires.0.begins), omega arith)

pub put_words-last-requires : goal.put_words-last-requires
put_words-last-requires c =
    let w = c.requires.0 in let a = c.args in
    omega (arith, room (a.end - a.start), c.requires.1.1, w.begins, terms _ _ _ w)

pub returns : goal.returns
unfolding joined
returns c =
    let w = c.requires.0 in let a = c.args in
    let x = a.cycle.now in let listing = a.listing.now in
    let number : c.rows_a_cycle.result * x.number + a.row ≡ batch_row a.relation x.number a.row =
    ap (λ (n : ℕ). n * x.number + a.row) c.rows_a_cycle.ensures in
    let last = c.put_words-last.ensures.1 in let fits = room (a.end - a.start) in let bytes = c.requires.1.1 in let begins = w.begins in
    let few = terms _ _ _ w in
    let lines = placed-then (omega arith) (placed-as _ _ _ _ _ _ (ap (head_line a.relation) number) c.put_head-head.ensures.0)
    c.put_words-last.ensures.0 in
    pages-put (row_lines x.cpi x.batch.now x.number a.relation a.row (sides_at listing a.start)) _ _ _ _
    (length c.put_words-last.new.page - c.put_words-last.result) _
    (placed-as _ _ _ _ _ _ (ap joined (sym (row-lines x.cpi x.batch.now x.number listing a.start a.end a.relation a.row w))) lines)
    c.put_left.ensures
    (bytes ∙ ap page_bytes (sym (lines-count x.cpi x.batch.now x.number a.relation a.row (sides_at listing a.start)
    ∙ lines_are listing a.start a.end w)))
    (omega arith) (omega arith)
