-- `page::lines::put_term` meets its contract: the mapping gives the batch column, and refuses no column of a cycle of the batch.
-- Assumes nothing.
use mathlib.Core.Path.{sym, ◌∙◌}
use native.Mathlib.Omega.{arith}
use Rattle.text.specs.Laws.Put.{placed-as}
use Rattle.layout.specs.Laws.Mapping.{column-inside}
use Rattle.layout.specs.Laws.Sizes.{allowed-range}
use Rattle.page.specs.Laws.Places.{placed-column, never-refused, term-line}
use Rattle.page.proofs.lines.put_term.Goals as goal

pub put_placed-requires : goal.put_placed-requires
put_placed-requires c =
    let x = c.args.cycle.now in let b = x.in_batch in let p = c.requires in
    let e = placed-column x.cpi c.args.column x.number _ b.size p.1.0 b.inside (sym c.map_z_col.ensures ∙ c.in-Ok.is) in
    let l = column-inside x.cpi c.args.column x.number p.1.0 b.inside in
    let w = b.words in let s = allowed-range _ b.size in
    (p.0, (omega arith, (omega arith, p.1.1)))

pub returns-in-Ok : goal.returns-in-Ok
returns-in-Ok c =
    let x = c.args.cycle.now in let b = x.in_batch in (
      placed-as _ _ _ _ _ _
          (term-line x.cpi x.number c.args.column _ x.batch.now c.args.side c.args.k
          (placed-column x.cpi c.args.column x.number _ b.size c.requires.1.0 b.inside
          (sym c.map_z_col.ensures ∙ c.in-Ok.is)))
          c.put_placed.ensures.0,
      c.put_placed.ensures.1,
    )

pub returns-in-Err : goal.returns-in-Err
returns-in-Err c =
    let x = c.args.cycle.now in let b = x.in_batch in
    absurd (never-refused x.cpi c.args.column x.number _ b.size c.requires.1.0 b.inside
    (sym c.map_z_col.ensures ∙ c.in-Err.is))
