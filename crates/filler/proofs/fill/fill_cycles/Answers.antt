-- `filler::fill::fill_cycles` meets its contract: the cycles passed are filled; all of them make the batch that the rows determine.
-- Assumes nothing.
use Rattle.std.proofs.Common.{ℕ, sym, refl, ap, ◌∙◌, add-one, arith}
use Rattle.layout.specs.Laws.Sizes.{allowed-range}
use Rattle.filler.specs.Words.{fill_cycle, fill_cycles}
use Rattle.filler.specs.Laws.Cycles.{all-cycles}
use Rattle.filler.proofs.fill.fill_cycles.Goals as goal

pub loop-cycle-init : goal.loop-cycle-init
unfolding fill_cycles
loop-cycle-init c = refl

pub fill_cycle-requires : goal.fill_cycle-requires
fill_cycle-requires c =
    let p = c.requires in
    record { few = (allowed-range _ p.size).1; inside = omega (arith, allowed-range _ p.size); words = c.loop-cycle.auto.batch ∙ p.words }

pub loop-cycle-preserved : goal.loop-cycle-preserved
unfolding fill_cycles
loop-cycle-preserved c =
    let l = c.loop-cycle in let a = c.args in
    c.fill_cycle.ensures ∙ ap (fill_cycle a.cpi l.cycle) l.invariant
    ∙ ap (λ (n : ℕ). fill_cycles a.cpi n a.batch.now) (sym (add-one l.cycle))

pub returns : goal.returns
returns c =
    let l = c.loop-cycle in let a = c.args in let p = c.requires in
    l.invariant ∙ ap (λ (n : ℕ). fill_cycles a.cpi n a.batch.now) (omega arith)
    ∙ all-cycles a.cpi a.batch.now p.words p.one-is (allowed-range _ p.size).0
