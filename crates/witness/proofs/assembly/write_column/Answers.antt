-- `witness::assembly::write_column` meets its contract: the cycles passed stand side by side.
-- Assumes nothing.
use Rattle.std.proofs.Common.{◌≡◌, ℕ, ◌+◌, ◌-◌, ◌*◌, ◌<◌, ◌≤◌, length, get_or, sym, ap, ◌∙◌, add-zero, arith}
use lib.Arith.{digits_lt}
use Rattle.layout.specs.Laws.Sizes.{allowed-range}
use Rattle.witness.specs.Assembly.{cycle_word}
use Rattle.witness.specs.Laws.Assembled.{word-lent}
use Rattle.base.specs.Laws.Written.{written_none, written-more, written-to}
use Rattle.witness.proofs.assembly.write_column.Goals as goal

-- a column of all cycles ends where the next begins, within the lower half
column_fits : (cpi column : ℕ) → 0 < cpi → column < 2048 → column * cpi + cpi ≤ 2048 * cpi
column_fits cpi column some h = let last : column * cpi + (cpi - 1) < 2048 * cpi = digits_lt h (omega arith) in omega arith

pub loop-cycle-init : goal.loop-cycle-init
loop-cycle-init c =
    let r = allowed-range _ c.requires.0.size in
    (column_fits _ _ r.0 c.requires.1.1, r.1, written-to _ _ _ _ _ _ (sym (add-zero _)) (written_none _ _ _))

pub loop-cycle-preserved : goal.loop-cycle-preserved
loop-cycle-preserved c =
    let a = c.args in
    let cycles = a.cycles.now in let at = 2 * (a.column * a.cpi) in let d = c.loop-cycle.cycle in
    let v = c.loop-cycle.invariant in
    let next : at + 2 * d + 1 + 1 ≡ at + 2 * (d + 1) = omega arith in
    let low : get_or cycles (2 * (2048 * d + a.column)) 0 ≡ cycle_word a.cpi cycles (at + 2 * d) =
    ap (λ (n : ℕ). get_or cycles n 0) (sym (add-zero (2 * (2048 * d + a.column))))
    ∙ sym (word-lent a.cpi cycles a.column d 0 (at + 2 * d) (omega arith) (omega arith) (omega arith)) in
    let high : get_or cycles (2 * (2048 * d + a.column) + 1) 0 ≡ cycle_word a.cpi cycles (at + 2 * d + 1) =
    sym (word-lent a.cpi cycles a.column d 1 (at + 2 * d + 1) (omega arith) (omega arith) (omega arith)) in
    let room : at + 2 * d + 1 < length a.batch.now = omega (arith, v, c.requires.1.0) in
    let first = written-more _ _ _ _ _ _ low (omega arith) (omega arith) v.2 in
    let both = written-more _ _ _ _ _ _ high (omega arith) room first in
    (v.0, v.1, written-to _ _ _ _ _ _ next both)
