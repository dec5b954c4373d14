-- `circuit::batch::unmap_row` meets its contract: each way out peels off the questions before it; a relation has some rows a cycle, so the
-- division has a divisor, and a batch has at most 512 * 256, so the product fits.
-- Assumes nothing.
use mathlib.Core.Path.{sym, ap, ◌∙◌}
use Prim.Native.Nat.{ℕ, ◌*◌}
use native.Mathlib.Omega.{arith}
use Rattle.circuit.proofs.Laws.BatchRows.{batch-rows-at-most}
use Rattle.circuit.proofs.batch.unmap_row.Goals as goal

pub overflow_mul-rows : goal.overflow_mul-rows
overflow_mul-rows c =
    let a = c.args in let e = ap (λ (n : ℕ). n * a.cpi) c.rows_a_cycle-rows.ensures in
    let ok = sym c.is_allowed.ensures ∙ c.if-not-is_allowed.false in
    omega (arith, e, batch-rows-at-most a.cpi ok a.relation)
