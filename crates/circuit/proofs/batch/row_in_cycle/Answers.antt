-- `circuit::batch::row_in_cycle` meets its contract: each way out peels off the questions before it, and a batch row is at most 512 * 256.
-- Assumes nothing.
use mathlib.Core.Path.{◌≡◌, ap}
use Prim.Native.Nat.{ℕ, ◌+◌, ◌*◌, ◌<◌}
use mathlib.Core.Bool.{true}
use native.Mathlib.Omega.{arith}
use Rattle.layout.specs.Batch.{allowed}
use Rattle.circuit.specs.declared.Relation.{Relation}
use Rattle.circuit.specs.Found.{rows_a_cycle}
use Rattle.circuit.proofs.Laws.BatchRows.{batch-row-below, batch-rows-at-most}
use Rattle.circuit.proofs.batch.row_in_cycle.Goals as goal

-- with what stands before it, a batch row is below the batch's rows
bound : (rel : Relation) (n d r : ℕ) {cpi : ℕ} → n ≡ rows_a_cycle rel → allowed cpi ≡ true → d < cpi → r < n → n * d + r < 131072
bound rel n d r {cpi} e ok hd hr =
    omega
    (arith, ap (λ (k : ℕ). k * d) e, batch-row-below cpi ok rel d r hd (omega arith), batch-rows-at-most cpi ok rel)

pub overflow_mul-result : goal.overflow_mul-result
overflow_mul-result c =
    let b = bound c.args.relation _ _ _ c.rows_a_cycle-rows.ensures
    c.requires c.if-cpi-cycle.false c.if-rows-row.false
    in omega arith

pub overflow_add-result : goal.overflow_add-result
overflow_add-result c =
    let b = bound c.args.relation _ _ _ c.rows_a_cycle-rows.ensures
    c.requires c.if-cpi-cycle.false c.if-rows-row.false
    in omega arith
