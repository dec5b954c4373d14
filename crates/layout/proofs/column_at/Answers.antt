-- `layout::column_at` meets its contract: a batch has at most 4096 * 256 columns.
-- Assumes nothing.
use native.Mathlib.Nat.{mul-le-mul}
use native.Mathlib.Omega.{arith}
use Rattle.layout.specs.Laws.Sizes.{allowed-range}
use Rattle.layout.proofs.column_at.Goals as goal

pub overflow_mul-result : goal.overflow_mul-result
overflow_mul-result c =
    let a = c.args in let r = allowed-range _ c.requires.0 in
    omega (arith, mul-le-mul {n₁ = a.column} {m₁ = a.cpi} {n₂ = 4096} {m₂ = 256} (omega arith) r.1)

pub overflow_add-result : goal.overflow_add-result
overflow_add-result c =
    let a = c.args in let r = allowed-range _ c.requires.0 in
    omega (arith, mul-le-mul {n₁ = a.column} {m₁ = a.cpi} {n₂ = 4096} {m₂ = 256} (omega arith) r.1)

pub overflow_mul-result-else-column-lt-W_COLS : goal.overflow_mul-result-else-column-lt-W_COLS
overflow_mul-result-else-column-lt-W_COLS c = omega (arith, allowed-range _ c.requires.0)

pub overflow_add-result-else-column-lt-W_COLS : goal.overflow_add-result-else-column-lt-W_COLS
overflow_add-result-else-column-lt-W_COLS c = omega (arith, allowed-range _ c.requires.0)
