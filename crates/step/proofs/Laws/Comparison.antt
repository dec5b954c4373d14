-- What it is for a cycle to compare RS1 with RS2, in numbers.
-- Assumes nothing.
use Rattle.std.specs.Prelude.{◌≡◌, ◌↔◌, Bool, true, not, ℕ, ◌+◌, ◌-◌, ◌^◌}
use Rattle.std.proofs.Common.{arith}
use Rattle.base.specs.Bits.{word}
use Rattle.base.specs.Laws.Values.{val_same, same_bits_lem, complement}
use Rattle.layout.specs.Columns.{RS1, RS2, T1, T2, SUB, IS-ARITH}
use Rattle.step.specs.Demand3.{Compares}

-- what `Compares` asks for, in numbers, and nothing more: T1 is RS1, T2 the complement of RS2, subtract and arithmetic are set
pub compares-exactly : (b : ℕ → Bool)
    → Compares b
    ↔ ((word b T1 64 ≡ word b RS1 64) × ((word b T2 64 ≡ 2 ^ 64 - 1 - word b RS2 64) × ((b SUB ≡ true) × (b IS-ARITH ≡ true))))
compares-exactly b =
    let flipped : word b RS2 64 + word (λ c. not (b c)) RS2 64 + 1 ≡ 2 ^ 64 = complement (λ i. b (RS2 + i)) 64 in (
      λ c. (c.t1, (omega (arith, flipped, val_same (λ i. b (T2 + i)) (λ i. not (b (RS2 + i))) 64 c.t2), (c.subtract, c.arithmetic))),
      λ e. record {
        t1 = e.0;
        t2 = same_bits_lem (λ i. b (T2 + i)) (λ i. not (b (RS2 + i))) 64 (omega (arith, flipped, e.1.0));
        subtract = e.1.1.0;
        arithmetic = e.1.1.1;
      },
    )
