-- OFF and funct3 have three bits.
-- Assumes nothing.
use Rattle.std.specs.Prelude.{Bool, ℕ, ◌+◌, ◌<◌}
use Rattle.base.specs.Laws.Values.{val-lt}
use Rattle.layout.specs.Columns.{OFF, FETCH-FUNCT3}
use Rattle.step.specs.Step.{offset, funct3}

-- OFF and funct3 have three bits
pub offset-lt : (b : ℕ → Bool) → offset b < 8
offset-lt b = val-lt 3 (λ i. b (OFF + i))

pub funct3-lt : (b : ℕ → Bool) → funct3 b < 8
funct3-lt b = val-lt 3 (λ i. b (FETCH-FUNCT3 + i))
