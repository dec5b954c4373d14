-- A number's decimal digits in as many bytes as the largest number takes.
-- Assumes nothing.
use Rattle.std.specs.Prelude.{ℕ, ◌-◌, length}
use Rattle.text.specs.declared.Decimal.{Decimal}
use Rattle.text.specs.Digits.{decimal, right}

unfoldable pub decimal_of : ℕ → Decimal
decimal_of n = record { bytes = right 20 n; start = 20 - length (decimal n) }
