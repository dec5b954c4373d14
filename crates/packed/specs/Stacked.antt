-- Numbers one above the other: in parts, as the code's wrapping sums put them together, and of bits.
-- Assumes nothing.
use Rattle.std.specs.Prelude.{ℕ, ◌+◌, ◌*◌, ◌%◌, ◌^◌}

-- w moved up by m bits, and x put below it: at 2^64 it wraps
unfoldable pub pushed : ℕ → ℕ → ℕ → ℕ
pushed m w x = (w * 2 ^ m % 2 ^ 64 + x) % 2 ^ 64

-- four numbers, each m bits above the one before it
abbrev pub pushed_four : ℕ → ℕ → ℕ → ℕ → ℕ → ℕ
pushed_four m a b c d = pushed m (pushed m (pushed m d c) b) a
