-- Words with one bit of eight set, or one of each four: which lane an offset or funct3 is.
-- Assumes nothing.
use Rattle.std.specs.Prelude.{ℕ, ◌+◌, ◌*◌, ◌%◌, ◌^◌}

-- bit x alone
abbrev pub hot : ℕ → ℕ
hot x = 2 ^ x

-- bits x and x + 4, modulo 8: those of the two low bits of x
abbrev pub pair : ℕ → ℕ
pair x = 17 * 2 ^ (x % 4)

-- the lane after, modulo 8
abbrev pub next : ℕ → ℕ
next x = (x + 1) % 8
