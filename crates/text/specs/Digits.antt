-- Numbers as decimal and hexadecimal digits, in bytes of ASCII.
-- Assumes nothing.
use Rattle.std.specs.Prelude.{cond, List, [], ◌∷◌, ◌++◌, ℕ, zero, suc, ◌+◌, ◌-◌, ◌/◌, ◌%◌, ltb, length}
use Prim.Native.Char.{code}
use Rattle.base.specs.Text.{blanks}

abbrev pub digit : ℕ → ℕ
digit d = code "0" + d

-- n in at most k digits, with no zero in front: the digits of n / 10, where there are any, and then the last digit
unfoldable pub decimal_in : ℕ → ℕ → List ℕ
decimal_in zero n = []
decimal_in (suc k) n = cond (ltb n 10) (digit n ∷ []) (decimal_in k (n / 10) ++ (digit (n % 10) ∷ []))

-- 20 digits hold every number of 64 bits
abbrev pub decimal : ℕ → List ℕ
decimal n = decimal_in 20 n

-- right-aligned in a width; a number that has more digits keeps them all
unfoldable pub right : ℕ → ℕ → List ℕ
right width n = blanks (width - length (decimal n)) ++ decimal n

-- lower case
abbrev pub hex_digit : ℕ → ℕ
hex_digit d = cond (ltb d 10) (digit d) (code "a" + (d - 10))

-- the k lowest hexadecimal digits, highest first
unfoldable pub hex : ℕ → ℕ → List ℕ
hex zero n = []
hex (suc k) n = hex k (n / 16) ++ (hex_digit (n % 16) ∷ [])
