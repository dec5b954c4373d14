-- Rows by the columns that are 1: what the bench sheet's table is written with.
-- Assumes nothing.
use Rattle.std.specs.Prelude.{Bool, cond, List, [], ◌∷◌, ◌++◌, ℕ, ◌+◌, ◌*◌, zero, suc, ◌/◌, ◌%◌, set, eqb}
use Rattle.layout.specs.Columns.{ONE-COL}
use Rattle.layout.specs.Batch.{among}

-- is a column among those listed?
unfoldable pub has : List ℕ → ℕ → Bool
has cs c = among c cs

-- 1 put into the columns listed: element c has its low word at 2 * c
unfoldable pub with_ones : List ℕ → List ℕ → List ℕ
with_ones [] row = row
with_ones (c ∷ cs) row = set (with_ones cs row) (2 * c) 1

-- n put into the public element one_col + 1
abbrev pub with_output : ℕ → List ℕ → List ℕ
with_output n row = set row (2 * (ONE-COL + 1)) n

-- the columns that hold 1 where a number of w bits stands at column c, low bit first
unfoldable pub number : ℕ → ℕ → ℕ → List ℕ
number c zero n = []
number c (suc w) n = cond (eqb (n % 2) 1) (c ∷ []) [] ++ number (suc c) w (n / 2)
