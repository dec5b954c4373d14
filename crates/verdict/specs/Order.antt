-- A word that is the mark of a fld row: behind the first of them no bin row stands in a listing in order.
-- Assumes nothing.
use Rattle.std.specs.Prelude.{Bool, false, cond, ℕ, eqb}
use Rattle.circuit.specs.Words.{is_mark, flag_of}

-- the mark of a fld row
abbrev pub is_fld_mark : ℕ → Bool
is_fld_mark w = cond (is_mark w) (eqb (flag_of w) 1) false
