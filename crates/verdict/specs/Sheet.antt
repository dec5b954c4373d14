-- P4's and P5's rows of the bench sheet, 8,192 words each, two an element, the low one first.
-- Assumes nothing.
use Rattle.std.specs.Prelude.{List, ℕ, ◌*◌, set, replicate}
use Rattle.layout.specs.Columns.{ONE-COL}
use Rattle.layout.specs.Batch.{ROW-WORDS}

-- P4: all zero
abbrev pub zero_row : List ℕ
zero_row = replicate ROW-WORDS 0

-- P5: the one column alone is 1
abbrev pub one_row : List ℕ
one_row = set zero_row (2 * ONE-COL) 1
