-- A word as 8 lower-case hex digits, the highest first, and a line end.
-- Assumes nothing.
use Rattle.std.specs.Prelude.{List, ◌++◌, ℕ}
use Rattle.base.specs.Text.{ascii}
use Rattle.text.specs.Digits.{hex}

unfoldable pub line_of : ℕ → List ℕ
line_of w = hex 8 w ++ ascii "\n"
