-- What is printed of P4's and P5's rows, and of anything but 65,536 bytes.
-- Assumes nothing.
use Rattle.std.specs.Prelude.{◌≡◌, List, ℕ, length, set, replicate}
use Rattle.base.specs.Text.{ascii}
use Rattle.cellprism.specs.Answer.{row_checked}
use Rattle.page.specs.Line.{answer_line}

pub record Lines : Type 0 where
  pub other : (bytes : List ℕ) → (length bytes ≡ 65536 → ⊥) → answer_line (row_checked bytes) ≡ ascii "refused 2\n"
  pub zeros : answer_line (row_checked (replicate 65536 0)) ≡ ascii "accepted bin=483 fld=31\n"
  pub one : answer_line (row_checked (set (replicate 65536 0) 32768 1)) ≡ ascii "failed bin row=263 bin=264 fld=0\n"
