-- The boundary's answers: question 2, and the bench sheet's P4 and P5 in bytes.
-- Assumes nothing.
use Rattle.std.specs.Prelude.{◌≡◌, List, ℕ, length, set, replicate}
use Rattle.cellprism.specs.Answer.{row_checked, answer_word}

-- ---- the words of these answers

pub record Answers : Type 0 where
  pub short : (bytes : List ℕ) → length bytes ≡ 65535 → answer_word (row_checked bytes) ≡ 0x80000002
  pub zeros : answer_word (row_checked (replicate 65536 0)) ≡ 0x00000202
  pub one : answer_word (row_checked (set (replicate 65536 0) 32768 1)) ≡ 0x40000107
