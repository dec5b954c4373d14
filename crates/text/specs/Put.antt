-- A text put into bytes at an index.
-- Assumes nothing.
use Rattle.std.specs.Prelude.{◌≡◌, Bool, cond, List, ◌++◌, ℕ, ◌+◌, leb, length, take, drop}

abbrev pub fits : ℕ → List ℕ → List ℕ → Bool
fits at text there = leb (at + length text) (length there)

-- what the bytes hold afterwards: the text over what stood there. One that does not fit is not put
unfoldable pub over : ℕ → List ℕ → List ℕ → List ℕ
over at text there = cond (fits at text there) (take at there ++ text ++ drop (at + length text) there) there

-- the index behind the text, which stays where it was not put
unfoldable pub behind : ℕ → List ℕ → List ℕ → ℕ
behind at text there = cond (fits at text there) (at + length text) at

-- what a function that puts a text leaves and answers
pub record Put (at : ℕ) (text before after : List ℕ) (r : ℕ) : Type 0 where
  pub after_is : after ≡ over at text before
  pub answer-is : r ≡ behind at text before

-- the same where it is known to fit
pub record Placed (at : ℕ) (text before after : List ℕ) (r : ℕ) : Type 0 where
  pub after_is : after ≡ take at before ++ text ++ drop (at + length text) before
  pub answer-is : r ≡ at + length text
