-- What a row and a batch share: questions 1 to 3, and the columns from one_col on.
-- Assumes nothing.
use Rattle.std.specs.Prelude.{ℕ, ◌-◌, ◌*◌, ◌%◌, Bool, false, cond, List, ◌∷◌, ◌==◌, nat_le, nat_lt, slice_index, Err, Ok}
use Rattle.layout.specs.Batch.{batch_asked}
use Rattle.layout.specs.Questions.{no, if_yes, Asked}
use Rattle.layout.specs.declared.questions.Question.TheVariants.{PublicLength}

-- question 3: the public words are even in number, and at most so many
unfoldable pub public_fits : ℕ → ℕ → Bool
public_fits words most = cond (words % 2 == 0) (nat_le words most) false

-- questions 1 to 3, of the numbers of words: the public values', the batch's
unfoldable pub public_asked : ℕ → ℕ → ℕ → Asked
public_asked cpi public batch = if_yes Err (batch_asked cpi batch) (cond (public_fits public (4096 * cpi - 2)) (Ok tt) (Err (no PublicLength 0)))

-- word j from the one column on: the one column is 1, of low word 1 and high word 0; then the public words; the rest is 0
unfoldable pub upper_word : List ℕ → ℕ → ℕ
upper_word public j = slice_index (1 ∷ 0 ∷ public) j

-- the same by its index, where the one column stands at word `start`
abbrev pub upper_from : ℕ → List ℕ → ℕ → ℕ
upper_from start public k = upper_word public (k - start)

-- word k of a row or a batch whose one column is `one`: below it, what `lower` says
unfoldable pub batch_word : ℕ → (ℕ → ℕ) → List ℕ → ℕ → ℕ
batch_word one lower public k = cond (nat_lt k (2 * one)) (lower k) (upper_from (2 * one) public k)
