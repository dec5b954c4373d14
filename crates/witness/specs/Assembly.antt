-- Assembly: the witness columns of cpi cycles, lent cycle after cycle, and the public values in one batch.
-- Assumes nothing.
use Rattle.std.specs.Prelude.{◌≡◌, ℕ, ◌+◌, ◌*◌, ◌/◌, ◌%◌, true, cond, List, length, ◌==◌, slice_index, Err, Ok}
use Rattle.base.specs.Lists.{from}
use Rattle.layout.specs.Batch.{allowed, batch_words}
use Rattle.layout.specs.Questions.{no, if_yes, Called, after, Asked}
use Rattle.witness.specs.Upper.{public_asked, batch_word}
use Rattle.layout.specs.declared.questions.Question.TheVariants.{CyclesLength}

-- questions 1 to 4, of the numbers of words: the cycles', the public values', the batch's
unfoldable pub assembly_asked : ℕ → ℕ → ℕ → ℕ → Asked
assembly_asked cpi cycles public batch =
    if_yes Err (public_asked cpi public batch) (cond (cycles == 4096 * cpi) (Ok tt) (Err (no CyclesLength 0)))

-- where batch column x stands among the lent columns: it is column x / cpi of cycle x % cpi, and a cycle lends 2,048 of them
unfoldable pub lent_column : ℕ → ℕ → ℕ
lent_column cpi x = 2048 * (x % cpi) + x / cpi

-- word k below the one column, two words a column
unfoldable pub cycle_word : ℕ → List ℕ → ℕ → ℕ
cycle_word cpi cycles k = slice_index cycles (2 * lent_column cpi (k / 2) + k % 2)

abbrev pub assembled_word : ℕ → List ℕ → List ℕ → ℕ → ℕ
assembled_word cpi cycles public = batch_word (2048 * cpi) (cycle_word cpi cycles) public

unfoldable pub assembled : ℕ → List ℕ → List ℕ → List ℕ
assembled cpi cycles public = from 0 (batch_words cpi) (assembled_word cpi cycles public)

-- the call, with every slice as it is lent
unfoldable pub assembly_called : ℕ → List ℕ → List ℕ → List ℕ → Called
assembly_called cpi cycles public batch =
    after (assembly_asked cpi (length cycles) (length public) (length batch)) (assembled cpi cycles public) batch

-- what the functions inside are told of the cycles
pub record Lent (cpi : ℕ) (cycles : List ℕ) : Type 0 where
  pub size : allowed cpi ≡ true
  pub words : length cycles ≡ 4096 * cpi
