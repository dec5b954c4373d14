-- The filler as it is called: questions 1, 2, 11 and 12, and where all are answered with yes the filling that demand 3 speaks of.
-- Assumes nothing.
use Rattle.std.specs.Prelude.{Bool, cond, not, ◌&&◌, true, List, ◌≡◌, ℕ, ◌*◌, ◌≤◌, leb, length, Err, Ok}
use Rattle.base.specs.Tests.{first_from}
use Rattle.field.specs.Gf.{one, same}
use Rattle.layout.specs.Batch.{allowed, batch_words, batch_asked}
use Rattle.layout.specs.Questions.{no, if_yes, after, Called, Asked}
use Rattle.verdict.specs.Row.{element_at}
use Rattle.verdict.specs.Bits.{above_one}
use Rattle.step.specs.Derived.{derived_in}
use Rattle.step.specs.Filling.{filled}
use Rattle.layout.specs.declared.questions.Question.TheVariants.{GivenBits, OneColumn}

-- a given column that is above 1: what question 11 looks for
abbrev pub faulty : ℕ → List ℕ → ℕ → Bool
faulty cpi batch x = above_one batch x && not (derived_in cpi x)

-- the smallest of them, or 2048 * cpi where there is none
abbrev pub first_faulty : ℕ → List ℕ → ℕ
first_faulty cpi batch = first_from (faulty cpi batch) 0 (2048 * cpi)

-- questions 11 and 12
abbrev pub columns_asked : ℕ → List ℕ → Asked
columns_asked cpi batch =
    cond (leb (2048 * cpi) (first_faulty cpi batch))
    (cond (same (element_at batch (2048 * cpi)) one) (Ok tt)
    (Err (no OneColumn 0)))
    (Err (no GivenBits (first_faulty cpi batch)))

unfoldable pub fill_asked : ℕ → List ℕ → Asked
fill_asked cpi batch = if_yes Err (batch_asked cpi (length batch)) (columns_asked cpi batch)

unfoldable pub called : ℕ → List ℕ → Called
called cpi batch = after (fill_asked cpi batch) (filled cpi batch) batch

-- what the questions that were answered with yes say
pub record Passed (cpi : ℕ) (batch : List ℕ) : Type 0 where
  pub size : allowed cpi ≡ true
  pub words : length batch ≡ batch_words cpi
  pub bits : 2048 * cpi ≤ first_faulty cpi batch
  pub one-is : element_at batch (2048 * cpi) ≡ one
