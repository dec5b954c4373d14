-- Merging as it is called: questions 1, 19, 2 and 20, and where all are answered with yes the merged batch.
-- Assumes nothing.
use Rattle.std.specs.Prelude.{Bool, cond, not, List, ℕ, ◌*◌, eqb, leb, length, Err, Ok}
use Rattle.base.specs.Tests.{first_from}
use Rattle.field.specs.Gf.{same}
use Rattle.layout.specs.Batch.{allowed, batch_words}
use Rattle.layout.specs.Questions.{no, if_yes, Called, after, Asked}
use Rattle.verdict.specs.Row.{element_at}
use Rattle.merge.specs.Merged.{merged}
use Rattle.layout.specs.declared.questions.Question.TheVariants.{BatchLength, BatchSize, MergeSizes, PublicColumns}

-- 1 of either size; 19: they are the same, and twice as many cycles are at most 256; 2 of all three, by their numbers of words
unfoldable pub sizes_asked : ℕ → ℕ → ℕ → ℕ → ℕ → Asked
sizes_asked cpi words cpi₂ words₂ room =
    cond (allowed cpi)
    (cond (allowed cpi₂)
    (cond (eqb cpi cpi₂)
    (cond (leb (2 * cpi) 256)
    (cond (eqb words (batch_words cpi))
    (cond (eqb words₂ (batch_words cpi))
    (cond (eqb room (batch_words (2 * cpi))) (Ok tt)
    (Err (no BatchLength 0)))
    (Err (no BatchLength 0)))
    (Err (no BatchLength 0)))
    (Err (no MergeSizes 0)))
    (Err (no MergeSizes 0)))
    (Err (no BatchSize 0)))
    (Err (no BatchSize 0))

-- a column in which two batches differ
abbrev pub differs : List ℕ → List ℕ → ℕ → Bool
differs first second x = not (same (element_at first x) (element_at second x))

-- the first public column in which they do, the one column included, or 4096 * cpi where there is none
abbrev pub first_differing : ℕ → List ℕ → List ℕ → ℕ
first_differing cpi first second = first_from (differs first second) (2048 * cpi) (2048 * cpi)

-- and then 20, at that column
unfoldable pub merge_asked : ℕ → List ℕ → ℕ → List ℕ → ℕ → Asked
merge_asked cpi first cpi₂ second room =
    if_yes Err (sizes_asked cpi (length first) cpi₂ (length second) room)
    (cond (leb (4096 * cpi) (first_differing cpi first second)) (Ok tt)
    (Err (no PublicColumns (first_differing cpi first second))))

-- the call, with every slice as it is lent
unfoldable pub merge_called : ℕ → List ℕ → ℕ → List ℕ → List ℕ → Called
merge_called cpi first cpi₂ second there =
    after (merge_asked cpi first cpi₂ second (length there)) (merged cpi first second) there
