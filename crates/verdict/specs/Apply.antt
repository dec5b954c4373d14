-- The sums of one row of a listing in one cycle of a batch.
-- Assumes nothing.
use Rattle.std.specs.Prelude.{◌≡◌, true, cond, List, ℕ, ◌+◌, ◌<◌, ltb, length, drop, Err, Ok}
use Rattle.layout.specs.Batch.{batch_asked}
use Rattle.layout.specs.Questions.{no, if_yes, Answer}
use Rattle.circuit.specs.declared.Relation.{Relation}
use Rattle.circuit.specs.Parse.{parse}
use Rattle.circuit.specs.Valid.{validated}
use Rattle.circuit.specs.Found.{found}
use Rattle.verdict.specs.Row.{cycle_of, sums_of}
use Rattle.verdict.specs.RowParts.{sorted}
use Rattle.layout.specs.declared.questions.Question.TheVariants.{CycleRange}
use Rattle.circuit.specs.declared.search.Place.{Place}
use Rattle.verdict.specs.declared.Sums.{Sums}

-- of the row that was found, whose terms stand behind its mark: question 15
unfoldable pub applied_at : ℕ → List ℕ → List ℕ → ℕ → Answer Place → Answer Sums
applied_at cpi listing batch d (Ok place) =
    cond (ltb d cpi) (Ok (sums_of (cycle_of cpi batch d) (parse (drop (place.start + 1) listing)).before)) (Err (no CycleRange 0))
applied_at cpi listing batch d (Err r) = Err r

-- questions 6 to 10, 13, 15
abbrev pub applied_to : ℕ → List ℕ → List ℕ → Relation → ℕ → ℕ → Answer Sums
applied_to cpi listing batch rel n d = if_yes Err (validated listing) (applied_at cpi listing batch d (found listing rel n))

-- questions 1, 2, and these
unfoldable pub applied : ℕ → List ℕ → List ℕ → Relation → ℕ → ℕ → Answer Sums
applied cpi listing batch rel n d =
    if_yes Err (batch_asked cpi (length batch)) (applied_to cpi listing batch rel n d)

-- a row that was found has sorted terms behind its mark
abbrev pub RowFound : List ℕ → Answer Place → Type 0
RowFound listing (Ok place) = (place.start < length listing) × (sorted 0 (drop (place.start + 1) listing) ≡ true)
RowFound listing (Err r) = Unit
