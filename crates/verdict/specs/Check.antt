-- The check: the constraints of all cycles in their order, the first that does not hold, and how many were tested in each relation.
-- Assumes nothing.
use Rattle.std.specs.Prelude.{Bool, cond, List, [], ◌∷◌, ◌++◌, map, ℕ, length, replicate, Err, Ok}
use Rattle.base.specs.Lists.{from_each}
use Rattle.field.specs.declared.Gf128.{Gf128}
use Rattle.layout.specs.Batch.{batch_asked, scratch_fits}
use Rattle.layout.specs.Questions.{no, if_yes, Answer, Asked}
use Rattle.circuit.specs.declared.Relation.TheVariants.{Bin, Fld}
use Rattle.circuit.specs.Rows.{Row, of_relation}
use Rattle.circuit.specs.Parse.{rows_of}
use Rattle.circuit.specs.Batched.{batch_row}
use Rattle.circuit.specs.Valid.{validated}
use Rattle.strict.specs.declared.Known.{Known}
use Rattle.strict.specs.Known.{listing_of}
use Rattle.verdict.specs.declared.Counts.{Counts}
use Rattle.verdict.specs.declared.Verdict.{Verdict}
use Rattle.verdict.specs.declared.Verdict.TheVariants.{Accepted, Failed}
use Rattle.verdict.specs.Row.{cycle_of, holds}
use Rattle.verdict.specs.Counts.{none, counted}
use Rattle.layout.specs.declared.questions.Question.TheVariants.{ScratchLength}

-- a row to be tested in a cycle: what document 01 calls a cycle-and-mark pair
pub record Constraint : Type 0 where
  pub cycle : ℕ
  pub row : Row

abbrev pub in_cycle : ℕ → Row → Constraint
in_cycle d r = record { cycle = d; row = r }

-- rows in each of n cycles from d on: by cycle, then row
abbrev pub in_cycles : ℕ → ℕ → List Row → List Constraint
in_cycles d n rs = from_each d n (λ e. map (in_cycle e) rs)

-- all bin, then all fld
unfoldable pub constraints : ℕ → List Row → List Constraint
constraints cpi rs = in_cycles 0 cpi (of_relation Bin rs) ++ in_cycles 0 cpi (of_relation Fld rs)

-- does a constraint hold in the cycles as they are seen?
abbrev pub met : (ℕ → ℕ → Gf128) → Constraint → Bool
met view k = holds (view k.cycle) k.row.sides

-- failure at a constraint, with the counts, itself included
abbrev pub failed_at : Constraint → Counts → Verdict
failed_at k n = Failed k.row.relation (batch_row k.row.relation k.cycle k.row.number) n

-- the verdict from here on, where so many pairs were tested before: each counts in its relation, and the first that does not hold ends it
module _ (test : Constraint → Bool) where
  unfoldable pub run : Counts → List Constraint → Verdict
  run n [] = Accepted n
  run n (k ∷ ks) = cond (test k) (run (counted k.row.relation n) ks) (failed_at k (counted k.row.relation n))

-- the verdict on a batch, with no question asked
unfoldable pub judged : ℕ → List ℕ → List ℕ → Verdict
judged cpi listing batch = run (met (cycle_of cpi batch)) none (constraints cpi (rows_of listing))

-- questions 1, 2, 5, and those on the listing; of batch and scratch the number of words
unfoldable pub asked : ℕ → List ℕ → ℕ → ℕ → Asked
asked cpi listing words room =
    if_yes Err (batch_asked cpi words) (cond (scratch_fits room) (validated listing) (Err (no ScratchLength 0)))

-- the answer and the scratch afterwards: a verdict leaves zeros, a refusal what was there
pub record Checked : Type 0 where
  pub answer : Answer Verdict
  pub scratch : List ℕ

abbrev pub after : Asked → Verdict → List ℕ → Checked
after (Ok _) v scratch = record { answer = Ok v; scratch = replicate (length scratch) 0 }
after (Err r) v scratch = record { answer = Err r; scratch = scratch }

unfoldable pub checked : ℕ → List ℕ → List ℕ → List ℕ → Checked
checked cpi listing batch scratch =
    after (asked cpi listing (length batch) (length scratch)) (judged cpi listing batch) scratch

-- the same over a listing that is known by name, which is in order, and with no scratch: questions 1 and 2
unfoldable pub known_checked : Known → ℕ → List ℕ → Answer Verdict
known_checked k cpi batch = if_yes Err (batch_asked cpi (length batch)) (Ok (judged cpi (listing_of k) batch))
