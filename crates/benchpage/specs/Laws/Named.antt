-- The row that a failing answer names: it is in the house listing, its pages are few, and it does not hold.
-- Assumes nothing.
use Rattle.std.specs.Prelude.{◌≡◌, refl, Bool, true, false, cond, List, ℕ, ◌<◌, eqb, length, Err, Ok}
use Rattle.std.proofs.Common.{sym, ap, ap₂, subst, ◌∙◌, arith, eqb-true}
use Rattle.layout.specs.Batch.{allowed}
use Rattle.layout.specs.Questions.{no, Answer}
use Rattle.layout.specs.Laws.Questions.{if_yes_lem}
use Rattle.circuit.specs.declared.Relation.{Relation}
use Rattle.circuit.specs.declared.Relation.TheVariants.{Bin, Fld}
use Rattle.circuit.specs.Rows.{Sides}
use Rattle.circuit.specs.Circuit.{circuit_words}
use Rattle.circuit.specs.Found.{found, place_at}
use Rattle.circuit.specs.Batched.{batch_row}
use Rattle.circuit.specs.Laws.House.{in_order}
use Rattle.verdict.specs.declared.Counts.{Counts}
use Rattle.verdict.specs.declared.Verdict.{Verdict}
use Rattle.verdict.specs.declared.Verdict.TheVariants.{Accepted, Failed}
use Rattle.verdict.specs.Row.{cycle_of, holds}
use Rattle.strict.specs.declared.Known.TheVariants.{House}
use Rattle.verdict.specs.Counts.{none}
use Rattle.verdict.specs.Check.{judged, known_checked}
use Rattle.verdict.specs.Laws.Shown.{failed-names}
use Rattle.cellprism.specs.Bytes.{row_of}
use Rattle.cellprism.specs.Answer.{row_checked}
use Rattle.cellprism.specs.Laws.Packing.{row-asked}
use Rattle.benchpage.specs.Printed.{sides_in, sides_of}
use Rattle.benchpage.specs.Promises.{FivePages}
use Rattle.benchpage.specs.Laws.House.{house-words, row_opened, five-pages}
use Rattle.layout.specs.declared.questions.Question.TheVariants.{BatchLength}

pub record Named (bytes : List ℕ) (rel : Relation) (n : ℕ) : Type 0 where
  pub whole : length bytes ≡ 65536
  pub few : FivePages rel n
  pub fails : holds (cycle_of 1 (row_of bytes) 0) (sides_of circuit_words rel n) ≡ false

-- of one cycle, the batch row is the listing's
first-cycle : (rel : Relation) (d n b : ℕ) → d < 1 → b ≡ batch_row rel d n → (d ≡ 0) × (n ≡ b)
first-cycle Bin d n b h e = (omega arith, omega arith)
first-cycle Fld d n b h e = (omega arith, omega arith)

judged-named : (bytes : List ℕ) (rel : Relation) (n : ℕ) (tested : Counts) → length bytes ≡ 65536
    → judged 1 circuit_words (row_of bytes) ≡ Failed rel n tested → Named bytes rel n
unfolding allowed
judged-named bytes rel n tested whole e =
    let f = failed-names 1 circuit_words (row_of bytes) refl house-words in_order e in
    let first = first-cycle rel f.cycle f.number n f.in-batch f.batch-row in
    let place = subst (λ (k : ℕ). found circuit_words rel k ≡ place_at f.start f.end) first.1 f.place in
    record {
      whole = whole;
      few = five-pages rel n f.start f.end place;
      fails =
          ap₂ (λ (d : ℕ) (s : Sides). holds (cycle_of 1 (row_of bytes) d) s) (sym first.0)
          (ap (sides_in circuit_words) (row_opened rel n f.start f.end place) ∙ f.row_is)
          ∙ f.fails;
    }

verdict_of : Answer Verdict → Verdict
verdict_of (Ok v) = v
verdict_of (Err r) = Accepted none

pub named : (bytes : List ℕ) (rel : Relation) (n : ℕ) (tested : Counts) → row_checked bytes ≡ Ok (Failed rel n tested) → Named bytes rel n
unfolding row_checked known_checked verdict_of
named bytes rel n tested e = by-test (eqb (length bytes) 65536) refl e
  where
    by-test : (b : Bool) → eqb (length bytes) 65536 ≡ b
        → cond b (known_checked House 1 (row_of bytes)) (Err (no BatchLength 0)) ≡ Ok (Failed rel n tested) → Named bytes rel n
    by-test true t e =
        judged-named bytes rel n tested (eqb-true (length bytes) 65536 t) (ap verdict_of (if_yes_lem Err _ (row-asked bytes) ∙ e))
    by-test false t e = let z : ◌≡◌ {A = ℕ} 0 1 = cc in absurd (omega arith)
