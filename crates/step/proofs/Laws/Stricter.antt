-- What the strict listing accepts the house listing accepts, whatever stands in the batch.
-- Assumes nothing.
use Rattle.std.specs.Prelude.{◌≡◌, refl, ◌↔◌, Bool, true, false, List, ℕ, ◌<◌, length, Err, Ok}
use Rattle.std.proofs.Common.{sym, subst₂, arith}
use Rattle.std.proofs.lemmas.Bool.{false≢true}
use Rattle.base.specs.Lists.{All}
use Rattle.layout.specs.declared.questions.Refusal.{Refusal}
use Rattle.layout.specs.Batch.{batch_asked, scratch_fits}
use Rattle.layout.specs.Questions.{no, if_yes, Answer, Asked}
use Rattle.circuit.specs.Parse.{rows_of}
use Rattle.strict.specs.declared.Known.{Known}
use Rattle.strict.specs.declared.Known.TheVariants.{House, Strict}
use Rattle.strict.specs.Known.{listing_of, further_rows}
use Rattle.verdict.specs.declared.Verdict.{Verdict}
use Rattle.verdict.specs.Row.{cycle_of, holds}
use Rattle.verdict.specs.Check.{judged, checked, known_checked}
use Rattle.verdict.proofs.Laws.Agree.{known-agrees}
use Rattle.verdict.proofs.Laws.Scratch.{any-scratch}
use Rattle.step.specs.Demand3.{accepts}
use Rattle.step.specs.Stricter.{by_house, by_strict, Stricter}
use Rattle.step.proofs.Laws.Batch.{RowsHold}
use Rattle.step.proofs.Laws.Listings.{judged-accepts, listed, cycle-rows}
use Rattle.layout.specs.declared.questions.Question.TheVariants.{ScratchLength}

-- a verdict is no refusal
judged-not : {v : Verdict} {r : Refusal} → Ok v ≡ Err r → ⊥
judged-not e = let z : ◌≡◌ {A = ℕ} 0 1 = cc in omega arith

module _ (cpi : ℕ) (batch : List ℕ) where
  -- the rows that a listing adds hold in every cycle
  abbrev Added : Known → Type 0
  Added k = (d : ℕ) → d < cpi → All (λ s. holds (cycle_of cpi batch d) s ≡ true) (further_rows k)

  -- two answers over listings that are known by name: accepted alike but for the added rows, and refused alike
  pub record Beside (strict house : Answer Verdict) : Type 0 where
    pub exactly : (accepts strict ≡ true) ↔ ((accepts house ≡ true) × Added Strict)
    pub refused : (r : Refusal) → (strict ≡ Err r) ↔ (house ≡ Err r)

  -- refused both
  none_beside : (r : Refusal) → Beside (Err r) (Err r)
  none_beside r = record { exactly = (λ e. absurd (false≢true e), λ h. absurd (false≢true h.0)); refused = λ t. (λ e. e, λ e. e) }

  -- judged both: the rows of the strict listing are those of the house listing and the added ones
  in-cycle : (k : Known) (d : ℕ) → All (λ r. holds (cycle_of cpi batch d) r.sides ≡ true) (rows_of (listing_of k))
      ↔ (RowsHold (cycle_of cpi batch d) × All (λ s. holds (cycle_of cpi batch d) s ≡ true) (further_rows k))
  in-cycle k d = cycle-rows (listing_of k) (further_rows k) (listed k) (cycle_of cpi batch d)

  rows-beside : Beside (Ok (judged cpi (listing_of Strict) batch)) (Ok (judged cpi (listing_of House) batch))
  rows-beside =
      let s = judged-accepts cpi (listing_of Strict) batch in let h = judged-accepts cpi (listing_of House) batch in
      record {
        exactly = (
          λ e. let rows = s.0 e in
              (h.1 (λ d l. (in-cycle House d).1 (((in-cycle Strict d).0 (rows d l)).0, tt)), λ d l. ((in-cycle Strict d).0 (rows d l)).1),
          λ both. s.1 (λ d l. (in-cycle Strict d).1 (((in-cycle House d).0 (h.0 both.0 d l)).0, both.1 d l)),
        );
        refused = λ r. (λ e. absurd (judged-not e), λ e. absurd (judged-not e));
      }

  pub known-beside : Beside (known_checked Strict cpi batch) (known_checked House cpi batch)
  unfolding known_checked
  known-beside = go (batch_asked cpi (length batch))
    where
      go : (q : Asked)
          → Beside (if_yes Err q (Ok (judged cpi (listing_of Strict) batch))) (if_yes Err q (Ok (judged cpi (listing_of House) batch)))
      go (Ok _) = rows-beside
      go (Err r) = none_beside r

  module _ (scratch : List ℕ) where
    -- what does not fit is refused, whatever the listing
    no_room : scratch_fits (length scratch) ≡ false → Beside (by_strict cpi batch scratch) (by_house cpi batch scratch)
    no_room f =
        subst₂ Beside (sym (answer Strict)) (sym (answer House)) (go (batch_asked cpi (length batch)))
      where
        answer : (k : Known) → (checked cpi (listing_of k) batch scratch).answer
            ≡ if_yes Err (batch_asked cpi (length batch)) (Err (no ScratchLength 0))
        answer k = (any-scratch cpi (listing_of k) batch).other scratch f _ _ refl

        go : (q : Asked) → Beside (if_yes Err q (Err (no ScratchLength 0))) (if_yes Err q (Err (no ScratchLength 0)))
        go (Ok _) = none_beside (no ScratchLength 0)
        go (Err r) = none_beside r

    beside : (t : Bool) → scratch_fits (length scratch) ≡ t → Beside (by_strict cpi batch scratch) (by_house cpi batch scratch)
    beside true f = subst₂ Beside (known-agrees Strict cpi batch scratch f) (known-agrees House cpi batch scratch f) known-beside
    beside false f = no_room f

pub stricter : (cpi : ℕ) (batch scratch : List ℕ) → Stricter cpi batch scratch
stricter cpi batch scratch =
    let b = beside cpi batch scratch (scratch_fits (length scratch)) refl in
    record { house-too = λ e. (b.exactly.0 e).0; exactly = b.exactly; refused = b.refused }
