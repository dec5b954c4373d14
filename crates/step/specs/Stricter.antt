-- What the strict listing accepts the house listing accepts: of the check as it is called, for every size, batch and scratch, whatever
-- stands in the batch. (Laws/Stricter proves it.)
-- Assumes nothing.
use Rattle.std.specs.Prelude.{◌≡◌, ◌↔◌, true, List, ℕ, ◌<◌, Err}
use Rattle.base.specs.Lists.{All}
use Rattle.layout.specs.declared.questions.Refusal.{Refusal}
use Rattle.circuit.specs.Circuit.{circuit_words}
use Rattle.strict.specs.Rows.{flag_rows, strict_words}
use Rattle.verdict.specs.Row.{cycle_of, holds}
use Rattle.verdict.specs.Check.{checked}
use Rattle.step.specs.Demand3.{accepts}
use Rattle.layout.specs.Questions.{Answer}
use Rattle.verdict.specs.declared.Verdict.{Verdict}

module _ (cpi : ℕ) (batch scratch : List ℕ) where
  -- the check's answer over each of the listings
  abbrev pub by_house : Answer Verdict
  by_house = (checked cpi circuit_words batch scratch).answer

  abbrev pub by_strict : Answer Verdict
  by_strict = (checked cpi strict_words batch scratch).answer

  -- the eight rows hold in every cycle
  abbrev pub FlagsHold : Type 0
  FlagsHold = (d : ℕ) → d < cpi → All (λ s. holds (cycle_of cpi batch d) s ≡ true) flag_rows

  pub record Stricter : Type 0 where
    pub house-too : accepts by_strict ≡ true → accepts by_house ≡ true
    -- and nothing but the eight rows is between them
    pub exactly : (accepts by_strict ≡ true) ↔ ((accepts by_house ≡ true) × FlagsHold)
    -- what one refuses the other refuses, with the same number and place
    pub refused : (r : Refusal) → (by_strict ≡ Err r) ↔ (by_house ≡ Err r)
