-- How many words stand before the first that passes a test, where `position` sought it.
-- Assumes nothing.
use Rattle.std.specs.Prelude.{◌≡◌, refl, Bool, true, false, List, ℕ, ◌<◌, length, Option, MatchOption, unwrap_or}
use Rattle.std.proofs.Common.{add-one, sym, ◌∙◌}
use Rattle.std.proofs.lemmas.Iterator.{index_from_first}
use Rattle.std.specs.List.{AllWithin, HoldsAt}
use Rattle.base.specs.Laws.Tests.{passed, refused}
use Rattle.circuit.specs.Found.{until}

pub until_first : (p : ℕ → Bool) (ws : List ℕ) (r : Option ℕ)
    → MatchOption r (AllWithin (λ w. p w ≡ false) ws 0 (length ws))
    (λ i. (i < length ws) × HoldsAt (λ w. p w ≡ true) ws i × AllWithin (λ w. p w ≡ false) ws 0 i)
    → until p ws ≡ unwrap_or r (length ws)
unfolding until
until_first p = index_from_first (until p) (λ w. p w ≡ true) (λ w. p w ≡ false) refl
    (λ w ws h. sym (passed _ _ _ h)) (λ w ws h. sym (refused _ _ _ h) ∙ sym (add-one (until p ws)))
