-- One question peeled off a chain of them, and two tests at once.
-- Assumes nothing.
use Rattle.std.specs.Prelude.{◌≡◌, refl, ◌↔◌, Bool, true, false, cond, ◌&&◌}
use Rattle.std.proofs.lemmas.Bool.{false≢true}

-- one question peeled off a chain: it was answered with yes, or with no
pub passed : {A : Type 0} (test : Bool) (next refusal : A) → test ≡ true → next ≡ cond test next refusal
passed test next refusal e = rw e

pub refused : {A : Type 0} (test : Bool) (next refusal : A) → test ≡ false → refusal ≡ cond test next refusal
refused test next refusal e = rw e

-- two tests at once
pub both : (a b : Bool) → (a && b) ≡ true → (a ≡ true) × (b ≡ true)
both true b e = (refl, e)
both false b e = absurd (false≢true e)

-- and what they say
pub both_so : (a b : Bool) {A B : Type 0} → (a ≡ true) ↔ A → (b ≡ true) ↔ B → ((a && b) ≡ true) ↔ (A × B)
both_so true b h k = (λ e. (h.0 refl, k.0 e), λ g. k.1 g.1)
both_so false b h k = (λ e. absurd (false≢true e), λ g. h.1 g.0)
