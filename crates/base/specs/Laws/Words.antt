-- A word halved at each turn of a loop, and three words added one after the other.
-- Assumes nothing.
use Rattle.std.specs.Prelude.{◌≡◌, ℕ, ◌+◌, ◌/◌, ◌%◌, ◌^◌}
use Rattle.std.proofs.Common.{ap, ◌∙◌, arith, shr-shr}

module _ (w i : ℕ) {rest : ℕ} (h : rest ≡ w / 2 ^ i) where
  pub half-turn : rest / 2 ≡ w / 2 ^ (i + 1)
  half-turn = ap (λ (r : ℕ). r / 2) h ∙ shr-shr w i 1

-- ---- words

-- a + b + s, added one after the other
pub wrap-twice : (a b s : ℕ) {t r : ℕ} → t ≡ (a + b) % 2 ^ 64 → r ≡ (t + s) % 2 ^ 64 → r ≡ (a + b + s) % 2 ^ 64
wrap-twice a b s p q = omega arith
