-- As many widths as loads: one where a cycle loads, none where it does not.
-- Assumes nothing.
use Rattle.std.specs.Prelude.{◌≡◌, refl, ◌↔◌, Bool, true, false, ℕ, eqb}
use Rattle.std.proofs.Common.{ap, arith, eqb-true, eq-eqb}
use Rattle.base.specs.Bits.{digit}

-- as many widths as loads
pub width-clauses : (l : Bool) (n : ℕ) → (eqb n (digit l) ≡ true) ↔ ((l ≡ true → n ≡ 1) × (l ≡ false → n ≡ 0))
width-clauses l n = (
  λ e. let k = eqb-true n (digit l) e in
      (λ t. omega (arith, k, ap (λ (x : Bool). digit x) t), λ t. omega (arith, k, ap (λ (x : Bool). digit x) t)),
  λ c. eq-eqb n (digit l) (go l c.0 c.1),
)
  where
    go : (x : Bool) → (x ≡ true → n ≡ 1) → (x ≡ false → n ≡ 0) → n ≡ digit x
    go true one none = omega (arith, one refl)
    go false one none = omega (arith, none refl)
