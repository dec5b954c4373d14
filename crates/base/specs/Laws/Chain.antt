-- A chain, a running product of comparisons of bits, says at its end whether two words are equal. The zero chain, both opcode chains and
-- the lanes' and funct3's two stages are such chains.
-- Assumes nothing.
use Rattle.std.specs.Prelude.{◌≡◌, refl, Bool, true, false, ◌&&◌, ℕ, zero, suc, ◌<◌, eqb}
use Rattle.std.proofs.Common.{sym, ap, ap₂, subst, ◌∙◌, ⊎_elim, arith, eq-or-lt_of_le, le_of_suc-le-suc, not-suc-le-zero}
use Rattle.std.proofs.lemmas.Bool.{false≢true}
use Rattle.base.specs.Bits.{val, alike}
use Rattle.base.specs.Laws.Values.{val_same, same_bits_lem}
use Rattle.base.specs.Laws.Tests.{both}
use Rattle.base.specs.Laws.Numbers.{is-eqb}

alike-≡ : (a b : Bool) → alike a b ≡ true → a ≡ b
alike-≡ true true e = refl
alike-≡ true false e = absurd (false≢true e)
alike-≡ false true e = absurd (false≢true e)
alike-≡ false false e = refl

alike_self : (a : Bool) → alike a a ≡ true
alike_self true = refl
alike_self false = refl

module _ (x k : ℕ → Bool) where
  -- p i says whether x and k agree in bits 0 .. i
  abbrev pub Chained : ℕ → (ℕ → Bool) → Type 0
  Chained n p = (p 0 ≡ alike (x 0) (k 0)) × ((i : ℕ) → i < n → p (suc i) ≡ (p i && alike (x (suc i)) (k (suc i))))

  shorter : (n : ℕ) (p : ℕ → Bool) → Chained (suc n) p → Chained n p
  shorter n p h = (h.0, λ i l. h.1 i (omega arith))

  down : (n : ℕ) (p : ℕ → Bool) → Chained n p → p n ≡ true → (i : ℕ) → i < suc n → x i ≡ k i
  down zero p h e zero l = alike-≡ (x 0) (k 0) (sym h.0 ∙ e)
  down zero p h e (suc i) l = absurd (not-suc-le-zero (le_of_suc-le-suc l))
  down (suc n) p h e i l =
      let q = both (p n) (alike (x (suc n)) (k (suc n))) (sym (h.1 n (omega arith)) ∙ e) in
      ⊎_elim (λ j. subst (λ (m : ℕ). x m ≡ k m) (sym j) (alike-≡ (x (suc n)) (k (suc n)) q.1))
      (λ j. down n p (shorter n p h) q.0 i j) (eq-or-lt_of_le (le_of_suc-le-suc l))

  up : (n : ℕ) (p : ℕ → Bool) → Chained n p → ((i : ℕ) → i < suc n → x i ≡ k i) → p n ≡ true
  up zero p h e = h.0 ∙ ap (λ (b : Bool). alike b (k 0)) (e 0 (omega arith)) ∙ alike_self (k 0)
  up (suc n) p h e =
      h.1 n (omega arith)
      ∙ ap₂ ◌&&◌ (up n p (shorter n p h) (λ m o. e m (omega arith)))
      (ap (λ (b : Bool). alike b (k (suc n))) (e (suc n) (omega arith)) ∙ alike_self (k (suc n)))

  pub chain : (n : ℕ) (p : ℕ → Bool) → Chained n p → p n ≡ eqb (val x (suc n)) (val k (suc n))
  chain n p h = is-eqb (p n) _ _ (λ e. val_same x k (suc n) (down n p h e)) (λ e. up n p h (same_bits_lem x k (suc n) e))

  -- three bits in two stages
  pub two-stages : (m e : Bool) → m ≡ (alike (x 0) (k 0) && alike (x 1) (k 1)) → e ≡ (m && alike (x 2) (k 2)) → e ≡ eqb (val x 3) (val k 3)
  two-stages m e p q = chain 2 f (refl, g)
    where
      f : ℕ → Bool
      f zero = alike (x 0) (k 0)
      f (suc zero) = m
      f (suc (suc i)) = e

      g : (i : ℕ) → i < 2 → f (suc i) ≡ (f i && alike (x (suc i)) (k (suc i)))
      g zero l = p
      g (suc zero) l = q
      g (suc (suc i)) l = absurd (omega arith)
