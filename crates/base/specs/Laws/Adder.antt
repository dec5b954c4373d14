-- The adder for any width: the sum that wraps is, bit by bit, the exclusive or of both words and the carries. This ties document 01's
-- wrapping sum to the carry columns.
-- Assumes nothing.
use Rattle.std.specs.Prelude.{◌≡◌, refl, ◌↔◌, Bool, true, false, ℕ, zero, suc, ◌+◌, ◌*◌, ◌%◌, ◌^◌, ◌<◌}
use Rattle.std.proofs.Common.{sym, ap, ◌∙◌, arith, add_comm, mod-eq_of_lt}
use Rattle.std.proofs.Math.Nat.{mul-add-mod_self_left}
use Rattle.base.specs.Bits.{digit, val, ◌⊻◌, majority, Carries}
use Rattle.base.specs.Laws.Values.{val-lt, val_same, same_bits_lem, val-top, pow_step}

full : (a b c : Bool) → digit a + digit b + digit c ≡ digit (a ⊻ b ⊻ c) + 2 * digit (majority a b c)
full true true true = refl
full true true false = refl
full true false true = refl
full true false false = refl
full false true true = refl
full false true false = refl
full false false true = refl
full false false false = refl

adds : (n : ℕ) (a b c : ℕ → Bool) → Carries n a b c → val a n + val b n + digit (c 0) ≡ val (λ i. a i ⊻ b i ⊻ c i) n + 2 ^ n * digit (c n)
unfolding val
adds zero a b c h = omega arith
adds (suc n) a b c h =
    omega (
      arith,
      pow_step n (digit (c (suc n))),
      full (a 0) (b 0) (c 0),
      ap (λ (x : Bool). digit x) (h 0 (omega arith)),
      adds n (λ i. a (suc i)) (λ i. b (suc i)) (λ i. c (suc i)) (λ i l. h (suc i) (omega arith)),
    )

-- the columns hold n + 1 carries: that out of the top bit stands in none
pub adds-top : (n : ℕ) (a b c : ℕ → Bool) → Carries n a b c
    → val a (suc n) + val b (suc n) + digit (c 0) ≡ val (λ i. a i ⊻ b i ⊻ c i) (suc n) + 2 ^ suc n * digit (majority (a n) (b n) (c n))
adds-top n a b c h =
    omega (
      arith,
      pow_step n (digit (majority (a n) (b n) (c n))),
      adds n a b c h,
      val-top a n,
      val-top b n,
      val-top (λ i. a i ⊻ b i ⊻ c i) n,
      ap (λ (x : ℕ). 2 ^ n * x) (full (a n) (b n) (c n)),
    )

pub wrapping-sum : (n : ℕ) (a b c s : ℕ → Bool) → Carries n a b c
    → (val s (suc n) ≡ (val a (suc n) + val b (suc n) + digit (c 0)) % 2 ^ suc n) ↔ ((i : ℕ) → i < suc n → s i ≡ a i ⊻ b i ⊻ c i)
wrapping-sum n a b c s h = (λ e. same_bits_lem _ _ _ (e ∙ wraps), λ k. val_same _ _ _ k ∙ sym wraps)
  where
    wraps : (val a (suc n) + val b (suc n) + digit (c 0)) % 2 ^ suc n ≡ val (λ i. a i ⊻ b i ⊻ c i) (suc n)
    wraps =
        ap (λ (x : ℕ). x % 2 ^ suc n) (adds-top n a b c h ∙ add_comm _ _)
        ∙ mul-add-mod_self_left (2 ^ suc n) (digit (majority (a n) (b n) (c n))) _
        ∙ mod-eq_of_lt (val-lt (suc n) _)
