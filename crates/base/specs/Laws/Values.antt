-- The number that bits make up: equal bits make equal numbers and the other way round, a top bit counts 2^n, and the complement.
-- Assumes nothing.
use Rattle.std.specs.Prelude.{◌≡◌, refl, Bool, true, false, not, ℕ, zero, suc, ◌+◌, ◌*◌, ◌^◌, ◌<◌}
use Rattle.std.proofs.Common.{ap, ap₂, ◌∙◌, pow-suc, not-suc-le-zero, le_of_suc-le-suc, arith, lit<}
use Rattle.base.specs.Bits.{digit, val}

-- ---- a number and its bits

pub digit_lt : (b : Bool) → digit b < 2
digit_lt true = lit< tt
digit_lt false = lit< tt

pub val-lt : (n : ℕ) (f : ℕ → Bool) → val f n < 2 ^ n
unfolding val
val-lt zero f = lit< tt
val-lt (suc n) f = let d = digit_lt (f 0) in let h = val-lt n (λ i. f (suc i)) in rw pow-suc (omega arith)

pub val_same : (f g : ℕ → Bool) (n : ℕ) → ((i : ℕ) → i < n → f i ≡ g i) → val f n ≡ val g n
unfolding val
val_same f g zero h = refl
val_same f g (suc n) h =
    ap₂ (λ (a : Bool) (m : ℕ). digit a + 2 * m) (h 0 (omega arith)) (val_same _ _ n (λ i l. h (suc i) (omega arith)))

lowest : (a b : Bool) (m n : ℕ) → digit a + 2 * m ≡ digit b + 2 * n → (a ≡ b) × (m ≡ n)
lowest true true m n e = (refl, omega arith)
lowest true false m n e = absurd (omega arith)
lowest false true m n e = absurd (omega arith)
lowest false false m n e = (refl, omega arith)

pub same_bits_lem : (f g : ℕ → Bool) (n : ℕ) → val f n ≡ val g n → (i : ℕ) → i < n → f i ≡ g i
unfolding val
same_bits_lem f g zero e i l = absurd (not-suc-le-zero l)
same_bits_lem f g (suc n) e zero l = (lowest (f 0) (g 0) _ _ e).0
same_bits_lem f g (suc n) e (suc i) l = same_bits_lem _ _ n (lowest (f 0) (g 0) _ _ e).1 i (le_of_suc-le-suc l)

pub no_bits : (n : ℕ) → val (λ i. false) n ≡ 0
unfolding val
no_bits zero = refl
no_bits (suc n) = omega (arith, no_bits n)

-- omega does not open a power that is a factor
pub pow_step : (n x : ℕ) → 2 ^ suc n * x ≡ 2 * (2 ^ n * x)
pow_step n x = ap (λ (p : ℕ). p * x) (pow-suc 2 n) ∙ omega arith

pub val-top : (f : ℕ → Bool) (n : ℕ) → val f (suc n) ≡ val f n + 2 ^ n * digit (f n)
unfolding val
val-top f zero = omega arith
val-top f (suc n) = omega (arith, val-top (λ i. f (suc i)) n, pow_step n (digit (f (suc n))))

complement-bit : (b : Bool) → digit b + digit (not b) ≡ 1
complement-bit true = refl
complement-bit false = refl

pub complement : (b : ℕ → Bool) (n : ℕ) → val b n + val (λ i. not (b i)) n + 1 ≡ 2 ^ n
unfolding val
complement b zero = omega arith
complement b (suc n) = omega (arith, complement (λ i. b (suc i)) n, complement-bit (b 0))
