-- Which lane an offset or funct3 is, bit by bit: by computing every case.
-- Assumes nothing.
use Rattle.std.specs.Prelude.{◌≡◌, ℕ, ◌+◌, ◌%◌, ◌^◌, ◌<◌, Bool, true, not, ◌&&◌, refl}
use Rattle.std.proofs.Common.{arith, pow_mono}
use Rattle.std.proofs.Math.Pow.{pow-lt}
use Rattle.base.specs.Lists.{all_below}
use Rattle.base.specs.Bits.{◌⊻◌, alike, bit_at}
use Rattle.base.specs.Laws.Lists.{below_at, same-below}
use Rattle.filler.specs.Lanes.{hot, pair, next}

pub hot-lt : (x : ℕ) → x < 8 → hot x < 2 ^ 8
hot-lt x l = pow-lt l

pub pair_lt : (x : ℕ) → pair x < 2 ^ 8
pair_lt x = omega (arith, pow_mono {i = x % 4} {j = 3} (omega arith))

-- ---- the bits, for every x and every lane

module _ (f g : ℕ → ℕ → Bool) (t : all_below 8 (λ x. all_below 8 λ i. not (f x i ⊻ g x i)) ≡ true) where
  pub by-lanes : (x i : ℕ) → x < 8 → i < 8 → f x i ≡ g x i
  by-lanes x i l m = same-below 8 (f x) (g x) (below_at 8 (λ x. all_below 8 λ i. not (f x i ⊻ g x i)) t x l) i m

-- the low two bits of two numbers agree, or the third
abbrev pub low_agree : ℕ → ℕ → Bool
low_agree x i = alike (bit_at x 0) (bit_at i 0) && alike (bit_at x 1) (bit_at i 1)

abbrev pub third_agrees : ℕ → ℕ → Bool
third_agrees x i = alike (bit_at x 2) (bit_at i 2)

pub pair-bit : (x i : ℕ) → x < 8 → i < 8 → bit_at (pair x) i ≡ low_agree x i
pair-bit = by-lanes _ _ refl

pub hot-bit : (x i : ℕ) → x < 8 → i < 8 → bit_at (hot x) i ≡ (bit_at (pair x) i && third_agrees x i)
hot-bit = by-lanes _ _ refl

pub pair-next : (x i : ℕ) → x < 8 → i < 8 → bit_at (pair (next x)) i ≡ low_agree x ((i + 7) % 8)
pair-next = by-lanes _ _ refl

pub hot-next : (x i : ℕ) → x < 8 → i < 8 → bit_at (hot (next x)) i ≡ (bit_at (pair (next x)) i && third_agrees x ((i + 7) % 8))
hot-next = by-lanes _ _ refl
