-- The coefficients of a polynomial, and that they determine it.
use Rattle.std.specs.Prelude.{◌≡◌, refl, ℕ, zero, suc, ◌+◌, ◌*◌, ◌/◌, ◌%◌, ◌^◌, ◌≤◌, ◌<◌}
use Rattle.std.proofs.Common.{sym, ap, ◌∙◌, zero-lt-suc, mod-lt, lt_of_lt_of_le, arith, pow_mono}
use Rattle.std.proofs.Math.Nat.{div-eq_of_lt}
use Rattle.std.proofs.Math.Decide.{dec_lt}
use Rattle.std.proofs.Math.Arith.{half_le}
use Rattle.std.proofs.lemmas.Nat.{shl-shr}
use Rattle.field.specs.Gf.{bit}
use Rattle.base.specs.Laws.Numbers.{next_bit}

pub bit_is : (a i : ℕ) → bit a i ≡ a / 2 ^ i % 2
unfolding bit
bit_is a i = refl

pub bit-lt : (a i : ℕ) → bit a i < 2
unfolding bit
bit-lt a i = mod-lt (a / 2 ^ i) (zero-lt-suc 1)

-- no coefficient at or above the degree's bound
pub bit-above : (a i : ℕ) → a < 2 ^ i → bit a i ≡ 0
unfolding bit
bit-above a i h = ap (λ (x : ℕ). x % 2) (div-eq_of_lt h)

pub bit-first : (a : ℕ) → bit a 0 ≡ a % 2
unfolding bit
bit-first a = omega arith

pub bit-half : (a i : ℕ) → bit (a / 2) i ≡ bit a (suc i)
unfolding bit
bit-half a i = sym (next_bit a i)

pub bit-double : (a i : ℕ) → bit (a * 2) (suc i) ≡ bit a i
bit-double a i = sym (bit-half (a * 2) i) ∙ ap (λ (x : ℕ). bit x i) (shl-shr a 1)

pub bit-double-first : (a : ℕ) → bit (a * 2) 0 ≡ 0
unfolding bit
bit-double-first a = omega arith

-- a polynomial is determined by its coefficients
pub same_bits_lem : (a b : ℕ) → ((i : ℕ) → bit a i ≡ bit b i) → a ≡ b
same_bits_lem a b h = go (a + b) a b (omega arith) (omega arith) h
  where
    go : (most a b : ℕ) → a ≤ most → b ≤ most → ((i : ℕ) → bit a i ≡ bit b i) → a ≡ b
    go zero a b p q h = omega arith
    go (suc most) a b p q h =
        let rest = go most (a / 2) (b / 2) (half_le p) (half_le q) (λ i. bit-half a i ∙ h (suc i) ∙ sym (bit-half b i)) in
        let first : a % 2 ≡ b % 2 = sym (bit-first a) ∙ h 0 ∙ bit-first b in
        omega arith

-- by those below k, where it has no others
pub same-bits-below : (k a b : ℕ) → a < 2 ^ k → b < 2 ^ k → ((i : ℕ) → i < k → bit a i ≡ bit b i) → a ≡ b
same-bits-below k a b ha hb h = same_bits_lem a b (λ i. go i (dec_lt i k))
  where
    none : (a i : ℕ) → a < 2 ^ k → (i < k → ⊥) → bit a i ≡ 0
    none a i l f = bit-above a i (lt_of_lt_of_le l (pow_mono (omega arith)))

    go : (i : ℕ) → Dec (i < k) → bit a i ≡ bit b i
    go i (yes l) = h i l
    go i (no f) = none a i ha f ∙ sym (none b i hb f)
