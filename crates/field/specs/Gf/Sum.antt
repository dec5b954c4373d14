-- The sum of polynomials, and multiples by a coefficient.
use Rattle.std.specs.Prelude.{◌≡◌, refl, ℕ, zero, suc, ◌+◌, ◌*◌, ◌/◌, ◌%◌, ◌^◌, ◌≤◌, ◌<◌}
use Rattle.std.proofs.Common.{sym, ap, ◌∙◌, zero-le, le_refl, add-zero, zero-mul, one-mul, arith, pow_pos}
use Rattle.std.proofs.lemmas.Nat.{xor_comm, xor_lt, xor_shr, xor_mod, xor_block}
use Rattle.std.specs.Int.Bits.{xor_zero_r, xor_self, xor_shifted}
use Rattle.base.specs.Laws.Numbers.{zero-or-one}
use Rattle.field.specs.Gf.{bit, ◌⊕◌, scale}
use Rattle.field.specs.Gf.Coefficient.{bit-lt, bit-above, same_bits_lem}

pub ⊕-comm : (a b : ℕ) → a ⊕ b ≡ b ⊕ a
unfolding ◌⊕◌
⊕-comm = xor_comm

pub zero-⊕ : (a : ℕ) → 0 ⊕ a ≡ a
unfolding ◌⊕◌
zero-⊕ a = refl

pub ⊕-zero : (a : ℕ) → a ⊕ 0 ≡ a
unfolding ◌⊕◌
⊕-zero = xor_zero_r

pub ⊕-self : (a : ℕ) → a ⊕ a ≡ 0
unfolding ◌⊕◌
⊕-self = xor_self

pub ⊕-lt : (k : ℕ) {a b : ℕ} → a < 2 ^ k → b < 2 ^ k → a ⊕ b < 2 ^ k
unfolding ◌⊕◌
⊕-lt k {a} {b} = xor_lt k a b

pub ⊕-mod : (a b k : ℕ) → (a ⊕ b) % 2 ^ k ≡ a % 2 ^ k ⊕ b % 2 ^ k
unfolding ◌⊕◌
⊕-mod = xor_mod

pub ⊕-shr : (a b k : ℕ) → (a ⊕ b) / 2 ^ k ≡ a / 2 ^ k ⊕ b / 2 ^ k
unfolding ◌⊕◌
⊕-shr = xor_shr

-- two polynomials, each cut at t^k
pub ⊕-block : (k a b : ℕ) {r s : ℕ} → r < 2 ^ k → s < 2 ^ k → (a * 2 ^ k + r) ⊕ (b * 2 ^ k + s) ≡ (a ⊕ b) * 2 ^ k + (r ⊕ s)
unfolding ◌⊕◌
⊕-block k a b {r} {s} = xor_block k a b r s

pub ⊕-shl : (a b k : ℕ) → (a ⊕ b) * 2 ^ k ≡ a * 2 ^ k ⊕ b * 2 ^ k
⊕-shl a b k = let e = ⊕-block k a b (pow_pos k) (pow_pos k) in sym (simp (add-zero, ⊕-self) at e)

-- nothing in common: the sum is that of the numbers
pub ⊕-disjoint : (a k : ℕ) {r : ℕ} → r < 2 ^ k → a * 2 ^ k ⊕ r ≡ a * 2 ^ k + r
unfolding ◌⊕◌
⊕-disjoint a k {r} = xor_shifted a k r

pub bit-⊕ : (a b i : ℕ) → bit (a ⊕ b) i ≡ bit a i ⊕ bit b i
unfolding bit
bit-⊕ a b i = ap (λ (x : ℕ). x % 2) (⊕-shr a b i) ∙ ⊕-mod (a / 2 ^ i) (b / 2 ^ i) 1

-- coefficients add modulo 2
pub ⊕-coefficient : (c d : ℕ) → c < 2 → d < 2 → c ⊕ d ≡ (c + d) % 2
unfolding ◌⊕◌
⊕-coefficient c d hc hd =
    zero-or-one (λ (c : ℕ). c ⊕ d ≡ (c + d) % 2) (omega arith) (zero-or-one (λ (d : ℕ). 1 ⊕ d ≡ (1 + d) % 2) refl refl d hd) c hc

pub ⊕-assoc : (a b c : ℕ) → a ⊕ b ⊕ c ≡ a ⊕ (b ⊕ c)
unfolding ◌⊕◌
⊕-assoc a b c =
    same_bits_lem _ _ (λ i. simp bit-⊕ (coefficients (bit a i) (bit b i) (bit c i) (bit-lt a i) (bit-lt b i) (bit-lt c i)))
  where
    coefficients : (x y z : ℕ) → x < 2 → y < 2 → z < 2 → x ⊕ y ⊕ z ≡ x ⊕ (y ⊕ z)
    coefficients x y z hx hy hz =
        zero-or-one (λ (x : ℕ). x ⊕ y ⊕ z ≡ x ⊕ (y ⊕ z)) refl
        (zero-or-one (λ (y : ℕ). 1 ⊕ y ⊕ z ≡ 1 ⊕ (y ⊕ z)) refl
        (zero-or-one (λ (z : ℕ). 1 ⊕ 1 ⊕ z ≡ 1 ⊕ (1 ⊕ z)) refl refl z hz) y hy) x hx

-- the middle two change places
pub ⊕-swap : (a b c d : ℕ) → (a ⊕ b) ⊕ (c ⊕ d) ≡ (a ⊕ c) ⊕ (b ⊕ d)
⊕-swap a b c d = cc (⊕-assoc a b (c ⊕ d), ⊕-assoc b c d, ⊕-comm b c, ⊕-assoc c b d, ⊕-assoc a c (b ⊕ d))

-- a polynomial is its own negative
pub ⊕-equal : (a b : ℕ) → a ⊕ b ≡ 0 → a ≡ b
⊕-equal a b e = sym (cc (⊕-assoc a b b, ⊕-self b, ⊕-zero a)) ∙ ap (λ (x : ℕ). x ⊕ b) e ∙ zero-⊕ b

-- ---- multiples by a coefficient

pub scale-zero : (a : ℕ) → scale 0 a ≡ 0
unfolding scale
scale-zero a = refl

pub scale_one : (a : ℕ) → scale 1 a ≡ a
unfolding scale
scale_one a = refl

pub scale-is : (c a : ℕ) → c < 2 → scale c a ≡ c * a
scale-is c a = zero-or-one (λ (c : ℕ). scale c a ≡ c * a) (scale-zero a ∙ sym (zero-mul a)) (scale_one a ∙ sym (one-mul a)) c

pub scale-le : (c a : ℕ) → scale c a ≤ a
unfolding scale
scale-le zero a = zero-le
scale-le (suc c) a = le_refl a

-- linear in the polynomial, and in the coefficient
pub scale-⊕ : (c a b : ℕ) → scale c (a ⊕ b) ≡ scale c a ⊕ scale c b
unfolding scale
scale-⊕ zero a b = sym (zero-⊕ 0)
scale-⊕ (suc c) a b = refl

pub ⊕-scale : (c d a : ℕ) → c < 2 → d < 2 → scale (c ⊕ d) a ≡ scale c a ⊕ scale d a
unfolding scale ◌⊕◌
⊕-scale c d a hc hd =
    zero-or-one (λ (c : ℕ). scale (c ⊕ d) a ≡ scale c a ⊕ scale d a) refl
    (zero-or-one (λ (d : ℕ). scale (1 ⊕ d) a ≡ a ⊕ scale d a) (sym (⊕-zero a)) (sym (⊕-self a)) d hd) c hc

pub bit-scale : (c a i : ℕ) → bit (scale c a) i ≡ scale c (bit a i)
unfolding scale
bit-scale zero a i = bit-above 0 i (pow_pos i)
bit-scale (suc c) a i = refl

-- a polynomial from its first coefficient and the rest
pub join : (a : ℕ) → scale (a % 2) 1 ⊕ a / 2 * 2 ≡ a
join a =
    ⊕-comm (scale (a % 2) 1) (a / 2 * 2) ∙ ap (λ (x : ℕ). a / 2 * 2 ⊕ x) (scale-is (a % 2) 1 (omega arith))
    ∙ ⊕-disjoint (a / 2) 1 (omega arith) ∙ omega arith
