-- The carry-less product is the product of polynomials over GF(2): its coefficients are the convolution of the factors',
-- modulo 2.
use Rattle.std.specs.Prelude.{◌≡◌, ℕ, zero, suc, ◌+◌, ◌-◌, ◌*◌, ◌/◌, ◌%◌, ◌^◌, ◌<◌}
use Rattle.std.proofs.Common.{sym, ap, ap₂, ◌∙◌, lt_of_lt_of_le, lt_of_le_of_lt, mul_assoc, mul-one, add-suc, pow-suc, le-add_right, add-one, arith, pow_pos, pow_mono, shl_lt, shr_lt, lit<}
use Rattle.std.proofs.Math.Path.{fun_ext}
use Rattle.std.proofs.Math.Nat.{suc-sub-suc, sub-zero}
use Rattle.std.proofs.Math.Arith.{bin_ind, lt-one}
use Rattle.base.specs.Sums.{sum}
use Rattle.field.specs.Gf.{bit, ◌⊕◌, scale, clmul}
use Rattle.field.specs.Gf.Coefficient.{bit-lt, bit-first, bit-half, bit-double, bit-double-first}
use Rattle.field.specs.Gf.Sum.{bit-scale, bit-⊕, ⊕-lt, ⊕-shl, ⊕-coefficient, scale-is, scale-le, join}
use Rattle.field.specs.Gf.Multiply.{multiply-zero, multiply-horner, multiply-up, multiply-⊕, ⊕-multiply}

pub double-⊕ : (a b : ℕ) → (a ⊕ b) * 2 ≡ a * 2 ⊕ b * 2
double-⊕ a b = ⊕-shl a b 1

pub clmul-zero : (a : ℕ) → clmul a 0 ≡ 0
unfolding clmul
clmul-zero = multiply-zero (λ x. x * 2)

pub clmul-horner : (a b : ℕ) → clmul a b ≡ scale (b % 2) a ⊕ clmul a (b / 2) * 2
unfolding clmul
clmul-horner = multiply-horner (λ x. x * 2) double-⊕

clmul-double : (a b : ℕ) → clmul (a * 2) b ≡ clmul a b * 2
unfolding clmul
clmul-double a b = multiply-up (λ x. x * 2) double-⊕ b a

pub ⊕-clmul : (a b c : ℕ) → clmul (a ⊕ b) c ≡ clmul a c ⊕ clmul b c
unfolding clmul
⊕-clmul a b c = ⊕-multiply (λ x. x * 2) double-⊕ c a b

pub clmul-⊕ : (a b c : ℕ) → clmul a (b ⊕ c) ≡ clmul a b ⊕ clmul a c
unfolding clmul
clmul-⊕ a b c = multiply-⊕ (λ x. x * 2) double-⊕ b a c

-- ---- its coefficients

module _ (a b k : ℕ) where
  first : bit (clmul a b) k ≡ scale (b % 2) (bit a k) ⊕ bit (clmul a (b / 2) * 2) k
  first =
      ap (λ (x : ℕ). bit x k) (clmul-horner a b) ∙ bit-⊕ _ _ k
      ∙ ap (λ (x : ℕ). x ⊕ bit (clmul a (b / 2) * 2) k) (bit-scale (b % 2) a k)

  term : scale (b % 2) (bit a k) ≡ bit b 0 * bit a (k - 0)
  term = scale-is (b % 2) (bit a k) (omega arith) ∙ ap₂ ◌*◌ (sym (bit-first b)) (ap (bit a) (sym (sub-zero k)))

  term-lt : scale (b % 2) (bit a k) < 2
  term-lt = lt_of_le_of_lt (scale-le (b % 2) (bit a k)) (bit-lt a k)

add-mod : (x y : ℕ) → (x + y % 2) % 2 ≡ (x + y) % 2
add-mod x y = omega arith

-- that of t^k: over i + j = k, the sum of b's at i times a's at j, modulo 2
pub coefficient : (k a b : ℕ) → bit (clmul a b) k ≡ sum 0 ◌+◌ (suc k) (λ i. bit b i * bit a (k - i)) % 2
unfolding sum
coefficient zero a b =
    first a b zero ∙ ap (◌⊕◌ _) (bit-double-first (clmul a (b / 2))) ∙ ⊕-coefficient _ 0 (term-lt a b zero) (lit< tt)
    ∙ ap (λ (x : ℕ). (x + 0) % 2) (term a b zero)
coefficient (suc k) a b =
    first a b (suc k) ∙ ap (◌⊕◌ _) (bit-double (clmul a (b / 2)) k ∙ coefficient k a (b / 2))
    ∙ ⊕-coefficient _ _ (term-lt a b (suc k)) (omega arith) ∙ add-mod _ _
    ∙ ap₂ (λ (x y : ℕ). (x + y) % 2) (term a b (suc k))
    (ap (sum 0 ◌+◌ (suc k)) (fun_ext (λ i. ap₂ ◌*◌ (bit-half b i) (ap (bit a) (sym (suc-sub-suc k i))))))

-- ---- its degree, and powers of t

pub clmul-lt : (k m a b : ℕ) → a < 2 ^ k → b < 2 ^ m → clmul a b < 2 ^ (k + m)
clmul-lt k zero a b ha hb = rw (lt-one hb, clmul-zero) (pow_pos (k + 0))
clmul-lt k (suc m) a b ha hb =
    rw clmul-horner
    (⊕-lt (k + suc m) (lt_of_le_of_lt (scale-le (b % 2) a) (lt_of_lt_of_le ha (pow_mono (le-add_right k (suc m)))))
    (rw (add-suc, ← add-one (k + m)) (shl_lt (k + m) 1 (clmul-lt k m a (b / 2) ha (shr_lt m 1 (rw add-one hb))))))

pub power-clmul : (k b : ℕ) → clmul (2 ^ k) b ≡ b * 2 ^ k
power-clmul zero b =
    bin_ind (λ (b : ℕ). clmul 1 b ≡ b) (clmul-zero 1)
    (λ b ih. clmul-horner 1 b ∙ ap (λ (x : ℕ). scale (b % 2) 1 ⊕ x * 2) ih ∙ join b) b ∙ sym (mul-one b)
power-clmul (suc k) b =
    ap (λ (x : ℕ). clmul x b) (pow-suc 2 k) ∙ clmul-double (2 ^ k) b ∙ ap (λ (x : ℕ). x * 2) (power-clmul k b)
    ∙ mul_assoc b (2 ^ k) 2 ∙ ap (λ (x : ℕ). b * x) (sym (pow-suc 2 k))
