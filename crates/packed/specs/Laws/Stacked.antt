-- Bits pushed on a word, one by one and four at a time.
-- Assumes nothing.
use Rattle.std.specs.Prelude.{◌≡◌, ℕ, zero, suc, ◌+◌, ◌*◌, ◌/◌, ◌%◌, ◌^◌, ◌<◌, ◌≤◌, Bool, refl}
use Rattle.std.proofs.Common.{sym, ap, ap₂, ◌∙◌, add-zero, zero-add, suc-add, add-suc, add-mul, mul_right_comm, mul_comm, arith}
use Rattle.std.proofs.Math.Nat.{mod-mod, add-mod, mod-add-div', add-mul-mod_self_right}
use Rattle.base.specs.Bits.{digit, val, word}
use Rattle.base.specs.Laws.Values.{val_same, pow_step}
use Rattle.packed.specs.Packed.{stacked}
use Rattle.packed.specs.Stacked.{pushed, pushed_four}

-- in two parts
pub stacked-parts : (f : ℕ → ℕ) (o m n : ℕ) → stacked f o (m + n) ≡ stacked f o m + 2 ^ m * stacked f (o + m) n
unfolding stacked
stacked-parts f o zero n = ap (stacked f o) (zero-add n) ∙ omega (arith, ap (λ (k : ℕ). stacked f k n) (add-zero o))
stacked-parts f o (suc m) n =
    ap (stacked f o) (suc-add m n)
    ∙ omega (
      arith,
      stacked-parts f (suc o) m n,
      ap (λ (k : ℕ). 2 ^ m * stacked f k n) (suc-add o m ∙ sym (add-suc o m)),
      pow_step m (stacked f (o + suc m) n),
    )

-- ---- modulo 2^64

times_mod : (w p M : ℕ) → w % M * p % M ≡ w * p % M
times_mod w p M =
    sym (add-mul-mod_self_right (w % M * p) (w / M * p) M)
    ∙ ap (λ (n : ℕ). n % M)
    (ap (λ (n : ℕ). w % M * p + n) (mul_right_comm (w / M) p M) ∙ sym (add-mul (w % M) (w / M * M) p)
    ∙ ap (λ (n : ℕ). n * p) (mod-add-div' w M))

-- n numbers above m: both parts need to be right modulo 2^64 only
pub push-on : (f : ℕ → ℕ) (o m n w x : ℕ) → w % 2 ^ 64 ≡ stacked f (o + m) n % 2 ^ 64 → x % 2 ^ 64 ≡ stacked f o m % 2 ^ 64
    → pushed m w x ≡ stacked f o (m + n) % 2 ^ 64
unfolding pushed
push-on f o m n w x e h =
    let s = stacked f (o + m) n in let M = 2 ^ 64 in
    add-mod (w * 2 ^ m % M) x M
    ∙ ap₂ (λ (a b : ℕ). (a + b) % M)
    (mod-mod (w * 2 ^ m) M ∙ sym (times_mod w (2 ^ m) M) ∙ ap (λ (a : ℕ). a * 2 ^ m % M) e ∙ times_mod s (2 ^ m) M)
    h
    ∙ sym (add-mod (s * 2 ^ m) (stacked f o m) M)
    ∙ ap (λ (a : ℕ). a % M) (omega (arith, mul_comm s (2 ^ m), stacked-parts f o m n))

-- a remainder is what it is the remainder of, modulo 2^64
pub again : (n : ℕ) {w : ℕ} → w ≡ n % 2 ^ 64 → w % 2 ^ 64 ≡ n % 2 ^ 64
again n e = ap (λ (a : ℕ). a % 2 ^ 64) e ∙ mod-mod n (2 ^ 64)

-- one number by itself
pub alone : (f : ℕ → ℕ) (o : ℕ) {x : ℕ} → x ≡ f o → x % 2 ^ 64 ≡ stacked f o 1 % 2 ^ 64
unfolding stacked
alone f o e = ap (λ (a : ℕ). a % 2 ^ 64) (omega (arith, e))

-- four parts of m each, from those that stand at o, o + m, o + 2 m and o + 3 m
pub four-parts : (f : ℕ → ℕ) (o m a b c d : ℕ) → a % 2 ^ 64 ≡ stacked f o m % 2 ^ 64 → b % 2 ^ 64 ≡ stacked f (o + m) m % 2 ^ 64
    → c % 2 ^ 64 ≡ stacked f (o + m + m) m % 2 ^ 64 → d % 2 ^ 64 ≡ stacked f (o + m + m + m) m % 2 ^ 64
    → pushed_four m a b c d ≡ stacked f o (m + (m + (m + m))) % 2 ^ 64
four-parts f o m a b c d ea eb ec ed =
    push-on f o m (m + (m + m)) _ a
    (again (stacked f (o + m) (m + (m + m)))
    (push-on f (o + m) m (m + m) _ b (again (stacked f (o + m + m) (m + m)) (push-on f (o + m + m) m m d c ed ec)) eb))
    ea

-- ---- of bits

pub stacked-word : (f : ℕ → ℕ) (b : ℕ → Bool) (o n : ℕ) → ((x : ℕ) → o ≤ x → x < o + n → f x ≡ digit (b x)) → stacked f o n ≡ word b o n
unfolding stacked val
stacked-word f b o zero h = refl
stacked-word f b o (suc n) h =
    ap₂ (λ (x y : ℕ). x + 2 * y) (h o (omega arith) (omega arith) ∙ ap (λ (k : ℕ). digit (b k)) (sym (add-zero o)))
    (stacked-word f b (suc o) n (λ x l m. h x (omega arith) (omega arith)) ∙ val_same _ _ n (λ i _. ap b (omega arith)))

-- the same numbers, the same stack
pub stacked-same : (f g : ℕ → ℕ) (o p n : ℕ) → ((i : ℕ) → i < n → f (o + i) ≡ g (p + i)) → stacked f o n ≡ stacked g p n
unfolding stacked
stacked-same f g o p zero h = refl
stacked-same f g o p (suc n) h =
    ap₂ (λ (x y : ℕ). x + 2 * y) (ap f (sym (add-zero o)) ∙ h 0 (omega arith) ∙ ap g (add-zero p))
    (stacked-same f g (suc o) (suc p) n (λ i l. ap f (omega arith) ∙ h (suc i) (omega arith) ∙ ap g (omega arith)))
