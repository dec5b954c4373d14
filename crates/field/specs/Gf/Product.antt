-- The product in the field is commutative, associative and distributive, with 0 and 1.
use Rattle.std.specs.Prelude.{◌≡◌, refl, ℕ, zero, suc, ◌*◌, ◌/◌, ◌%◌, ◌^◌, ◌<◌}
use Rattle.std.proofs.Common.{sym, ap, ap₂, subst, ◌∙◌, mod-lt, mod-eq_of_lt, lt_of_le_of_lt, mul-one, mul_assoc, mul_comm, le-mul_of_pos_right, pow-suc, pow_pos, shl_lt, shr_lt, lit<}
use Rattle.std.proofs.Math.Nat.{mul-mod_left}
use Rattle.std.proofs.Math.Arith.{bin_ind}
use Rattle.std.proofs.lemmas.Nat.{shr_le, shl-shr}
use Rattle.field.specs.Gf.{bit, ◌⊕◌, scale, times-t, ◌⊗◌}
use Rattle.field.specs.Gf.Coefficient.{bit-lt, bit-above}
use Rattle.field.specs.Gf.Sum.{bit-⊕, ⊕-swap, zero-⊕, ⊕-zero, ⊕-lt, ⊕-mod, ⊕-shl, ⊕-scale, scale-zero, scale-le, join}
use Rattle.field.specs.Gf.Multiply.{multiply-zero, multiply-one, multiply-step, multiply-scale, multiply-up, multiply-⊕, ⊕-multiply, zero-multiply, scale-multiply}

-- ---- times t

pub times-t-is : (a : ℕ) → times-t a ≡ a * 2 % 2 ^ 128 ⊕ scale (bit a 127) 0x87
unfolding times-t
times-t-is a = refl

pub times-t-⊕ : (a b : ℕ) → times-t (a ⊕ b) ≡ times-t a ⊕ times-t b
unfolding times-t
times-t-⊕ a b =
    ap₂ ◌⊕◌ (ap (λ (x : ℕ). x % 2 ^ 128) (⊕-shl a b 1) ∙ ⊕-mod (a * 2) (b * 2) 128)
    (ap (λ (c : ℕ). scale c 0x87) (bit-⊕ a b 127) ∙ ⊕-scale (bit a 127) (bit b 127) 0x87 (bit-lt a 127) (bit-lt b 127))
    ∙ ⊕-swap _ _ _ _

pub times-t-lt : (a : ℕ) → times-t a < 2 ^ 128
unfolding times-t
times-t-lt a = ⊕-lt 128 (mod-lt (a * 2) (lit< tt)) (lt_of_le_of_lt (scale-le (bit a 127) 0x87) (lit< tt))

-- below degree 127 nothing comes back
pub times-t-low : (a : ℕ) → a < 2 ^ 127 → times-t a ≡ a * 2
unfolding times-t
times-t-low a h =
    ap₂ ◌⊕◌ (mod-eq_of_lt (shl_lt 127 1 h)) (ap (λ (c : ℕ). scale c 0x87) (bit-above a 127 h) ∙ scale-zero 0x87) ∙ ⊕-zero (a * 2)

-- ---- what both products share

pub ⊗-zero : (a : ℕ) → a ⊗ 0 ≡ 0
unfolding ◌⊗◌
⊗-zero = multiply-zero times-t

pub zero-⊗ : (a : ℕ) → 0 ⊗ a ≡ 0
unfolding ◌⊗◌
zero-⊗ = zero-multiply times-t times-t-⊕

pub ⊗-one : (a : ℕ) → a ⊗ 1 ≡ a
unfolding ◌⊗◌
⊗-one = multiply-one times-t

pub ⊗-⊕ : (a b c : ℕ) → a ⊗ (b ⊕ c) ≡ a ⊗ b ⊕ a ⊗ c
unfolding ◌⊗◌
⊗-⊕ a b c = multiply-⊕ times-t times-t-⊕ b a c

pub ⊕-⊗ : (a b c : ℕ) → (a ⊕ b) ⊗ c ≡ a ⊗ c ⊕ b ⊗ c
unfolding ◌⊗◌
⊕-⊗ a b c = ⊕-multiply times-t times-t-⊕ c a b

⊗-scale : (a c b : ℕ) → scale c (a ⊗ b) ≡ a ⊗ scale c b
unfolding ◌⊗◌
⊗-scale = multiply-scale times-t

scale-⊗ : (c a b : ℕ) → scale c (a ⊗ b) ≡ scale c a ⊗ b
unfolding ◌⊗◌
scale-⊗ = scale-multiply times-t times-t-⊕

pub times-t-⊗ : (a b : ℕ) → times-t a ⊗ b ≡ times-t (a ⊗ b)
unfolding ◌⊗◌
times-t-⊗ a b = multiply-up times-t times-t-⊕ b a

-- by the first coefficient of the second factor: as Algorithm 1 goes, and as Horner does
pub ⊗-step : (a b : ℕ) → a ⊗ b ≡ scale (b % 2) a ⊕ times-t a ⊗ (b / 2)
unfolding ◌⊗◌
⊗-step = multiply-step times-t

pub ⊗-horner : (a b : ℕ) → a ⊗ b ≡ scale (b % 2) a ⊕ times-t (a ⊗ (b / 2))
⊗-horner a b = ⊗-step a b ∙ ap (λ (x : ℕ). scale (b % 2) a ⊕ x) (times-t-⊗ a (b / 2))

-- ---- what needs the degree below 128

pub ⊗-lt : {a : ℕ} (b : ℕ) → a < 2 ^ 128 → a ⊗ b < 2 ^ 128
⊗-lt {a} b h =
    bin_ind (λ (b : ℕ). (a : ℕ) → a < 2 ^ 128 → a ⊗ b < 2 ^ 128) (λ a h. rw ⊗-zero (lit< tt))
    (λ b ih a h. rw ⊗-step (⊕-lt 128 (lt_of_le_of_lt (scale-le (b % 2) a) h) (ih (times-t a) (times-t-lt a)))) b a h

half_lt : {b : ℕ} → b < 2 ^ 128 → b / 2 < 2 ^ 128
half_lt {b} h = lt_of_le_of_lt (shr_le b 1) h

pub one-⊗ : (b : ℕ) → b < 2 ^ 128 → 1 ⊗ b ≡ b
one-⊗ =
    bin_ind (λ (b : ℕ). b < 2 ^ 128 → 1 ⊗ b ≡ b) (λ h. ⊗-zero 1)
    (λ b ih h.
    ⊗-horner 1 b ∙ ap (λ (x : ℕ). scale (b % 2) 1 ⊕ x) (ap times-t (ih (half_lt h)) ∙ times-t-low (b / 2) (shr_lt 127 1 h)) ∙ join b)

-- by Horner's form on one side and linearity on the other
pub ⊗-comm : (a b : ℕ) → a < 2 ^ 128 → b < 2 ^ 128 → a ⊗ b ≡ b ⊗ a
⊗-comm a b ha hb =
    bin_ind (λ (b : ℕ). b < 2 ^ 128 → a ⊗ b ≡ b ⊗ a) (λ h. ⊗-zero a ∙ sym (zero-⊗ a))
    (λ b ih h.
    ⊗-horner a b
    ∙ ap₂ ◌⊕◌ (ap (scale (b % 2)) (sym (one-⊗ a ha)) ∙ scale-⊗ (b % 2) 1 a)
    (ap times-t (ih (half_lt h)) ∙ sym (times-t-⊗ (b / 2) a) ∙ ap (λ (x : ℕ). x ⊗ a) (times-t-low (b / 2) (shr_lt 127 1 h)))
    ∙ sym (⊕-⊗ _ _ a) ∙ ap (λ (x : ℕ). x ⊗ a) (join b)) b hb

⊗-times-t : (a b : ℕ) → a < 2 ^ 128 → b < 2 ^ 128 → a ⊗ times-t b ≡ times-t (a ⊗ b)
⊗-times-t a b ha hb = ⊗-comm a (times-t b) ha (times-t-lt b) ∙ times-t-⊗ b a ∙ ap times-t (⊗-comm b a hb ha)

pub ⊗-assoc : (a b c : ℕ) → a < 2 ^ 128 → b < 2 ^ 128 → a ⊗ b ⊗ c ≡ a ⊗ (b ⊗ c)
⊗-assoc a b c ha hb =
    bin_ind (λ (c : ℕ). a ⊗ b ⊗ c ≡ a ⊗ (b ⊗ c)) (simp ⊗-zero)
    (λ c ih.
    ⊗-horner (a ⊗ b) c
    ∙ ap₂ ◌⊕◌ (⊗-scale a (c % 2) b) (ap times-t ih ∙ sym (⊗-times-t a (b ⊗ (c / 2)) ha (⊗-lt (c / 2) hb)))
    ∙ sym (⊗-⊕ a _ _) ∙ ap (◌⊗◌ a) (sym (⊗-horner b c))) c

-- ---- times a power of t

⊗-double : (a b : ℕ) → a ⊗ (b * 2) ≡ times-t a ⊗ b
⊗-double a b =
    ⊗-step a (b * 2)
    ∙ ap₂ (λ (c x : ℕ). scale c a ⊕ times-t a ⊗ x) (mul-mod_left b 2) (shl-shr b 1)
    ∙ ap (λ (x : ℕ). x ⊕ times-t a ⊗ b) (scale-zero a) ∙ zero-⊕ _

pub ⊗-two : (a : ℕ) → a ⊗ 2 ≡ times-t a
⊗-two a = ⊗-double a 1 ∙ ⊗-one (times-t a)

-- it moves the coefficients up, where none passes t^127
pub ⊗-power : (k a : ℕ) → a * 2 ^ k < 2 ^ 128 → a ⊗ 2 ^ k ≡ a * 2 ^ k
⊗-power zero a h = ⊗-one a ∙ sym (mul-one a)
⊗-power (suc k) a h =
    let e : a * 2 ^ suc k ≡ a * 2 * 2 ^ k = ap (◌*◌ a) (pow-suc 2 k ∙ mul_comm (2 ^ k) 2) ∙ sym (mul_assoc a 2 (2 ^ k)) in
    let fits = subst (λ (x : ℕ). x < 2 ^ 128) e h in
    let double-lt = lt_of_le_of_lt (le-mul_of_pos_right (a * 2) (pow_pos k)) fits in
    let small = subst (λ (x : ℕ). x < 2 ^ 127) (shl-shr a 1) (shr_lt 127 1 double-lt) in
    ap (◌⊗◌ a) (pow-suc 2 k) ∙ ⊗-double a (2 ^ k) ∙ ap (λ (x : ℕ). x ⊗ 2 ^ k) (times-t-low a small) ∙ ⊗-power k (a * 2) fits ∙ sym e
