-- Hexadecimal digits: how many they are, the higher and the lower ones, and written from the last one on.
-- Assumes nothing.
use Rattle.std.specs.Prelude.{◌≡◌, refl, List, [], ◌∷◌, ◌++◌, ℕ, zero, suc, ◌+◌, ◌-◌, ◌*◌, ◌/◌, ◌%◌, ◌^◌, ◌≤◌, ◌<◌, length, drop, set, replicate}
use Rattle.std.proofs.Common.{sym, ap, ap₂, subst, ◌∙◌, append-nil, append_assoc, pow-suc, add-zero, add-suc, mul_comm, mul_assoc, arith, length-append, length-set, drop_at}
use Rattle.std.proofs.Math.Nat.{div-div-eq-div-mul}
use Rattle.text.specs.Digits.{hex_digit, hex}
use Rattle.text.specs.Laws.Blanks.{digit-before}

pub hex-length : (k n : ℕ) → length (hex k n) ≡ k
unfolding hex
hex-length zero n = refl
hex-length (suc k) n = length-append (hex k (n / 16)) (hex_digit (n % 16) ∷ []) ∙ omega (arith, hex-length k (n / 16))

-- the higher digits, and then the lower ones
hex-split : (j k n : ℕ) → hex (j + k) n ≡ hex j (n / 16 ^ k) ++ hex k n
unfolding hex
hex-split j zero n = sym (append-nil (hex j (n / 1)) ∙ ap₂ hex (sym (add-zero j)) (omega arith))
hex-split j (suc k) n =
    ap (λ (m : ℕ). hex m n) (add-suc j k)
    ∙ ap (λ (front : List ℕ). front ++ (hex_digit (n % 16) ∷ [])) (hex-split j k (n / 16))
    ∙ append_assoc (hex j (n / 16 / 16 ^ k)) (hex k (n / 16)) (hex_digit (n % 16) ∷ [])
    ∙ ap (λ (m : ℕ). hex j m ++ (hex k (n / 16) ++ (hex_digit (n % 16) ∷ [])))
    (div-div-eq-div-mul n 16 (16 ^ k) ∙ ap (λ (m : ℕ). n / m) (mul_comm 16 (16 ^ k) ∙ sym (pow-suc 16 k)))

-- without the higher ones, the lower ones
pub hex-last : (j k n : ℕ) → drop j (hex (j + k) n) ≡ hex k n
hex-last j k n = ap (drop j) (hex-split j k n) ∙ drop_at (hex j (n / 16 ^ k)) (hex k n) j (hex-length j (n / 16 ^ k))

-- the lower digits say nothing of what is above them
hex-low : (k a b : ℕ) → hex k (a * 16 ^ k + b) ≡ hex k b
unfolding hex
hex-low zero a b = refl
hex-low (suc k) a b =
    ap₂ (λ (m d : ℕ). hex k m ++ (hex_digit d ∷ [])) whole last
    ∙ ap (λ (front : List ℕ). front ++ (hex_digit (b % 16) ∷ [])) (hex-low k a (b / 16))
  where
    up : a * 16 ^ suc k ≡ 16 * (a * 16 ^ k)
    up = ap (λ (m : ℕ). a * m) (pow-suc 16 k) ∙ sym (mul_assoc a (16 ^ k) 16) ∙ mul_comm (a * 16 ^ k) 16

    whole : (a * 16 ^ suc k + b) / 16 ≡ a * 16 ^ k + b / 16
    whole = omega (arith, up)

    last : (a * 16 ^ suc k + b) % 16 ≡ b % 16
    last = omega (arith, up)

-- two words of 64 bits, the higher first
pub hex-words : (high low : ℕ) → low < 2 ^ 64 → hex 32 (high * 2 ^ 64 + low) ≡ hex 16 high ++ hex 16 low
hex-words high low h =
    hex-split 16 16 (high * 2 ^ 64 + low) ∙ ap₂ (λ (m : ℕ) (ds : List ℕ). hex 16 m ++ ds) (omega arith) (hex-low 16 high low)

-- ---- the hexadecimal digits, written from the last one on

pub record Hexed (n rest i : ℕ) (digits : List ℕ) : Type 0 where
  pub width : length digits ≡ 16
  pub inside : i ≤ 16
  pub digits_are : hex 16 n ≡ hex i rest ++ drop i digits

pub hexed-none : (n : ℕ) → Hexed n n 16 (replicate 16 0x30)
hexed-none n = record { width = refl; inside = omega arith; digits_are = sym (append-nil (hex 16 n)) }

next : (n rest i d : ℕ) (digits : List ℕ) → d ≡ hex_digit (rest % 16) → Hexed n rest (suc i) digits → Hexed n (rest / 16) i (set digits i d)
unfolding hex
next n rest i d digits e b =
    record {
      width = length-set digits i d ∙ b.width;
      inside = let l = b.inside in omega arith;
      digits_are = b.digits_are
          ∙ ap (λ (x : ℕ). hex i (rest / 16) ++ (x ∷ []) ++ drop (suc i) digits) (sym e)
          ∙ digit-before (hex i (rest / 16)) digits i d (omega (arith, b.width, b.inside));
    }

pub hexed-more : (n rest i d : ℕ) (digits : List ℕ) → 0 < i → d ≡ hex_digit (rest % 16) → Hexed n rest i digits
    → Hexed n (rest / 16) (i - 1) (set digits (i - 1) d)
hexed-more n rest zero d digits h e b = absurd (omega arith)
hexed-more n rest (suc i) d digits h e b = subst (λ (k : ℕ). Hexed n (rest / 16) k (set digits k d)) (omega arith)
    (next n rest i d digits e b)

pub hexed-all : (n rest i : ℕ) (digits : List ℕ) → i ≤ 0 → Hexed n rest i digits → digits ≡ hex 16 n
unfolding hex
hexed-all n rest i digits h b = sym (b.digits_are ∙ ap (λ (k : ℕ). hex k rest ++ drop k digits) e)
  where
    e : i ≡ 0
    e = omega arith
