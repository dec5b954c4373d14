-- A number and its bits, each from the other, and Booleans that say what a test of numbers says.
-- Assumes nothing.
use Rattle.std.proofs.Common.{one-add, shr-shr, sym, ap, ◌∙◌, true≢false, not-suc-le-zero, le_of_suc-le-suc, div-one, mod-eq_of_lt, arith, eqb-true, eq-eqb, lt-ltb, le-ltb}
use Rattle.std.specs.Prelude.{◌≡◌, refl, Bool, true, false, ℕ, zero, suc, ◌<◌, ◌/◌, ◌%◌, ◌^◌, eqb, ltb}
use Rattle.base.specs.Bits.{digit, val, bit_of, is_set, bit_at}
use Rattle.base.specs.Laws.Values.{val-lt, val_same}

-- a coefficient is 0 or 1: two cases
pub zero-or-one : (P : ℕ → Type 0) → P 0 → P 1 → (c : ℕ) → c < 2 → P c
zero-or-one P p q zero h = p
zero-or-one P p q (suc zero) h = q
zero-or-one P p q (suc (suc c)) h = absurd (not-suc-le-zero (le_of_suc-le-suc (le_of_suc-le-suc h)))

pub digit-of : (r : ℕ) → r < 2 → r ≡ digit (is_set r)
digit-of = zero-or-one (λ (r : ℕ). r ≡ digit (is_set r)) refl refl

pub next_bit : (a i : ℕ) → bit_of a (suc i) ≡ bit_of (a / 2) i
next_bit a i = ap (λ (x : ℕ). x % 2) (sym (shr-shr a 1 i ∙ ap (λ (x : ℕ). a / 2 ^ x) (one-add i)))

pub val-bits : (n a : ℕ) → a < 2 ^ n → val (λ i. is_set (bit_of a i)) n ≡ a
unfolding val
val-bits zero a l = omega arith
val-bits (suc n) a l =
    omega (
      arith,
      ap (λ (q : ℕ). digit (is_set (q % 2))) (div-one a),
      digit-of (a % 2) (omega arith),
      val_same (λ i. is_set (bit_of a (suc i))) (λ i. is_set (bit_of (a / 2) i)) n (λ i o. ap is_set (next_bit a i)),
      val-bits n (a / 2) (omega arith),
    )

-- the number with a word's n bits is the word
pub made_of : (n w : ℕ) (f : ℕ → Bool) → w < 2 ^ n → ((i : ℕ) → i < n → bit_at w i ≡ f i) → val f n % 2 ^ n ≡ w
made_of n w f l h = mod-eq_of_lt (val-lt n f) ∙ sym (val_same (bit_at w) f n h) ∙ val-bits n w l

-- ---- a Boolean that says what a test says

pub is-eqb : (b : Bool) (m n : ℕ) → (b ≡ true → m ≡ n) → (m ≡ n → b ≡ true) → b ≡ eqb m n
is-eqb b m n f g = go b (eqb m n) refl refl
  where
    go : (x y : Bool) → b ≡ x → eqb m n ≡ y → x ≡ y
    go true true p q = refl
    go true false p q = absurd (true≢false (sym (eq-eqb m n (f p)) ∙ q))
    go false true p q = absurd (true≢false (sym (g (eqb-true m n q)) ∙ p))
    go false false p q = refl

pub is-ltb : (x : Bool) (m n : ℕ) → (x ≡ true → m < n) → (x ≡ false → (m < n → ⊥)) → x ≡ ltb m n
is-ltb true m n f g = sym (lt-ltb m n (f refl))
is-ltb false m n f g = let h = g refl in sym (le-ltb m n (omega arith))
