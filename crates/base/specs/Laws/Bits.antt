-- Bits of numbers, for any width: of a sum that wraps, of its carries, and of what word operations make.
-- Assumes nothing.
use Rattle.std.specs.Prelude.{◌≡◌, refl, Bool, false, ◌&&◌, eqb}
use Rattle.std.proofs.Common.{sym, ◌∙◌, mod-lt, add-zero, add_comm, zero-add, mod-eq_of_lt, arith, pow_pos, shr-shr}
use Rattle.std.proofs.Math.Path.{ap, ap₂}
use Rattle.std.proofs.Math.Bool.{true, not}
use Prim.Native.Nat.{ℕ, zero, suc, ◌+◌, ◌*◌, ◌-◌, ◌/◌, ◌%◌, ◌^◌, ◌≤◌, ◌<◌}
use Rattle.std.proofs.Math.Nat.{zero-div, mul-add-mod_self_left, add-mul-div_left, div-eq_of_lt}
use Rattle.std.specs.Int.Bits.{bit_xor, bit_and}
use Rattle.std.proofs.lemmas.Nat.{xor_shr, xor_mod, and_shr, and_mod}
use Rattle.std.proofs.Math.Pow.{field, mod-mod-pow}
use Rattle.base.specs.Bits.{digit, val, ◌⊻◌, word, is_set, majority, Carries, bit_at}
use Rattle.base.specs.Laws.Numbers.{zero-or-one, val-bits}
use Rattle.base.specs.Laws.Values.{val-lt, val_same, same_bits_lem, complement}
use Rattle.base.specs.Laws.Cases.{of_three}
use Rattle.base.specs.Laws.Adder.{wrapping-sum}

-- as the code tests it
pub odd_is : (r : ℕ) → r < 2 → eqb r 1 ≡ is_set r
odd_is = zero-or-one (λ (r : ℕ). eqb r 1 ≡ is_set r) refl refl

pub bit-digit : (b : Bool) → bit_at (digit b) 0 ≡ b
bit-digit true = refl
bit-digit false = refl

-- ---- moved down, cut off, put together from bits

pub bit-shr : (a k i : ℕ) → bit_at (a / 2 ^ k) i ≡ bit_at a (k + i)
bit-shr a k i = ap (λ (q : ℕ). is_set (q % 2)) (shr-shr a k i)

pub bit_cut : (a n i : ℕ) → i < n → bit_at (a % 2 ^ n) i ≡ bit_at a i
bit_cut a n i l =
    ap (λ (k : ℕ). is_set (a % 2 ^ k / 2 ^ i % 2)) (omega arith)
    ∙ ap (λ (q : ℕ). is_set (q % 2)) (field a (n - suc i + 1) i) ∙ ap (λ (q : ℕ). is_set q) (mod-mod-pow (a / 2 ^ i) (n - suc i) 1)

pub bit_val : (f : ℕ → Bool) (n i : ℕ) → i < n → bit_at (val f n) i ≡ f i
bit_val f n i l = same_bits_lem (bit_at (val f n)) f n (val-bits n (val f n) (val-lt n f)) i l

-- a bit of a word of columns, and part of one
pub word-bit : (z : ℕ → Bool) (o n i : ℕ) → i < n → bit_at (word z o n) i ≡ z (o + i)
word-bit z o n i l = bit_val (λ j. z (o + j)) n i l

pub word-part : (z : ℕ → Bool) (o m k n : ℕ) → k + n ≤ m → word z o m / 2 ^ k % 2 ^ n ≡ word z (o + k) n
word-part z o m k n h =
    sym (val-bits n (word z o m / 2 ^ k % 2 ^ n) (mod-lt _ (pow_pos n)))
    ∙ val_same _ _ n
    (λ i l. bit_cut (word z o m / 2 ^ k) n i l ∙ bit-shr (word z o m) k i ∙ word-bit z o m (k + i) (omega arith) ∙ ap z (omega arith))

-- 0 has none
pub no-bit : (i : ℕ) → bit_at 0 i ≡ false
no-bit i = ap (λ (q : ℕ). is_set (q % 2)) (zero-div (2 ^ i))

-- two words side by side
module _ (n low high : ℕ) (h : low < 2 ^ n) where
  pub bit-low : (i : ℕ) → i < n → bit_at (low + 2 ^ n * high) i ≡ bit_at low i
  bit-low i l =
      sym (bit_cut (low + 2 ^ n * high) n i l)
      ∙ ap (λ (m : ℕ). bit_at m i) (ap (λ (m : ℕ). m % 2 ^ n) (add_comm low (2 ^ n * high)) ∙ mul-add-mod_self_left (2 ^ n) high low
      ∙ mod-eq_of_lt h)

  pub bit_high : (i : ℕ) → bit_at (low + 2 ^ n * high) (n + i) ≡ bit_at high i
  bit_high i =
      sym (bit-shr (low + 2 ^ n * high) n i)
      ∙ ap (λ (m : ℕ). bit_at m i) (add-mul-div_left low high (pow_pos n) ∙ ap (λ (m : ℕ). m + high) (div-eq_of_lt h) ∙ zero-add high)

-- moved up by g
pub bit_moved : (g x i : ℕ) → bit_at (2 ^ g * x) (g + i) ≡ bit_at x i
bit_moved g x i = ap (λ (n : ℕ). bit_at n (g + i)) (sym (zero-add (2 ^ g * x))) ∙ bit_high g 0 x (pow_pos g) i

pub bit_below : (g x i : ℕ) → i < g → bit_at (2 ^ g * x) i ≡ false
bit_below g x i l = ap (λ (n : ℕ). bit_at n i) (sym (zero-add (2 ^ g * x))) ∙ bit-low g 0 x (pow_pos g) i l ∙ no-bit i

-- ---- exclusive or, and, complement

by_digits : (f : ℕ → ℕ → ℕ) (g : Bool → Bool → Bool) → is_set (f 0 0) ≡ g false false → is_set (f 0 1) ≡ g false true
    → is_set (f 1 0) ≡ g true false → is_set (f 1 1) ≡ g true true → (x y : ℕ) → x < 2 → y < 2 → is_set (f x y) ≡ g (is_set x) (is_set y)
by_digits f g p q r s x y h k =
    zero-or-one (λ (x : ℕ). is_set (f x y) ≡ g (is_set x) (is_set y))
    (zero-or-one (λ (y : ℕ). is_set (f 0 y) ≡ g false (is_set y)) p q y k)
    (zero-or-one (λ (y : ℕ). is_set (f 1 y) ≡ g true (is_set y)) r s y k) x h

pub bit-xor : (a b i : ℕ) → bit_at (bit_xor a b) i ≡ bit_at a i ⊻ bit_at b i
bit-xor a b i =
    ap (λ (x : ℕ). is_set x) (ap (λ (x : ℕ). x % 2) (xor_shr a b i) ∙ xor_mod (a / 2 ^ i) (b / 2 ^ i) 1)
    ∙ by_digits bit_xor ◌⊻◌ refl refl refl refl (a / 2 ^ i % 2) (b / 2 ^ i % 2) (omega arith) (omega arith)

pub bit-and : (a b i : ℕ) → bit_at (bit_and a b) i ≡ (bit_at a i && bit_at b i)
bit-and a b i =
    ap (λ (x : ℕ). is_set x) (ap (λ (x : ℕ). x % 2) (and_shr a b i) ∙ and_mod (a / 2 ^ i) (b / 2 ^ i) 1)
    ∙ by_digits bit_and ◌&&◌ refl refl refl refl (a / 2 ^ i % 2) (b / 2 ^ i % 2) (omega arith) (omega arith)

bit_not : (n a i : ℕ) → a < 2 ^ n → i < n → bit_at (2 ^ n - 1 - a) i ≡ not (bit_at a i)
bit_not n a i h l =
    ap (λ (x : ℕ). bit_at x i) (omega (arith, val-bits n a h, complement (bit_at a) n)) ∙ bit_val (λ j. not (bit_at a j)) n i l

-- ---- the carries of a sum

-- the carry into bit i of a + b + s
unfoldable pub carry_into : ℕ → ℕ → Bool → ℕ → Bool
carry_into a b s zero = s
carry_into a b s (suc i) = majority (bit_at a i) (bit_at b i) (carry_into a b s i)

-- whatever holds the carries holds these
pub carries-into : (n a b : ℕ) (c : ℕ → Bool) → Carries n (bit_at a) (bit_at b) c → (i : ℕ) → i ≤ n → carry_into a b (c 0) i ≡ c i
unfolding carry_into
carries-into n a b c h zero l = refl
carries-into n a b c h (suc i) l =
    ap (majority (bit_at a i) (bit_at b i)) (carries-into n a b c h i (omega arith)) ∙ sym (h i (omega arith))

-- of words of n + 1 bits
module _ (n a b : ℕ) (s : Bool) (ha : a < 2 ^ suc n) (hb : b < 2 ^ suc n) where
  abbrev sum : ℕ
  sum = (a + b + digit s) % 2 ^ suc n

  sum-bit : (i : ℕ) → i < suc n → bit_at sum i ≡ bit_at a i ⊻ bit_at b i ⊻ carry_into a b s i
  unfolding carry_into
  sum-bit =
      (wrapping-sum n (bit_at a) (bit_at b) (carry_into a b s) (bit_at sum) (λ i l. refl)
      ).0 (val-bits (suc n) sum (mod-lt (a + b + digit s) (pow_pos (suc n)))
      ∙ ap₂ (λ (x y : ℕ). (x + y + digit s) % 2 ^ suc n) (sym (val-bits (suc n) a ha)) (sym (val-bits (suc n) b hb)))

  undo : (x y c : Bool) → ((x ⊻ y) ⊻ (x ⊻ y ⊻ c)) ≡ c
  undo = of_three _ _ refl

  -- the sum without the addends is the carries
  pub carry-bit : (i : ℕ) → i < suc n → bit_at (bit_xor (bit_xor a b) ((a + b + digit s) % 2 ^ suc n)) i ≡ carry_into a b s i
  carry-bit i l =
      bit-xor (bit_xor a b) sum i ∙ ap₂ ◌⊻◌ (bit-xor a b i) (sum-bit i l) ∙ undo (bit_at a i) (bit_at b i) (carry_into a b s i)

-- ---- which bits of a word have none set at or below them: what x - 1 has and x has not

module _ (n x : ℕ) (h : x < 2 ^ suc n) where
  abbrev run : ℕ
  run = bit_and ((x + (2 ^ suc n - 1)) % 2 ^ suc n) (2 ^ suc n - 1 - x)

  ones_lt : 2 ^ suc n - 1 < 2 ^ suc n
  ones_lt = omega (arith, pow_pos (suc n))

  ones_bit : (i : ℕ) → i < suc n → bit_at (2 ^ suc n - 1) i ≡ true
  ones_bit i l =
      ap (λ (m : ℕ). bit_at m i) (omega arith) ∙ bit_not (suc n) 0 i (pow_pos (suc n)) l ∙ ap not (no-bit i)

  abbrev c : ℕ → Bool
  c = carry_into x (2 ^ suc n - 1) false

  run-bit : (i : ℕ) → i < suc n → bit_at run i ≡ ((bit_at x i ⊻ true ⊻ c i) && not (bit_at x i))
  run-bit i l =
      bit-and _ _ i
      ∙ ap₂ ◌&&◌
      (ap (λ (m : ℕ). bit_at (m % 2 ^ suc n) i) (sym (add-zero (x + (2 ^ suc n - 1)))) ∙ sum-bit n x (2 ^ suc n - 1) false h ones_lt i l
      ∙ ap (λ (o : Bool). bit_at x i ⊻ o ⊻ c i) (ones_bit i l))
      (bit_not (suc n) x i h l)

  lowest : (b : Bool) → ((b ⊻ true ⊻ false) && not b) ≡ not b
  lowest true = refl
  lowest false = refl

  higher : (a b k : Bool) → ((b ⊻ true ⊻ majority a true k) && not b) ≡ (((a ⊻ true ⊻ k) && not a) && not b)
  higher = of_three _ _ refl

  pub run-first : bit_at (bit_and ((x + (2 ^ suc n - 1)) % 2 ^ suc n) (2 ^ suc n - 1 - x)) 0 ≡ not (bit_at x 0)
  unfolding carry_into
  run-first = run-bit 0 (omega arith) ∙ lowest (bit_at x 0)

  pub run-next : (i : ℕ) → i < n
      → bit_at (bit_and ((x + (2 ^ suc n - 1)) % 2 ^ suc n) (2 ^ suc n - 1 - x)) (suc i)
      ≡ (bit_at (bit_and ((x + (2 ^ suc n - 1)) % 2 ^ suc n) (2 ^ suc n - 1 - x)) i && not (bit_at x (suc i)))
  unfolding carry_into
  run-next i l =
      run-bit (suc i) (omega arith)
      ∙ ap (λ (o : Bool). (bit_at x (suc i) ⊻ true ⊻ majority (bit_at x i) o (c i)) && not (bit_at x (suc i))) (ones_bit i (omega arith))
      ∙ higher (bit_at x i) (bit_at x (suc i)) (c i) ∙ ap (λ (b : Bool). b && not (bit_at x (suc i))) (sym (run-bit i (omega arith)))
