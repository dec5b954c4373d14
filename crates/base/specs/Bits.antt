-- Numbers by their bits, low bit first: a number made of bits, the bits of a number, words of a row of bits, and what the adder and the
-- comparisons are bit by bit.
-- Assumes nothing.
use Rattle.std.specs.Prelude.{Bool, cond, true, false, not, ◌&&◌, ◌≡◌, ℕ, zero, suc, ◌+◌, ◌*◌, ◌/◌, ◌%◌, ◌^◌, ◌-◌, ◌<◌, ltb, ℤ, pos, negsuc}

abbrev pub digit : Bool → ℕ
digit b = cond b 1 0

-- the number whose bits, lowest first, are f 0, f 1 .. f (n - 1)
unfoldable pub val : (ℕ → Bool) → ℕ → ℕ
val f zero = 0
val f (suc n) = digit (f 0) + 2 * val (λ i. f (suc i)) n

-- bit i of a number
abbrev pub bit_of : ℕ → ℕ → ℕ
bit_of n i = n / 2 ^ i % 2

-- ---- the bits of a number that the rows name

abbrev pub is_set : ℕ → Bool
is_set zero = false
is_set (suc n) = true

infixl 33 ◌⊻◌
-- exclusive or
abbrev pub ◌⊻◌ : Bool → Bool → Bool
true ⊻ b = not b
false ⊻ b = b

-- the word of n bits from a column on, as a number
abbrev pub word : (ℕ → Bool) → ℕ → ℕ → ℕ
word b offset n = val (λ i. b (offset + i)) n

-- what a word of n + 1 bits stands for as a signed number (two's complement): from 2^n on, the number less 2^(n+1)
unfoldable pub signed : ℕ → ℕ → ℤ
signed n x = cond (ltb x (2 ^ n)) (pos x) (negsuc (2 ^ suc n - suc x))

-- bit i of a word
abbrev pub bit_at : ℕ → ℕ → Bool
bit_at w i = is_set (bit_of w i)

-- the carry out of a full adder, as the adder rows write it
abbrev pub majority : Bool → Bool → Bool → Bool
majority a b c = ((a ⊻ c) && (b ⊻ c)) ⊻ c

-- c holds the carries into the bits of a + b + c 0, as far as bit n
abbrev pub Carries : ℕ → (ℕ → Bool) → (ℕ → Bool) → (ℕ → Bool) → Type 0
Carries n a b c = (i : ℕ) → i < n → c (suc i) ≡ majority (a i) (b i) (c i)

-- the signed order from the two signs and the difference's top bit
abbrev pub signed_less : Bool → Bool → Bool → Bool
signed_less a b d = ((a ⊻ b) && a) ⊻ ((a ⊻ b ⊻ true) && d)

-- two bits are the same
abbrev pub alike : Bool → Bool → Bool
alike a b = a ⊻ not b
