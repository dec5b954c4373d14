-- GF(2^128) of NIST SP 800-38D, section 6.3. A polynomial over GF(2) is a natural number: its bit i is the coefficient of
-- t^i. (SP 800-38D draws a block the other way round, so its R = 11100001 0..0 is 0x87 here.) An element is a polynomial
-- of degree below 128, held in two words. All but `of_bit` and `odd` is shut: whoever uses the field goes by the laws, in the modules below.
pub mod Coefficient
pub mod Sum
pub mod Multiply
pub mod Product
pub mod Carryless
pub mod Remainder
pub mod Element
pub mod Words
pub mod Laws
pub mod Bits
pub mod Tests
pub mod Loops
pub mod Packed
pub mod Sheet
use Rattle.std.specs.Prelude.{Bool, ◌&&◌, ◌||◌, cond, ◌≡◌, ℕ, suc, ◌+◌, ◌*◌, ◌/◌, ◌%◌, ◌^◌, ◌<◌, eqb}
use Rattle.std.specs.Int.Bits.{bit_xor}
use Rattle.field.specs.declared.Gf128.{Gf128}

infixl 60 ◌⊕◌
infixl 70 ◌⊗◌
-- the coefficient of t^i
pub bit : ℕ → ℕ → ℕ
bit a i = a / 2 ^ i % 2

-- the sum: coefficients add modulo 2, which is exclusive or
pub ◌⊕◌ : ℕ → ℕ → ℕ
a ⊕ b = bit_xor a b

-- a coefficient, 0 or 1, times a polynomial
pub scale : ℕ → ℕ → ℕ
scale ℕ.zero a = 0
scale (suc c) a = a

-- SP 800-38D, Algorithm 1: the sum of a · t^i over the bits i that are set in b, where `up` multiplies by t. The first
-- argument of `turns` bounds the bits to go; b itself is bound enough.
module _ (up : ℕ → ℕ) where
  turns : ℕ → ℕ → ℕ → ℕ
  turns ℕ.zero a b = 0
  turns (suc n) a ℕ.zero = 0
  turns (suc n) a (suc b) = scale (suc b % 2) a ⊕ turns n (up a) (suc b / 2)

  pub multiply : ℕ → ℕ → ℕ
  multiply a b = turns b a b

-- t · a: the coefficients move up by one, and t^128 becomes t^7 + t^2 + t + 1
pub times-t : ℕ → ℕ
times-t a = a * 2 % 2 ^ 128 ⊕ scale (bit a 127) 0x87

-- the product in the field
pub ◌⊗◌ : ℕ → ℕ → ℕ
a ⊗ b = multiply times-t a b

-- the product of polynomials, which nothing reduces ("carry-less"), and the polynomial t^128 + t^7 + t^2 + t + 1
pub clmul : ℕ → ℕ → ℕ
clmul a b = multiply (λ x. x * 2) a b

pub modulus : ℕ
modulus = 2 ^ 128 + 0x87

-- ---- elements

-- the element of a low and a high word; its words; its polynomial
pub of_words : ℕ → ℕ → Gf128
of_words lo hi = record { lo = lo; hi = hi }

pub low : Gf128 → ℕ
low x = x.lo

pub high : Gf128 → ℕ
high x = x.hi

pub value : Gf128 → ℕ
value x = high x * 2 ^ 64 + low x

-- both words are words, as in every element that a program holds
pub record Proper (x : Gf128) : Type 0 where
  pub lo-fits : x.lo < 2 ^ 64
  pub hi-fits : x.hi < 2 ^ 64

-- the element of a polynomial: what passes bit 127 is dropped
pub element : ℕ → Gf128
element a = of_words (a % 2 ^ 64) (a / 2 ^ 64 % 2 ^ 64)

pub zero : Gf128
zero = of_words 0 0

pub one : Gf128
one = of_words 1 0

pub same : Gf128 → Gf128 → Bool
same x y = eqb (low x) (low y) && eqb (high x) (high y)

pub is_bit : Gf128 → Bool
is_bit x = same x zero || same x one

-- the sum, word by word
pub added : Gf128 → Gf128 → Gf128
added x y = of_words (low x ⊕ low y) (high x ⊕ high y)

pub product : Gf128 → Gf128 → Gf128
product x y = element (value x ⊗ value y)

-- the bits moved up by k; those that pass bit 127 are dropped
pub shifted : Gf128 → ℕ → Gf128
shifted x k = element (value x * 2 ^ k)

-- t^k as the bit k alone: zero from k = 128 on
pub power : ℕ → Gf128
power k = shifted one k

-- the element of a bit
abbrev pub of_bit : Bool → Gf128
of_bit b = cond b one zero

-- r is a remainder of the carry-less product of a and b
pub record IsProduct (a b r : ℕ) : Type 0 where
  pub small : r < 2 ^ 128
  pub quotient : ℕ
  pub divides : clmul a b ≡ r ⊕ clmul modulus quotient

-- whether the coefficient of t^0 is 1
abbrev pub odd : Gf128 → Bool
odd x = eqb (bit (value x) 0) 1
