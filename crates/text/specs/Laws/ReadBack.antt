-- What digits stand for: a number's digits, read in their base, are the number again.
-- Assumes nothing.
use Rattle.std.specs.Prelude.{◌≡◌, refl, Bool, true, false, cond, not, ◌||◌, ℕ, zero, suc, ◌+◌, ◌-◌, ◌*◌, ◌/◌, ◌%◌, ◌^◌, ◌<◌, ltb, eqb, length}
use Rattle.std.proofs.Common.{ap, ◌∙◌, pow-suc, zero-add, arith, lt-ltb, ltb-true, eqb-true}
use mathlib.Core.List.{List, [], ◌∷◌, ◌++◌, foldl, foldl-append}
use Rattle.std.proofs.lemmas.Bool.{not-true}
use Rattle.base.specs.Lists.{All}
use Rattle.base.specs.Text.{ascii, blanks}
use Rattle.base.specs.Laws.Lists.{all_append, below_at}
use Rattle.base.specs.Laws.Tests.{passed}
use Rattle.text.specs.Digits.{digit, decimal_in, decimal, right, hex_digit, hex}

-- ---- reading

-- 0x30 to 0x39 stand for 0 to 9, and 0x61 to 0x66 for 10 to 15
abbrev pub digit_of : ℕ → ℕ
digit_of byte = cond (ltb byte 0x3a) (byte - 0x30) (byte - 0x61 + 10)

-- a byte read behind a number; a blank stands for nothing
unfoldable pub read_behind : ℕ → ℕ → ℕ → ℕ
read_behind base n byte = cond (eqb byte 0x20) n (base * n + digit_of byte)

-- the number that digits stand for in a base, highest first
unfoldable pub stands_for : ℕ → List ℕ → ℕ
stands_for base bytes = foldl (read_behind base) 0 bytes

-- ---- one digit

digit-hex : (d : ℕ) → d < 10 → digit d ≡ hex_digit d
digit-hex d h = passed (ltb d 10) (digit d) _ (lt-ltb d 10 h)

read-digit : (base n d : ℕ) → d < 16 → read_behind base n (hex_digit d) ≡ base * n + d
unfolding read_behind
read-digit base n d h = rw (no-blank, itself)
  where
    no-blank : eqb (hex_digit d) 0x20 ≡ false
    no-blank = not-true _ (below_at 16 (λ i. not (eqb (hex_digit i) 0x20)) refl d h)

    itself : digit_of (hex_digit d) ≡ d
    itself = eqb-true _ _ (below_at 16 (λ i. eqb (digit_of (hex_digit i)) i) refl d h)

read-last : (base d : ℕ) (front : List ℕ) → d < 16 → stands_for base (front ++ (hex_digit d ∷ [])) ≡ base * stands_for base front + d
unfolding stands_for
read-last base d front h = foldl-append (read_behind base) 0 front (hex_digit d ∷ []) ∙ read-digit base (stands_for base front) d h

-- ---- read back

pub read-hex : (k n : ℕ) → n < 16 ^ k → stands_for 16 (hex k n) ≡ n
unfolding hex stands_for
read-hex zero n h = omega arith
read-hex (suc k) n h =
    let p = pow-suc 16 k in
    read-last 16 (n % 16) (hex k (n / 16)) (omega arith) ∙ ap (λ m. 16 * m + n % 16) (read-hex k (n / 16) (omega arith)) ∙ omega arith

read-decimal-in : (k n : ℕ) → n < 10 ^ k → stands_for 10 (decimal_in k n) ≡ n
unfolding decimal_in stands_for
read-decimal-in zero n h = omega arith
read-decimal-in (suc k) n h = let p = pow-suc 10 k in by-test (ltb n 10) refl (read-decimal-in k (n / 10) (omega arith))
  where
    by-test : (b : Bool) → ltb n 10 ≡ b → stands_for 10 (decimal_in k (n / 10)) ≡ n / 10
        → stands_for 10 (cond b (digit n ∷ []) (decimal_in k (n / 10) ++ (digit (n % 10) ∷ []))) ≡ n
    by-test true e front =
        let l = ltb-true n 10 e in ap (λ b. stands_for 10 (b ∷ [])) (digit-hex n l) ∙ read-last 10 n [] (omega arith) ∙ zero-add n
    by-test false e front =
        ap (λ b. stands_for 10 (decimal_in k (n / 10) ++ (b ∷ []))) (digit-hex (n % 10) (omega arith))
        ∙ read-last 10 (n % 10) (decimal_in k (n / 10)) (omega arith) ∙ omega arith

pub read-decimal : (n : ℕ) → n < 10 ^ 20 → stands_for 10 (decimal n) ≡ n
read-decimal n h = read-decimal-in 20 n h

-- the blanks before it stand for nothing
read-blanks : (base k : ℕ) (t : List ℕ) → stands_for base (blanks k ++ t) ≡ stands_for base t
unfolding stands_for read_behind
read-blanks base zero t = refl
read-blanks base (suc k) t = read-blanks base k t

pub read_right : (width n : ℕ) → n < 10 ^ 20 → stands_for 10 (right width n) ≡ n
unfolding right
read_right width n h = read-blanks 10 (width - length (decimal n)) (decimal n) ∙ read-decimal n h

-- ---- every byte is a digit

unfoldable pub one_of : List ℕ → ℕ → Bool
one_of [] byte = false
one_of (b ∷ bs) byte = eqb byte b || one_of bs byte

abbrev pub OnlyOf : List ℕ → List ℕ → Type 0
OnlyOf text bytes = All (λ byte. one_of text byte ≡ true) bytes

pub hex-only : (k n : ℕ) → OnlyOf (ascii "0123456789abcdef") (hex k n)
unfolding hex one_of
hex-only zero n = tt
hex-only (suc k) n =
    all_append _ (hex k (n / 16)) _ (hex-only k (n / 16))
    (below_at 16 (λ d. one_of (ascii "0123456789abcdef") (hex_digit d)) refl (n % 16) (omega arith), tt)

pub decimal-only : (k n : ℕ) → OnlyOf (ascii "0123456789") (decimal_in k n)
unfolding decimal_in one_of
decimal-only zero n = tt
decimal-only (suc k) n = by-test (ltb n 10) refl (decimal-only k (n / 10))
  where
    one : (d : ℕ) → d < 10 → OnlyOf (ascii "0123456789") (digit d ∷ [])
    one d h = (below_at 10 (λ i. one_of (ascii "0123456789") (digit i)) refl d h, tt)

    by-test : (b : Bool) → ltb n 10 ≡ b → OnlyOf (ascii "0123456789") (decimal_in k (n / 10))
        → OnlyOf (ascii "0123456789") (cond b (digit n ∷ []) (decimal_in k (n / 10) ++ (digit (n % 10) ∷ [])))
    by-test true e front = one n (ltb-true n 10 e)
    by-test false e front = all_append _ (decimal_in k (n / 10)) _ front (one (n % 10) (omega arith))

-- ---- given numbers, by computation

pub record Examples : Type 0 where
  pub nought : decimal 0 ≡ ascii "0"
  pub one-digit : decimal 7 ≡ ascii "7"
  pub two_digits : decimal 10 ≡ ascii "10"
  pub last-column : decimal 1048575 ≡ ascii "1048575"
  pub largest : decimal 18446744073709551615 ≡ ascii "18446744073709551615"
  pub in-seven : right 7 131071 ≡ ascii " 131071"
  pub in_three : right 3 5 ≡ ascii "  5"
  pub mark : hex 8 0xc0000000 ≡ ascii "c0000000"
  pub with-noughts : hex 4 0x00af ≡ ascii "00af"

pub examples : Examples
unfolding decimal_in right hex
examples =
    record {
      nought = refl;
      one-digit = refl;
      two_digits = refl;
      last-column = refl;
      largest = refl;
      in-seven = refl;
      in_three = refl;
      mark = refl;
      with-noughts = refl;
    }
