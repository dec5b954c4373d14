-- Words of bytes, piece by piece: what eight bytes spell, and the words are those at each index.
-- Assumes nothing.
use mathlib.Core.Path.{◌≡◌, refl, sym, ap, ◌∙◌}
use mathlib.Core.List.{List, [], ◌∷◌}
use Prim.Native.Nat.{ℕ, zero, suc, ◌+◌, ◌*◌, ◌^◌}
use native.Mathlib.Omega.{arith}
use native.Mathlib.Nat.{zero-add, suc-add, mul_assoc, pow-succ'}
use lib.ListN.{take, drop, get_or}
use lib.Seq.{get_or-drop, drop-drop, take-nil}
use Rattle.base.specs.Lists.{from}
use Rattle.packed.specs.Bytes.{number_of, words_of}

-- where a list ends, `get_or` gives 0, and nothing is spelled
four_bytes : (bs : List ℕ) → number_of (take 4 bs) ≡ get_or bs 0 0 + 256 * (get_or bs 1 0 + 256 * (get_or bs 2 0 + 256 * get_or bs 3 0))
unfolding number_of
four_bytes [] = refl
four_bytes (a ∷ []) = omega arith
four_bytes (a ∷ b ∷ []) = omega arith
four_bytes (a ∷ b ∷ c ∷ []) = omega arith
four_bytes (a ∷ b ∷ c ∷ d ∷ bs) = omega arith

-- m + n bytes are m bytes, and n behind them
number-split : (m n : ℕ) (bs : List ℕ) → number_of (take (m + n) bs) ≡ number_of (take m bs) + 256 ^ m * number_of (take n (drop m bs))
unfolding number_of
number-split zero n bs = rw zero-add (omega arith)
number-split (suc m) n [] = rw (take-nil, take-nil) (omega arith)
number-split (suc m) n (b ∷ bs) =
    let rest = number-split m n bs in
    let higher = ap (λ p. p * number_of (take n (drop m bs))) (pow-succ' 256 m) ∙ mul_assoc 256 (256 ^ m) (number_of (take n (drop m bs))) in
    rw (suc-add m n) (omega arith)

pub eight_bytes : (bs : List ℕ)
    → number_of (take 8 bs)
    ≡ get_or bs 0 0 + 256 * (get_or bs 1 0 + 256 * (get_or bs 2 0 + 256 * (get_or bs 3 0
    + 256 * (get_or bs 4 0 + 256 * (get_or bs 5 0 + 256 * (get_or bs 6 0 + 256 * get_or bs 7 0))))))
eight_bytes bs =
    let high = simp get_or-drop at (four_bytes (drop 4 bs)) in omega (arith, number-split 4 4 bs, four_bytes bs, high)

-- word k of bytes
abbrev pub word_in : List ℕ → ℕ → ℕ
word_in bytes k = number_of (take 8 (drop (8 * k) bytes))

words-from : (n i : ℕ) (bytes : List ℕ) → from i n (word_in bytes) ≡ words_of n (drop (8 * i) bytes)
unfolding words_of from
words-from zero i bytes = refl
words-from (suc n) i bytes =
    let e : 8 * suc i ≡ 8 * i + 8 = omega arith in
    ap (λ ws. word_in bytes i ∷ ws)
    (words-from n (suc i) bytes ∙ ap (λ k. words_of n (drop k bytes)) e ∙ ap (words_of n) (sym (drop-drop 8 (8 * i) bytes)))

pub words-all : (n : ℕ) (bytes : List ℕ) → from 0 n (word_in bytes) ≡ words_of n bytes
words-all n bytes = words-from n 0 bytes
