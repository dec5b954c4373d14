-- Bits in packed words: words are made from their bits, and are told by them.
-- Assumes nothing.
use Rattle.std.specs.Prelude.{◌≡◌, ℕ, ◌+◌, ◌*◌, ◌/◌, ◌%◌, ◌<◌, Bool, List, length, slice_index}
use Rattle.std.proofs.Common.{sym, ap, ap₂, ◌∙◌, zero-add, arith, ext_get_or}
use Rattle.base.specs.Bits.{word, bit_at}
use Rattle.base.specs.Laws.Numbers.{val-bits}
use Rattle.base.specs.Laws.Values.{val-lt, val_same}
use Rattle.base.specs.Laws.From.{length_from, get_or-from}
use Rattle.base.specs.Laws.Bits.{word-bit}
use Rattle.packed.specs.Storage.{bit_in, words_with, Fit}

-- bit j of word k
pub bit_is : (words : List ℕ) (k j : ℕ) → j < 64 → bit_in words (64 * k + j) ≡ bit_at (slice_index words k) j
unfolding bit_in
bit_is words k j l = ap₂ (λ (q r : ℕ). bit_at (slice_index words q) r) (omega arith) (omega arith)

-- ---- words made from bits

pub with-length : (f : ℕ → Bool) (n : ℕ) → length (words_with f n) ≡ n
unfolding words_with
with-length f n = length_from (λ (k : ℕ). word f (64 * k) 64) n 0

pub with-word : (f : ℕ → Bool) (n k : ℕ) → k < n → slice_index (words_with f n) k ≡ word f (64 * k) 64
unfolding words_with
with-word f n k l =
    get_or-from (λ (k : ℕ). word f (64 * k) 64) 0 n 0 k l ∙ ap (λ (q : ℕ). word f (64 * q) 64) (zero-add k)

-- a list of those words is they
pub are_words : (f : ℕ → Bool) (n : ℕ) (words : List ℕ) → length words ≡ n → ((k : ℕ) → k < n → slice_index words k ≡ word f (64 * k) 64)
    → words ≡ words_with f n
are_words f n words e h =
    ext_get_or 0 words (words_with f n) (e ∙ sym (with-length f n))
    (λ k l. let m : k < n = omega (arith, e) in h k m ∙ sym (with-word f n k m))

pub with-fit : (f : ℕ → Bool) (n : ℕ) → Fit (words_with f n)
with-fit f n k l = rw (with-word f n k (omega (arith, with-length f n))) (val-lt 64 (λ (i : ℕ). f (64 * k + i)))

-- their bits
pub with-bit : (f : ℕ → Bool) (n x : ℕ) → x < 64 * n → bit_in (words_with f n) x ≡ f x
unfolding bit_in
with-bit f n x l =
    ap (λ (w : ℕ). bit_at w (x % 64)) (with-word f n (x / 64) (omega arith)) ∙ word-bit f (64 * (x / 64)) 64 (x % 64) (omega arith)
    ∙ ap f (omega arith)

-- equal bits, equal words
pub same-words : (f g : ℕ → Bool) (n : ℕ) → ((x : ℕ) → x < 64 * n → f x ≡ g x) → words_with f n ≡ words_with g n
same-words f g n h =
    are_words g n (words_with f n) (with-length f n)
    (λ k l. with-word f n k l
    ∙ val_same (λ (i : ℕ). f (64 * k + i)) (λ (i : ℕ). g (64 * k + i)) 64 (λ i o. h (64 * k + i) (omega arith)))

-- words made from the bits of words are these words
pub of-bits : (words : List ℕ) (n : ℕ) → length words ≡ n → Fit words → words_with (bit_in words) n ≡ words
of-bits words n e h =
    sym
    (are_words (bit_in words) n words e
    (λ k l.
    sym (val-bits 64 (slice_index words k) (h k (omega (arith, e))))
    ∙ val_same (bit_at (slice_index words k)) (λ (i : ℕ). bit_in words (64 * k + i)) 64 (λ i o. sym (bit_is words k i o))))
