-- The words of a row that is handed over as bytes.
-- Assumes nothing.
use Rattle.std.specs.Prelude.{◌≡◌, ℕ, zero, suc, ◌+◌, ◌*◌, ◌<◌, length, take, drop}
use Rattle.std.proofs.Math.Path.{refl, sym, ap}
use Rattle.std.proofs.Common.{◌∙◌, arith, drop-drop}
use mathlib.Core.List.{List}
use Rattle.std.proofs.Math.ListN.{get_or}
use Rattle.layout.specs.Batch.{ROW-WORDS}
use Rattle.packed.specs.Bytes.{number_of, words_of, row_of}

pub word_of : (n i : ℕ) (bytes : List ℕ) → i < n → get_or (words_of n bytes) i 0 ≡ number_of (take 8 (drop (8 * i) bytes))
unfolding words_of
word_of zero i bytes l = absurd (omega arith)
word_of (suc n) zero bytes l = refl
word_of (suc n) (suc i) bytes l =
    let e : 8 * suc i ≡ 8 + 8 * i = omega arith in
    word_of n i (drop 8 bytes) (omega arith)
    ∙ ap (λ (b : List ℕ). number_of (take 8 b)) (drop-drop (8 * i) 8 bytes ∙ ap (λ (k : ℕ). drop k bytes) (sym e))

pub words-length : (n : ℕ) (bytes : List ℕ) → length (words_of n bytes) ≡ n
unfolding words_of
words-length zero bytes = refl
words-length (suc n) bytes = ap suc (words-length n (drop 8 bytes))

pub row-length : (bytes : List ℕ) → length (row_of bytes) ≡ ROW-WORDS
row-length bytes = words-length ROW-WORDS bytes
