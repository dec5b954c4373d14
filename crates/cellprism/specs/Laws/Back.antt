-- The way back: every row of 8,192 words has its 65,536 bytes, and their answer is the row's. So what is known of rows of words, as the
-- bench sheet, is known of bytes.
-- Assumes nothing.
use Rattle.std.specs.Prelude.{◌≡◌, refl, Bool, true, ◌&&◌, List, [], ◌∷◌, ◌++◌, ℕ, zero, suc, ◌*◌, ◌/◌, ◌%◌, ◌^◌, ◌<◌, ltb, length, Err, Ok}
use Rattle.std.proofs.Common.{sym, ap, ap₂, ◌∙◌, arith, ltb-true, eq-eqb}
use Rattle.base.specs.Laws.Tests.{passed, both}
use Rattle.layout.specs.Batch.{allowed, ROW-WORDS}
use Rattle.layout.specs.Laws.Questions.{if_yes_lem, yes-batch}
use Rattle.circuit.specs.Circuit.{circuit_words}
use Rattle.strict.specs.declared.Known.TheVariants.{House}
use Rattle.verdict.specs.Check.{judged, known_checked}
use Rattle.cellprism.specs.Bytes.{number_of, words_of}
use Rattle.cellprism.specs.Answer.{row_checked}

-- the n lowest bytes of a number, and the bytes of words
unfoldable pub spelled : ℕ → ℕ → List ℕ
spelled zero w = []
spelled (suc n) w = w % 256 ∷ spelled n (w / 256)

unfoldable pub bytes_of : List ℕ → List ℕ
bytes_of [] = []
bytes_of (w ∷ ws) = spelled 8 w ++ bytes_of ws

-- words of 64 bits
unfoldable pub words_fit : List ℕ → Bool
words_fit [] = true
words_fit (w ∷ ws) = ltb w (2 ^ 64) && words_fit ws

spelled-number : (w : ℕ) → w < 2 ^ 64 → number_of (spelled 8 w) ≡ w
unfolding number_of spelled
spelled-number w h = omega arith

bytes-length : (ws : List ℕ) → length (bytes_of ws) ≡ 8 * length ws
unfolding bytes_of spelled
bytes-length [] = refl
bytes-length (w ∷ ws) = omega (arith, bytes-length ws)

words_back : (ws : List ℕ) → words_fit ws ≡ true → words_of (length ws) (bytes_of ws) ≡ ws
unfolding words_of bytes_of spelled words_fit
words_back [] h = refl
words_back (w ∷ ws) h =
    let b = both (ltb w (2 ^ 64)) (words_fit ws) h in
    ap₂ (λ v vs. v ∷ vs) (spelled-number w (ltb-true w (2 ^ 64) b.0)) (words_back ws b.1)

pub row-judged : (ws : List ℕ) → words_fit ws ≡ true → length ws ≡ ROW-WORDS → row_checked (bytes_of ws) ≡ Ok (judged 1 circuit_words ws)
unfolding row_checked known_checked allowed
row-judged ws h e =
    sym (passed _ _ _ (eq-eqb (length (bytes_of ws)) 65536 (bytes-length ws ∙ ap (λ n. 8 * n) e)))
    ∙ ap (known_checked House 1) (ap (λ n. words_of n (bytes_of ws)) (sym e) ∙ words_back ws h)
    ∙ sym (if_yes_lem Err _ (yes-batch 1 (length ws) refl e))
