-- The bench sheet's lines that the C boundary answers.
-- Assumes nothing.
use Rattle.std.specs.Prelude.{◌≡◌, refl, true, List, ◌++◌, ℕ, zero, suc, ◌+◌, ◌*◌, length, set, replicate, Err, Ok}
use Rattle.std.proofs.Common.{sym, ap, ◌∙◌, arith, ne_eqb, length-set}
use Rattle.std.proofs.lemmas.List.{length-replicate, replicate-append-replicate}
use Rattle.base.specs.Laws.Tests.{refused}
use Rattle.layout.specs.Questions.{no}
use Rattle.layout.specs.Batch.{ROW-WORDS}
use Rattle.circuit.specs.declared.Relation.TheVariants.{Bin}
use Rattle.verdict.specs.declared.Verdict.TheVariants.{Accepted, Failed}
use Rattle.strict.specs.declared.Known.TheVariants.{House}
use Rattle.verdict.specs.Counts.{counts}
use Rattle.verdict.specs.Sheet.{one_row}
use Rattle.verdict.proofs.Laws.Sheet.{zeros-accepted, one-judged}
use Rattle.cellprism.specs.Answer.{row_checked, answer_word}
use Rattle.cellprism.specs.Sheet.{Answers}
use Rattle.cellprism.specs.Laws.Back.{spelled, bytes_of, words_fit, row-judged}
use Rattle.layout.specs.declared.questions.Question.TheVariants.{BatchLength}

-- ---- question 2: anything but 65,536 bytes

pub other_length : (bytes : List ℕ) → (length bytes ≡ 65536 → ⊥) → row_checked bytes ≡ Err (no BatchLength 0)
unfolding row_checked
other_length bytes h = sym (refused _ _ _ (ne_eqb (length bytes) 65536 h))

-- ---- P4: zero bytes

zeros-fit : (n : ℕ) → words_fit (replicate n 0) ≡ true
unfolding words_fit
zeros-fit zero = refl
zeros-fit (suc n) = zeros-fit n

bytes-of-zeros : (n : ℕ) → bytes_of (replicate n 0) ≡ replicate (8 * n) 0
unfolding bytes_of spelled
bytes-of-zeros zero = refl
bytes-of-zeros (suc n) =
    let e : 8 + 8 * n ≡ 8 * suc n = omega arith in
    ap (λ bs. replicate 8 0 ++ bs) (bytes-of-zeros n) ∙ replicate-append-replicate 8 (8 * n) 0 ∙ ap (λ k. replicate k 0) e

pub zero-bytes : row_checked (replicate 65536 0) ≡ Ok (Accepted (counts 483 31))
zero-bytes =
    ap row_checked (sym (bytes-of-zeros ROW-WORDS))
    ∙ row-judged (replicate ROW-WORDS 0) (zeros-fit ROW-WORDS) (length-replicate {A = ℕ} ROW-WORDS 0)
    ∙ ap Ok (zeros-accepted House 1 ROW-WORDS)

-- ---- P5: only the one column 1, whose lowest byte is byte 16 * 2048

one-fits : (n i : ℕ) → words_fit (set (replicate n 0) i 1) ≡ true
unfolding words_fit
one-fits zero i = refl
one-fits (suc n) zero = zeros-fit n
one-fits (suc n) (suc i) = one-fits n i

bytes-of-one : (n i : ℕ) → bytes_of (set (replicate n 0) i 1) ≡ set (bytes_of (replicate n 0)) (8 * i) 1
unfolding bytes_of spelled
bytes-of-one zero i = refl
bytes-of-one (suc n) zero = refl
bytes-of-one (suc n) (suc i) =
    let e : suc (suc (suc (suc (suc (suc (suc (suc (8 * i)))))))) ≡ 8 * suc i = omega arith in
    ap (λ bs. replicate 8 0 ++ bs) (bytes-of-one n i) ∙ ap (λ k. set (replicate 8 0 ++ bytes_of (replicate n 0)) k 1) e

pub one-column : row_checked (set (replicate 65536 0) 32768 1) ≡ Ok (Failed Bin 263 (counts 264 0))
one-column =
    ap (λ bytes. row_checked (set bytes 32768 1)) (sym (bytes-of-zeros ROW-WORDS)) ∙ ap row_checked (sym (bytes-of-one ROW-WORDS 4096))
    ∙ row-judged one_row (one-fits ROW-WORDS 4096)
    (length-set {A = ℕ} (replicate ROW-WORDS 0) 4096 1 ∙ length-replicate {A = ℕ} ROW-WORDS 0)
    ∙ ap Ok one-judged

pub answers : Answers
answers =
    record {
      short = λ bytes h. ap answer_word (other_length bytes (λ e. omega arith));
      zeros = ap answer_word zero-bytes;
      one = ap answer_word one-column;
    }
