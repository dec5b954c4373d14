-- The bytes of a row packed give the words that the short way judges.
-- Assumes nothing.
use Rattle.std.specs.Prelude.{◌≡◌, Bool, true, false, ◌&&◌, ℕ, zero, suc, ◌+◌, ◌*◌, ◌^◌, ◌<◌, length, take, drop, replicate, Ok}
use Rattle.std.proofs.Math.Path.{refl, sym, ap, ap₂}
use Rattle.std.proofs.Common.{subst, ◌∙◌, arith, lit<, get_or-drop}
use Rattle.std.proofs.Math.Bool.{and-true}
use mathlib.Core.List.{List, [], ◌∷◌}
use Rattle.std.proofs.Math.Decide.{dec_lt}
use Rattle.std.proofs.Math.Nat.{pow-succ'}
use Rattle.std.proofs.Math.ListN.{get_or, get_or-eq_default}
use Rattle.field.specs.declared.Gf128.{Gf128}
use Rattle.field.specs.Gf.{one, same}
use Rattle.layout.specs.Batch.{allowed, ROW-WORDS, batch_asked}
use Rattle.layout.specs.Laws.Questions.{yes-batch}
use Rattle.strict.specs.declared.Known.TheVariants.{House}
use Rattle.verdict.specs.Row.{element_at}
use Rattle.packed.specs.Laws.Bytes.{word_of, row-length}
use Rattle.packed.specs.Packed.{packed_named, named_bits}
use Rattle.judge.specs.Words.{words_from, judged_words, all_judged}
use Rattle.judge.specs.Short.{short_bits, short_yes}
use Rattle.judge.specs.Laws.WordsSame.{judged-agree}
use Rattle.judge.specs.Laws.Short.{no_one, left-bits}
use Rattle.cellprism.specs.Bytes.{number_of, row_of}

-- ---- the words of a row

pub row-asked : (bytes : List ℕ) → batch_asked 1 (length (row_of bytes)) ≡ Ok tt
unfolding allowed
row-asked bytes = yes-batch 1 (length (row_of bytes)) refl (row-length bytes)

some-power : (n : ℕ) → 0 < 256 ^ n
some-power zero = lit< tt
some-power (suc n) = omega (arith, some-power n, pow-succ' 256 n)

number_lt : (n : ℕ) (bs : List ℕ) → ((i : ℕ) → get_or bs i 0 < 256) → number_of (take n bs) < 256 ^ n
unfolding number_of
number_lt zero bs h = lit< tt
number_lt (suc n) [] h = some-power (suc n)
number_lt (suc n) (b ∷ bs) h = let r = number_lt n bs (λ i. h (suc i)) in omega (arith, h 0, r, pow-succ' 256 n)

-- each fits in 64 bits
pub row_fits : (bytes : List ℕ) → ((i : ℕ) → get_or bytes i 0 < 256) → (i : ℕ) → get_or (row_of bytes) i 0 < 2 ^ 64
row_fits bytes h i = go (dec_lt i ROW-WORDS)
  where
    later : (j : ℕ) → get_or (drop (8 * i) bytes) j 0 < 256
    later j = subst (λ (x : ℕ). x < 256) (sym (get_or-drop (8 * i) bytes j 0)) (h (8 * i + j))

    go : Dec (i < ROW-WORDS) → get_or (row_of bytes) i 0 < 2 ^ 64
    go (yes l) = omega (arith, word_of ROW-WORDS i bytes l, number_lt 8 (drop (8 * i) bytes) later)
    go (no l) = omega (arith, get_or-eq_default (row_of bytes) 0 {n = i} (omega (arith, row-length bytes)))

-- ---- the short way

module _ (bytes : List ℕ) (o : same (element_at (row_of bytes) 2048) one ≡ true) where
  abbrev row : List ℕ
  row = row_of bytes

  left : short_bits House 1 row (replicate 32 0) ≡ short_yes House 1 row
  left = left-bits House 1 row (row-asked bytes) o

  -- `after` are the packed words
  pub short-judged : {after : List ℕ} {x : Gf128} {r : Bool} → after ≡ packed_named 1 row (replicate 32 0) → named_bits 1 row ≡ true
      → x ≡ element_at row 2049 → r ≡ judged_words House (λ k. get_or after k 0) x → r ≡ short_yes House 1 row
  unfolding short_bits all_judged
  short-judged {after} packs bits e j =
      let out = packed_named 1 row (replicate 32 0) in let output = element_at row 2049 in
      j ∙ judged-agree (λ k. get_or after k 0) (words_from out 0) (λ k _. ap₂ (λ (u : List ℕ) (i : ℕ). get_or u i 0) packs (omega arith)) House _
      ∙ ap (judged_words House (words_from out 0)) e ∙ sym (and-true (judged_words House (words_from out 0) output))
      ∙ ap (λ (t : Bool). t && (judged_words House (words_from out 0) output && true)) (sym bits) ∙ left

  pub not_short : named_bits 1 row ≡ false → false ≡ short_yes House 1 row
  unfolding short_bits
  not_short f =
      ap (λ (t : Bool). t && all_judged House (packed_named 1 row (replicate 32 0)) (element_at row 2049) 1 0) (sym f) ∙ left

pub no_short : (bytes : List ℕ) → same (element_at (row_of bytes) 2048) one ≡ false → false ≡ short_yes House 1 (row_of bytes)
no_short bytes e = no_one House 1 (row_of bytes) (row-asked bytes) e
