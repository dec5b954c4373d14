-- Which lengths of scratch question 5 takes, as document 02 says it and by numbers.
-- Assumes nothing.
use Rattle.std.specs.Prelude.{◌≡◌, refl, ◌↔◌, true, false, ◌&&◌, List, [], ◌∷◌, map, ℕ, ◌-◌, ◌*◌, ◌/◌, ◌%◌, ◌^◌, ◌≤◌, eqb, leb, length, replicate}
use Rattle.std.proofs.Common.{ap, ◌∙◌, div-add-mod', arith, eqb-true, eq-eqb, leb-true, le-leb}
use Rattle.std.proofs.Math.Nat.{mul-mod_left}
use Rattle.std.proofs.lemmas.List.{length-replicate}
use Rattle.base.specs.Laws.Tests.{both_so}
use Rattle.layout.specs.Batch.{SCRATCH-STEP, scratch_fits}

-- a multiple of 6 words, from 6 to 3,072
pub fits-exactly : (words : ℕ) → (scratch_fits words ≡ true) ↔ (((k : ℕ) × (words ≡ 6 * k)) × ((6 ≤ words) × (words ≤ 3072)))
unfolding scratch_fits
fits-exactly words =
    both_so (eqb (words % 6) 0) (leb 6 words && leb words 3072) (by-six, of-six)
    (both_so (leb 6 words) (leb words 3072) (leb-true 6 words, le-leb 6 words) (leb-true words 3072, le-leb words 3072))
  where
    by-six : eqb (words % 6) 0 ≡ true → (k : ℕ) × (words ≡ 6 * k)
    by-six e = (words / 6, omega (arith, eqb-true (words % 6) 0 e, div-add-mod' words 6))

    of-six : ((k : ℕ) × (words ≡ 6 * k)) → eqb (words % 6) 0 ≡ true
    of-six m =
        let six : words ≡ m.0 * 6 = omega (arith, m.1) in
        eq-eqb (words % 6) 0 (ap (λ (n : ℕ). n % 6) six ∙ mul-mod_left m.0 6)

-- by numbers: the first two and the last two that fit, and others that do not: beside these, a multiple of 2 alone, one of 3 alone, and
-- the largest multiple of 6 below 2^64
pub record GivenLengths : Type 0 where
  pub fit : map scratch_fits (6 ∷ 12 ∷ 3066 ∷ 3072 ∷ []) ≡ replicate 4 true
  pub others : map scratch_fits (0 ∷ 1 ∷ 5 ∷ 7 ∷ 8 ∷ 9 ∷ 3071 ∷ 3073 ∷ 3078 ∷ (2 ^ 64 - 4) ∷ []) ≡ replicate 10 false

pub given-lengths : GivenLengths
unfolding scratch_fits
given-lengths = record { fit = refl; others = refl }

-- scratch of a length that fits, every word of it x
pub alike-fits : (words x : ℕ) → scratch_fits words ≡ true → scratch_fits (length (replicate words x)) ≡ true
alike-fits words x h = ap scratch_fits (length-replicate words x) ∙ h

-- there is scratch that fits: of the fewest words, all zero
abbrev pub some_scratch : List ℕ
some_scratch = replicate SCRATCH-STEP 0

pub some_fits : scratch_fits (length some_scratch) ≡ true
unfolding scratch_fits
some_fits = refl
