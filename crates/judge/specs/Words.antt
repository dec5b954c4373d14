-- A cycle judged from packed words: word k has columns 64 k to 64 k + 63, and no word but the named ones is read. That it is
-- the judgement of the bits, Laws/WordsSame says.
-- Assumes nothing.
use Rattle.std.specs.Prelude.{Bool, true, ◌&&◌, List, [], ◌∷◌, ℕ, zero, suc, ◌+◌, ◌*◌, ◌/◌, ◌%◌, ◌^◌, eqb, get_or}
use Rattle.base.specs.Blocks.{Block}
use Rattle.field.specs.declared.Gf128.{Gf128}
use Rattle.strict.specs.declared.Known.{Known}
use Rattle.filler.specs.declared.derive.GivenWords.{GivenWords}
use Rattle.filler.specs.Words.{derived_words, blocks}
use Rattle.filler.specs.Met.{step_words, flags_in, conditions_of, all_true}

-- the words of a list from a place on
abbrev pub words_from : List ℕ → ℕ → ℕ → ℕ
words_from list at k = get_or list (at + k) 0

-- what the derived columns depend on
abbrev pub given_in : (ℕ → ℕ) → GivenWords
given_in ws = record { rs1 = ws 0; rs2 = ws 1; load = ws 3; t1 = ws 5; t2 = ws 6; alu = ws 8; flags = ws 12; fetch = ws 13 }

-- bits j to j + n - 1 of one word are the low n bits of another
abbrev pub same_bits : ℕ → ℕ → ℕ → ℕ → Bool
same_bits j n w v = eqb (w / 2 ^ j % 2 ^ n) (v % 2 ^ n)

-- a block, which lies in one word, is written there
abbrev pub is_written_in : (ℕ → ℕ) → Block → Bool
is_written_in ws k = same_bits (k.column % 64) k.width (ws (k.column / 64)) k.word

-- every block is
abbrev pub all_written_in : (ℕ → ℕ) → List Block → Bool
all_written_in ws [] = true
all_written_in ws (k ∷ ks) = is_written_in ws k && all_written_in ws ks

-- of a cycle's words, and of the public element one_col + 1; the conditions read RD and SHIFT_OUT too
unfoldable pub judged_words : Known → (ℕ → ℕ) → Gf128 → Bool
judged_words k ws output =
    all_true (conditions_of k (step_words (given_in ws) (ws 2) (ws 4)) (flags_in (ws 12)) output)
    && all_written_in ws (blocks (given_in ws) (derived_words (given_in ws)))

-- of cycles d, d + 1 .. d + n - 1, 32 words each
unfoldable pub all_judged : Known → List ℕ → Gf128 → ℕ → ℕ → Bool
all_judged k list output zero d = true
all_judged k list output (suc n) d = judged_words k (words_from list (32 * d)) output && all_judged k list output n (d + 1)
