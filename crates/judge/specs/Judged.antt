-- A cycle judged with no listing read: it meets the conditions of a known listing, and every derived column holds what the filler would
-- write.
-- Assumes nothing.
use Rattle.std.specs.Prelude.{◌≡◌, Bool, true, ◌&&◌, List, [], ◌∷◌, ℕ, ◌+◌, ◌%◌, ◌^◌, ◌<◌, eqb}
use Rattle.base.specs.Bits.{word}
use Rattle.base.specs.Blocks.{Block}
use Rattle.field.specs.declared.Gf128.{Gf128}
use Rattle.layout.specs.Columns.{ONE-COL, RS1, RS2, LOAD-VAL, T1, T2, ALU, FLAGS, FETCH}
use Rattle.strict.specs.declared.Known.{Known}
use Rattle.verdict.specs.Row.{cycle_of, bits_of}
use Rattle.filler.specs.declared.derive.GivenWords.{GivenWords}
use Rattle.filler.specs.Words.{derived_words, blocks}
use Rattle.filler.specs.Met.{words_of, flags_of, conditions_of, all_true}

-- the words of a cycle that its derived columns depend on
abbrev pub given_of : (ℕ → Bool) → GivenWords
given_of b =
    record {
      rs1 = word b RS1 64;
      rs2 = word b RS2 64;
      load = word b LOAD-VAL 64;
      t1 = word b T1 64;
      t2 = word b T2 64;
      alu = word b ALU 64;
      flags = word b FLAGS 64;
      fetch = word b FETCH 64;
    }

-- the columns of a block hold the low bits of its word, as they do once it is written
abbrev pub is_written : (ℕ → Bool) → Block → Bool
is_written b k = eqb (word b k.column k.width) (k.word % 2 ^ k.width)

-- every block is written
abbrev pub all_written : (ℕ → Bool) → List Block → Bool
all_written b [] = true
all_written b (k ∷ ks) = is_written b k && all_written b ks

-- of a cycle's bits, and of the public element one_col + 1
unfoldable pub judged_cycle : Known → (ℕ → Bool) → Gf128 → Bool
judged_cycle k b output =
    all_true (conditions_of k (words_of b) (flags_of b) output) && all_written b (blocks (given_of b) (derived_words (given_of b)))

-- every cycle of a batch is judged with yes
abbrev pub JudgedYes : Known → ℕ → List ℕ → Type 0
JudgedYes k cpi batch = (d : ℕ) → d < cpi → judged_cycle k (bits_of cpi batch d) (cycle_of cpi batch d (ONE-COL + 1)) ≡ true
