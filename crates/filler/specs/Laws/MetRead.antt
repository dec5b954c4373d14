-- What the code reads of a cycle is what the conditions are about: the fields of two words of its columns.
-- Assumes nothing.
use Rattle.std.specs.Prelude.{◌≡◌, ℕ, ◌+◌, ◌%◌, ◌^◌, ◌<◌, Bool, List}
use Rattle.std.proofs.Common.{sym, ◌∙◌, div-one, arith}
use Rattle.std.proofs.Math.Path.{ap, ap₂}
use Rattle.base.specs.Bits.{word, bit_at}
use Rattle.base.specs.Laws.Bits.{word-part, word-bit}
use Rattle.layout.specs.Columns.{RD, SHIFT-OUT, FLAGS, FETCH}
use Rattle.verdict.specs.Row.{bits_of}
use Rattle.step.specs.Step.{opcode}
use Rattle.filler.specs.declared.derive.GivenWords.{GivenWords}
use Rattle.filler.specs.declared.conditions.StepWords.{StepWords}
use Rattle.filler.specs.declared.conditions.StepFlags.{StepFlags}
use Rattle.filler.specs.Words.{word_at, given_words}
use Rattle.filler.specs.Met.{words_of, flags_of, step_words, flags_in}

module _ (b : ℕ → Bool) where
  pub opcode-in : word b FETCH 64 % 2 ^ 7 ≡ opcode b
  opcode-in = ap (λ (q : ℕ). q % 2 ^ 7) (sym (div-one (word b FETCH 64))) ∙ word-part b FETCH 64 0 7 (omega arith)

  flag : (i : ℕ) → i < 64 → bit_at (word b FLAGS 64) i ≡ b (FLAGS + i)
  flag = word-bit b FLAGS 64

  pub flags-in : flags_in (word b FLAGS 64) ≡ flags_of b
  flags-in =
      cc (
        flag 0 (omega arith),
        flag 1 (omega arith),
        flag 2 (omega arith),
        flag 3 (omega arith),
        flag 4 (omega arith),
        flag 6 (omega arith),
        flag 8 (omega arith),
        flag 9 (omega arith),
        flag 10 (omega arith),
        word-part b FLAGS 64 16 3 (omega arith),
        word-part b FLAGS 64 24 8 (omega arith),
      )

-- ---- of a cycle of a batch, from the words that its derived columns depend on and two more

module _ (cpi d : ℕ) (batch : List ℕ) {g : GivenWords} (e : g ≡ given_words cpi batch d) where
  pub words_are : {rd shift : ℕ} {w : StepWords} → rd ≡ word_at cpi batch d RD → shift ≡ word_at cpi batch d SHIFT-OUT
      → w ≡ step_words g rd shift → w ≡ words_of (bits_of cpi batch d)
  unfolding word_at
  words_are {rd = rd} {shift = shift} er es ew =
      ew ∙ ap (λ (h : GivenWords). step_words h rd shift) e ∙ ap₂ (step_words (given_words cpi batch d)) er es
      ∙ rw (opcode-in (bits_of cpi batch d))

  pub flags-are : {f : StepFlags} → f ≡ flags_in g.flags → f ≡ flags_of (bits_of cpi batch d)
  unfolding word_at
  flags-are ef = ef ∙ ap (λ (h : GivenWords). flags_in h.flags) e ∙ flags-in (bits_of cpi batch d)
