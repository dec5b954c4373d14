-- Filling a made row changes nothing where the record's halt and taken are what the filler would write: it reads the given words back, and
-- the derived ones stand there already.
-- Assumes nothing.
use Rattle.std.specs.Prelude.{◌≡◌, ℕ, ◌+◌, ◌*◌, ◌/◌, ◌%◌, ◌^◌, ◌<◌, ◌≤◌, Bool, false, not, ◌&&◌, List, slice_index, refl, Ok}
use Rattle.std.proofs.Common.{sym, ap₂, subst, ◌∙◌}
use Rattle.std.proofs.Math.Path.{ap}
use native.Mathlib.Omega.{arith}
use Rattle.base.specs.Lists.{All}
use Rattle.base.specs.Bits.{bit_at}
use Rattle.base.specs.Blocks.{block}
use Rattle.base.specs.Laws.Lists.{◌and◌}
use Rattle.base.specs.Laws.First.{first-none}
use Rattle.field.specs.Gf.{of_bit}
use Rattle.layout.specs.Columns.{HALT, TAKEN}
use Rattle.layout.specs.Batch.{allowed}
use Rattle.layout.specs.Questions.{after, Asked}
use Rattle.verdict.specs.Row.{element_at}
use Rattle.step.specs.Derived.{derived_in}
use Rattle.step.specs.Filling.{filled}
use Rattle.step.specs.Fill.{faulty, called, Passed}
use Rattle.step.proofs.Laws.FillAnswers.{passed-all}
use Rattle.filler.specs.declared.derive.GivenWords.{GivenWords}
use Rattle.filler.specs.Blocks.{HoldsWord}
use Rattle.filler.specs.Words.{word_at, derived_words, blocks}
use Rattle.filler.specs.Laws.Promise.{read_back, filled-words, filled_keeps}
use Rattle.witness.specs.declared.records.CycleRecord.{CycleRecord}
use Rattle.witness.specs.declared.records.RomRow.{RomRow}
use Rattle.witness.specs.Row.{made_row}
use Rattle.witness.specs.RowWords.{flags_word, bus_word, given_words, row_words}
use Rattle.witness.specs.Laws.RowWords.{Words, second_lt, alu_lt}
use Rattle.witness.proofs.Laws.Carried.{words-bits, halt-read, taken-read, flags-lt}
use Rattle.witness.specs.Laws.MadeRow.{row-length, bit-at, one-is, not-above}
use Rattle.filler.specs.Words as filler

module _ (r : CycleRecord) (m : RomRow) (public : List ℕ) (fit : Words r) where
  abbrev row : List ℕ
  row = made_row r m public

  abbrev given : GivenWords
  given = given_words r m

  -- ---- the given words are read back

  -- column i of word j
  at-word : (j i : ℕ) → j < 32 → i < 64 → element_at row (64 * j + i) ≡ of_bit (bit_at (slice_index (row_words r m) j) i)
  at-word j i l k =
      let word_of : (64 * j + i) / 64 ≡ j = omega arith in
      let bit-of : (64 * j + i) % 64 ≡ i = omega arith in
      bit-at r m public (64 * j + i) (omega arith)
      ∙ ap (λ (b : Bool). of_bit b)
      (sym (words-bits r m fit (64 * j + i)) ∙ ap₂ (λ (w b : ℕ). bit_at (slice_index (row_words r m) w) b) word_of bit-of)

  -- a run of columns that is word j, or begins it
  stands : (column j n : ℕ) → j < 32 → n ≤ 64 → column ≡ 64 * j → HoldsWord 1 0 row (block column n (slice_index (row_words r m) j))
  stands column j n l k e i h = ap (element_at row) (omega arith) ∙ at-word j i l (omega arith)

  word_back : (j : ℕ) → j < 32 → slice_index (row_words r m) j < 2 ^ 64 → word_at 1 row 0 (64 * j) ≡ slice_index (row_words r m) j
  word_back j l h = read_back 1 0 row (64 * j) _ (omega arith) h (stands (64 * j) j 64 l (omega arith) refl)

  bus-lt : bus_word m < 2 ^ 64
  unfolding bus_word
  bus-lt = omega arith

  given_back : filler.given_words 1 row 0 ≡ given
  given_back =
      cc (
        word_back 0 (omega arith) fit.rs1,
        word_back 1 (omega arith) fit.rs2,
        word_back 3 (omega arith) fit.load,
        word_back 5 (omega arith) fit.first,
        word_back 6 (omega arith) (second_lt r fit),
        word_back 8 (omega arith) (alu_lt r fit),
        word_back 12 (omega arith) (flags-lt r m),
        word_back 13 (omega arith) bus-lt,
      )

  -- ---- where halt and taken are the filler's, every derived word stands there already

  first : 0 < 1
  first = omega arith

  -- the filler's blocks in a batch of one cycle
  abbrev Stand : List ℕ → GivenWords → Type 0
  Stand batch g = All (HoldsWord 1 0 batch) (blocks g (derived_words g))

  module _ (halts : element_at (filled 1 row) HALT ≡ of_bit r.halted_latch)
      (takes : element_at (filled 1 row) TAKEN ≡ of_bit r.branch_taken) where
    parts : Stand (filled 1 row) given
    parts = subst (Stand (filled 1 row)) given_back (filled-words 1 row (row-length r m public) (one-is r m public) 0 first)

    -- a flag that the filler writes as the record has it
    flag-stands : (column bit w : ℕ) (b : Bool) → bit < 64 → column ≡ 768 + bit → bit_at (flags_word r) bit ≡ b
        → element_at (filled 1 row) column ≡ of_bit b → HoldsWord 1 0 (filled 1 row) (block column 1 w) → HoldsWord 1 0 row (block column 1 w)
    flag-stands column bit w b l e q h p i k =
        let here : (column + i) * 1 + 0 ≡ column = omega arith in
        ap (element_at row) (here ∙ e) ∙ at-word 12 bit (omega arith) l ∙ ap (λ (x : Bool). of_bit x) q ∙ sym h
        ∙ ap (element_at (filled 1 row)) (sym here) ∙ p i k

    stand-already : Stand row given
    stand-already =
        stands 448 7 64 (omega arith) (omega arith) refl
        and stands 576 9 64 (omega arith) (omega arith) refl
        and stands 640 10 64 (omega arith) (omega arith) refl
        and stands 704 11 64 (omega arith) (omega arith) refl
        and flag-stands 773 5 _ r.halted_latch (omega arith) refl (halt-read r m) halts parts.1.1.1.1.0
        and flag-stands 779 11 _ r.branch_taken (omega arith) refl (taken-read r m) takes parts.1.1.1.1.1.0
        and stands 896 14 58 (omega arith) (omega arith) refl
        and stands 1024 16 64 (omega arith) (omega arith) refl
        and stands 1088 17 39 (omega arith) (omega arith) refl
        and tt

    keeps : filled 1 row ≡ row
    keeps =
        filled_keeps 1 row (row-length r m public) (one-is r m public)
        (λ d l. let only : 0 ≡ d = omega arith in
        subst (λ (t : ℕ). All (HoldsWord 1 t row) (blocks (filler.given_words 1 row t) (derived_words (filler.given_words 1 row t)))) only
        (subst (Stand row) (sym given_back) stand-already))

    not-faulty : (c : ℕ) → c < 2048 → faulty 1 row c ≡ false
    not-faulty c l = ap (λ (b : Bool). b && not (derived_in 1 c)) (not-above r m public c l)

    passes : Passed 1 row
    unfolding allowed
    passes =
        record {
          size = refl;
          words = row-length r m public;
          bits = omega (arith, first-none (faulty 1 row) 2048 0 (λ k _ l. not-faulty k l));
          one-is = one-is r m public;
        }

    -- the filler answers yes, and leaves the row as it was made
    pub filling-keeps : called 1 row ≡ record { answer = Ok tt; batch = row }
    unfolding called
    filling-keeps = ap (λ (a : Asked). after a (filled 1 row) row) (passed-all 1 row passes)
        ∙ ap (λ (u : List ℕ). record { answer = Ok tt; batch = u }) keeps
