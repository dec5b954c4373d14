-- The number of whatever `batched` gives fits in 64 bits: by the questions that come first, its parts are small. So does that of a word by
-- itself, whose parts are a few of its bits.
-- Assumes nothing.
use mathlib.Core.Path.{◌≡◌, refl}
use mathlib.Core.Bool.{Bool, true, false, cond}
use Prim.Native.Nat.{ℕ, ◌+◌, ◌-◌, ◌*◌, ◌%◌, ◌^◌, ◌≤◌, ◌<◌}
use native.Mathlib.Nat.{mul-le-mul}
use native.Mathlib.Omega.{arith}
use borrow.Author.Tests.{ltb-true}
use lib.Dec.{eqb, ltb}
use Rattle.layout.specs.Batch.{allowed, column_at, mapped}
use Rattle.layout.specs.Columns.{W-COLS, ONE-COL}
use Rattle.layout.specs.Questions.{no, Answer}
use Rattle.layout.specs.Laws.Sizes.{allowed-range}
use Rattle.circuit.specs.declared.Relation.{Relation}
use Rattle.circuit.specs.declared.Relation.TheVariants.{Bin, Fld}
use Rattle.circuit.specs.declared.Coefficient.{Coefficient}
use Rattle.circuit.specs.declared.Coefficient.TheVariants.{Zero, Power}
use Rattle.circuit.specs.declared.Side.{Side}
use Rattle.circuit.specs.declared.Word.{Word}
use Rattle.circuit.specs.declared.Word.TheVariants.{Mark, Term as OneTerm}
use Rattle.circuit.specs.declared.batch.BatchWord.{BatchWord}
use Rattle.circuit.specs.declared.batch.BatchWord.TheVariants.{Row}
use Rattle.circuit.specs.Words.{bits, side_of, is_mark, flag_of, clean_of, relation_of, coefficient_of, word_of}
use Rattle.circuit.specs.Found.{rows_a_cycle}
use Rattle.circuit.specs.Laws.Words.{kind-small}
use Rattle.circuit.specs.Batched.{batch_row, row_in, term_on, in_cycle, batched}
use Rattle.compare.specs.Numbers.{coefficient_number, mark_number, batch_number, word_number}
use Rattle.layout.specs.declared.questions.Question.TheVariants.{BatchSize, ColumnRange, CycleRange, MarkOrder, WordBits}
use Rattle.std.specs.Prelude.{Err, Ok}

abbrev pub Fits : Answer BatchWord → Type 0
Fits w = batch_number w < 2 ^ 64

coefficient-small : (w : ℕ) → coefficient_number (coefficient_of w) ≤ 255
coefficient-small w = by-test (eqb (flag_of w) 0)
  where
    by-test : (b : Bool) → coefficient_number (cond b (Power (bits 12 6 w)) Zero) ≤ 255
    by-test true = omega arith
    by-test false = omega arith

mark-small : (rel : Relation) → mark_number rel ≤ 4
mark-small Bin = omega arith
mark-small Fld = omega arith

abbrev pub WordFits : Word → Type 0
WordFits w = word_number w < 2 ^ 64

pub word_fits : (w : ℕ) → w < 2 ^ 32 → WordFits (word_of w)
unfolding word_of
word_fits w h = by-test (is_mark w)
  where
    by-test : (m : Bool) → WordFits (cond m (Mark (relation_of w) (w % 2 ^ 9)) (OneTerm (side_of w) (coefficient_of w) (w % 2 ^ 12)))
    by-test true = omega (arith, mark-small (relation_of w))
    by-test false = omega (arith, coefficient-small w, kind-small (side_of w))

module _ (cpi d : ℕ) (ok : allowed cpi ≡ true) where
  row_fits : (rel : Relation) (r : ℕ) → Fits (row_in cpi d rel r)
  unfolding row_in
  row_fits rel r = by_tests rel (ltb r (rows_a_cycle rel)) (ltb d cpi) refl refl
    where
      by_tests :
          (rel : Relation) (s t : Bool) → ltb r (rows_a_cycle rel) ≡ s → ltb d cpi ≡ t
          → Fits (cond s (cond t (Ok (Row rel (batch_row rel d r))) (Err (no CycleRange 0))) (Err (no MarkOrder 0)))
      by_tests Bin true true e f = omega (arith, ltb-true r 512 e, ltb-true d cpi f, allowed-range cpi ok)
      by_tests Fld true true e f = omega (arith, ltb-true r 32 e, ltb-true d cpi f, allowed-range cpi ok)
      by_tests rel true false e f = omega arith
      by_tests rel false t e f = omega arith

  column-small : (c : ℕ) → c < 4096 → d < cpi → column_at cpi c d ≤ 2 ^ 21
  unfolding column_at
  column-small c h l = by-test (ltb c W-COLS)
    where
      by-test : (b : Bool) → cond b (c * cpi + d) (W-COLS * cpi + (c - ONE-COL)) ≤ 2 ^ 21
      by-test true =
          let range = allowed-range cpi ok in
          omega (arith, mul-le-mul {n₁ = c} {m₁ = cpi} {n₂ = 4096} {m₂ = 256} (omega arith) range.1)
      by-test false = omega (arith, allowed-range cpi ok)

  term_fits : (side : Side) (c : ℕ) (k : Coefficient) → coefficient_number k ≤ 255 → Fits (term_on side k (mapped 4096 cpi c d))
  unfolding mapped
  term_fits side c k hk = rw ok (by_tests (ltb c 4096) (ltb d cpi) refl refl)
    where
      by_tests :
          (s t : Bool) → ltb c 4096 ≡ s → ltb d cpi ≡ t
          → Fits (term_on side k (cond s (cond t (Ok (column_at cpi c d)) (Err (no CycleRange 0))) (Err (no ColumnRange 0))))
      by_tests true true e f = omega (arith, kind-small side, column-small c (ltb-true _ _ e) (ltb-true _ _ f))
      by_tests true false e f = omega arith
      by_tests false t e f = omega arith

pub batched_fits : (cpi d w : ℕ) → w < 2 ^ 32 → Fits (batched cpi d w)
unfolding batched word_of
batched_fits cpi d w h = by_tests (allowed cpi) (clean_of w) (is_mark w) refl
  where
    by_tests :
        (a q m : Bool) → allowed cpi ≡ a
        → Fits
        (cond a
        (cond q (in_cycle cpi d (cond m (Mark (relation_of w) (w % 2 ^ 9)) (OneTerm (side_of w) (coefficient_of w) (w % 2 ^ 12))))
        (Err (no WordBits 0)))
        (Err (no BatchSize 0)))
    by_tests true true true ok = row_fits cpi d ok (relation_of w) (w % 2 ^ 9)
    by_tests true true false ok = term_fits cpi d ok (side_of w) (w % 2 ^ 12) (coefficient_of w) (coefficient-small w)
    by_tests true false m ok = omega arith
    by_tests false q m ok = omega arith
