-- What the bit test finds stands below one_col, so its column is below 2,048, its cycle below 256, and the number fits.
use mathlib.Core.Path.{◌≡◌, refl, sym, subst}
use mathlib.Core.Bool.{Bool, true, false, cond}
use mathlib.Core.List.{List}
use Prim.Native.Nat.{ℕ, ◌*◌, ◌/◌, ◌%◌, ◌^◌, ◌<◌}
use native.Mathlib.Nat.{mod-lt, div-lt_iff_lt-mul}
use native.Mathlib.Omega.{arith}
use borrow.Author.Tests.{ltb-true}
use lib.Dec.{eqb, ltb}
use lib.ListN.{length}
use Rattle.layout.specs.Batch.{allowed, unmapped, batch_words, batch_asked, cycle_column}
use Rattle.layout.specs.Questions.{no, if_yes, Answer}
use Rattle.layout.specs.Laws.Sizes.{allowed-range}
use Rattle.base.specs.Tests.{first_from}
use Rattle.verdict.specs.Bits.{above_one, placed, bit_tested}
use Rattle.compare.specs.Replies.{bit_number}
use Rattle.compare.proofs.check.compare_bit_test.Goals as goal
use Rattle.layout.specs.declared.questions.Question.TheVariants.{BatchLength, BatchSize, ColumnRange}
use Rattle.std.specs.Prelude.{Err, None, Ok, Option}
use Rattle.verdict.specs.declared.bits.NotBit.{NotBit}

abbrev Fits : Answer (Option NotBit) → Type 0
Fits a = bit_number a < 2 ^ 64

fits : (cpi : ℕ) (batch : List ℕ) → Fits (bit_tested cpi batch)
unfolding bit_tested batch_asked unmapped
fits cpi batch = by_tests (allowed cpi) (eqb (length batch) (batch_words cpi)) (ltb at (2048 * cpi)) refl refl
  where
    at : ℕ
    at = first_from (above_one batch) 0 (2048 * cpi)

    by_tests :
        (a q t : Bool) → allowed cpi ≡ a → ltb at (2048 * cpi) ≡ t
        → Fits
        (if_yes Err (cond a (cond q (Ok tt) (Err (no BatchLength 0))) (Err (no BatchSize 0)))
        (cond t (placed at (cond a (cond t (cycle_column (at / cpi) (at % cpi)) (Err (no ColumnRange 0))) (Err (no BatchSize 0)))) (Ok None)))
    by_tests true true true ok e =
        let range = allowed-range cpi ok in let below = ltb-true at (2048 * cpi) e in
        omega (arith, range, below, (div-lt_iff_lt-mul range.0).1 below, mod-lt at range.0)
    by_tests true true false ok e = omega arith
    by_tests true false t ok e = omega arith
    by_tests false q t ok e = omega arith

pub bit_number-requires : goal.bit_number-requires
bit_number-requires c = subst Fits (sym c.bit_test.ensures) (fits _ _)
