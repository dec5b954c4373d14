-- The side of a term by its kind, and the word of a mark by its relation and row.
-- Assumes nothing.
use Rattle.std.specs.Prelude.{◌≡◌, refl, Bool, true, false, cond, ℕ, ◌/◌, ◌%◌, ◌^◌, ◌≤◌, ◌<◌, eqb}
use Rattle.std.proofs.Common.{◌∙◌, arith, eqb-true, ltb-true}
use Rattle.std.proofs.lemmas.Bool.{eqb-false}
use Rattle.base.specs.Laws.Tests.{passed}
use Rattle.circuit.specs.declared.Relation.TheVariants.{Bin, Fld}
use Rattle.circuit.specs.declared.Side.{Side}
use Rattle.circuit.specs.declared.Side.TheVariants.{A, B, C}
use Rattle.circuit.specs.Words.{bits, kind_of, side_kind, side_of, is_mark, flag_of, clean_of, relation_of, mark_word}

-- the kind of a side's terms tells the side
pub side-is : (side : Side) (w : ℕ) → kind_of w ≡ side_kind side → side_of w ≡ side
side-is A w e = rw e
side-is B w e = rw e
side-is C w e = rw e

-- and is no mark's
pub kind-small : (side : Side) → side_kind side ≤ 2
kind-small A = omega arith
kind-small B = omega arith
kind-small C = omega arith

-- a mark of 32 bits whose must-be-zero bits are zero is the word of its relation and row. (A larger number may stand for the same mark.)
pub mark-word : (w : ℕ) → is_mark w ≡ true → clean_of w ≡ true → w < 2 ^ 32 → w ≡ mark_word (relation_of w) (w % 2 ^ 9)
unfolding clean_of
mark-word w m clean fit = by-test (eqb (flag_of w) 0) refl
  where
    zeros : bits 9 20 w ≡ 0
    zeros = eqb-true (bits 9 20 w) 0 (passed _ _ _ m ∙ clean)

    by-test : (b : Bool) → eqb (flag_of w) 0 ≡ b → w ≡ mark_word (cond b Bin Fld) (w % 2 ^ 9)
    by-test true e =
        let top : w / 2 ^ 29 ≡ 6 = omega (arith, ltb-true 2 (kind_of w) m, eqb-true (flag_of w) 0 e) in omega (arith, zeros)
    by-test false e =
        let set = eqb-false (flag_of w) 0 e in
        let top : w / 2 ^ 29 ≡ 7 = omega (arith, ltb-true 2 (kind_of w) m) in omega (arith, zeros)
