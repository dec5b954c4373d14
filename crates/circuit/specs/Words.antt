-- The house format (document 01, "Listing"): what a 32-bit word of a listing stands for.
-- Assumes nothing.
use Rattle.std.specs.Prelude.{Bool, cond, ℕ, ◌+◌, ◌*◌, ◌/◌, ◌%◌, ◌^◌, eqb, ltb}
use Rattle.circuit.specs.declared.Relation.{Relation}
use Rattle.circuit.specs.declared.Relation.TheVariants.{Bin, Fld}
use Rattle.circuit.specs.declared.Coefficient.{Coefficient}
use Rattle.circuit.specs.declared.Coefficient.TheVariants.{Zero, Power}
use Rattle.circuit.specs.declared.Side.{Side}
use Rattle.circuit.specs.declared.Side.TheVariants.{A, B, C}
use Rattle.circuit.specs.declared.Word.{Word}
use Rattle.circuit.specs.declared.Word.TheVariants.{Mark, Term}

-- bits lo .. lo + n - 1 of a word
abbrev pub bits : ℕ → ℕ → ℕ → ℕ
bits lo n w = w / 2 ^ lo % 2 ^ n

-- the top two bits: 0, 1, 2 a term of A, B, C; 3 a mark
abbrev pub kind_of : ℕ → ℕ
kind_of w = w / 2 ^ 30

-- the kind of a side's terms
abbrev pub side_kind : Side → ℕ
side_kind A = 0
side_kind B = 1
side_kind C = 2

-- the side of a term
abbrev pub side_of : ℕ → Side
side_of w = cond (eqb (kind_of w) (side_kind A)) A (cond (eqb (kind_of w) (side_kind B)) B C)

-- the word stands behind the terms of a side: for side C it is a mark
abbrev pub past : Side → ℕ → Bool
past side w = ltb (side_kind side) (kind_of w)

abbrev pub is_mark : ℕ → Bool
is_mark w = past C w

-- bit 29: set in the mark of a fld row, and in a term of coefficient zero
abbrev pub flag_of : ℕ → ℕ
flag_of w = bits 29 1 w

-- question 7, the must-be-zero bits: of a mark 28..9; of a term 28..18, and of one of coefficient zero the exponent's 17..12 too
unfoldable pub clean_of : ℕ → Bool
clean_of w =
    cond (is_mark w) (eqb (bits 9 20 w) 0)
    (cond (eqb (flag_of w) 0) (eqb (bits 18 11 w) 0) (eqb (bits 12 17 w) 0))

abbrev pub relation_of : ℕ → Relation
relation_of w = cond (eqb (flag_of w) 0) Bin Fld

abbrev pub coefficient_of : ℕ → Coefficient
coefficient_of w = cond (eqb (flag_of w) 0) (Power (bits 12 6 w)) Zero

-- a mark's row is in bits 8..0, a term's column in bits 11..0
unfoldable pub word_of : ℕ → Word
word_of w =
    cond (is_mark w) (Mark (relation_of w) (w % 2 ^ 9)) (Term (side_of w) (coefficient_of w) (w % 2 ^ 12))

-- ---- and back: the word of a mark, and of a term

abbrev pub flag_word : Relation → ℕ
flag_word Bin = 0
flag_word Fld = 1

abbrev pub mark_word : Relation → ℕ → ℕ
mark_word rel n = 3 * 2 ^ 30 + flag_word rel * 2 ^ 29 + n

abbrev pub term_word : Side → Coefficient → ℕ → ℕ
term_word side (Power k) c = side_kind side * 2 ^ 30 + k * 2 ^ 12 + c
term_word side Zero c = side_kind side * 2 ^ 30 + 2 ^ 29 + c
