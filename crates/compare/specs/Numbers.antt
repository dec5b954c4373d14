-- Answers of the field, the layout and the listing's words as single numbers, for a caller in another language. A refusal is the same
-- number everywhere, `refused_at`.
-- Assumes nothing.
use Rattle.std.specs.Prelude.{cond, List, ℕ, zero, suc, ◌+◌, ◌-◌, ◌*◌, ◌^◌, eqb, ltb, get_or, Err, Ok}
use Rattle.field.specs.declared.Gf128.{Gf128}
use Rattle.field.specs.Gf.{low, high}
use Rattle.layout.specs.declared.questions.Refusal.{Refusal}
use Rattle.layout.specs.declared.InstanceGeometry.{InstanceGeometry}
use Rattle.layout.specs.Segments.{segments, segment_names, segment_starts, segment_lengths}
use Rattle.circuit.specs.declared.Relation.{Relation}
use Rattle.circuit.specs.declared.Relation.TheVariants.{Bin, Fld}
use Rattle.circuit.specs.declared.Coefficient.{Coefficient}
use Rattle.circuit.specs.declared.Coefficient.TheVariants.{Zero, Power}
use Rattle.circuit.specs.declared.Word.{Word}
use Rattle.circuit.specs.declared.Word.TheVariants.{Mark, Term as OneTerm}
use Rattle.circuit.specs.declared.batch.BatchWord.{BatchWord}
use Rattle.circuit.specs.declared.batch.BatchWord.TheVariants.{Row, Term}
use Rattle.circuit.specs.Words.{side_kind, relation_of, coefficient_of, clean_of, word_of as meaningOf}
use Rattle.layout.specs.Questions.{number_of as question_number, Answer}
use Rattle.layout.specs.declared.CycleColumn.{CycleColumn}
use Rattle.circuit.specs.declared.batch.CycleRow.{CycleRow}

-- the first number for part 0, else the second
abbrev pub one_of : ℕ → ℕ → ℕ → ℕ
one_of part first second = cond (eqb part 0) first second

-- the low word of an element for 0, else the high one
abbrev pub word_of : ℕ → Gf128 → ℕ
word_of part e = one_of part (low e) (high e)

-- a place as it is handed out: one from 2^32 - 1 on, which no batch and no listing has, stands as that, so that no wrong place looks
-- like a right one
abbrev pub kept_place : ℕ → ℕ
kept_place p = cond (ltb p (2 ^ 32 - 1)) p (2 ^ 32 - 1)

-- 2^63, 2^32 times the number, and the place
abbrev pub refused_at : Refusal → ℕ
refused_at r = 2 ^ 63 + question_number r.question * 2 ^ 32 + kept_place r.place

abbrev pub geometry_part : ℕ → InstanceGeometry → ℕ
geometry_part zero g = g.cpi
geometry_part (suc zero) g = g.w_cols
geometry_part (suc (suc zero)) g = g.m
geometry_part (suc (suc (suc zero))) g = g.one_col
geometry_part (suc (suc (suc (suc n)))) g = g.w128

abbrev pub geometry_number : ℕ → Answer InstanceGeometry → ℕ
geometry_number part (Ok g) = geometry_part part g
geometry_number part (Err r) = refused_at r

abbrev pub column_number : Answer ℕ → ℕ
column_number (Ok c) = c
column_number (Err r) = refused_at r

abbrev pub cycle_column_number : ℕ → Answer CycleColumn → ℕ
cycle_column_number part (Ok p) = one_of part p.column p.cycle
cycle_column_number part (Err r) = refused_at r

-- part 0 is the row of a cycle, any other the cycle
abbrev pub cycle_row_number : ℕ → Answer CycleRow → ℕ
cycle_row_number part (Ok p) = one_of part p.row p.cycle
cycle_row_number part (Err r) = refused_at r

-- 2^k is its exponent, zero is 255
abbrev pub coefficient_number : Coefficient → ℕ
coefficient_number Zero = 255
coefficient_number (Power k) = k

-- one number for bin, another for fld
abbrev pub by_relation : Relation → ℕ → ℕ → ℕ
by_relation Bin bin fld = bin
by_relation Fld bin fld = fld

abbrev pub mark_number : Relation → ℕ
mark_number rel = by_relation rel 3 4

-- a batch row or column, 2^32 times the coefficient, and 2^40 times the kind: 0, 1, 2 a term of A, B, C; 3 a bin and 4 a fld mark
abbrev pub batch_word_number : BatchWord → ℕ
batch_word_number (Row rel n) = n + mark_number rel * 2 ^ 40
batch_word_number (Term side k c) = c + coefficient_number k * 2 ^ 32 + side_kind side * 2 ^ 40

abbrev pub batch_number : Answer BatchWord → ℕ
batch_number (Ok w) = batch_word_number w
batch_number (Err r) = refused_at r

-- a word by itself: its row or column as it stands there, and the rest as above
abbrev pub word_number : Word → ℕ
word_number (Mark rel n) = batch_word_number (Row rel n)
word_number (OneTerm side k c) = batch_word_number (Term side k c)

-- of a word: part 0 is what it stands for, 1 its relation, 2 its coefficient, any other 1 where its must-be-zero bits are zero, else 0
abbrev pub word_part : ℕ → ℕ → ℕ
word_part zero w = word_number (meaningOf w)
word_part (suc zero) w = mark_number (relation_of w)
word_part (suc (suc zero)) w = coefficient_number (coefficient_of w)
word_part (suc (suc (suc n))) w = cond (clean_of w) 1 0

-- ---- entries of a list

-- entry i of a list, 2^63 past its end
abbrev pub entry_of : ℕ → List ℕ → ℕ
entry_of i xs = get_or xs i (2 ^ 63)

-- ---- the tables of columns and segments

-- byte k of the name of segment i: names are filled up with blanks to 9 bytes
abbrev pub name_byte : ℕ → ℕ → ℕ
name_byte i k = cond (ltb k 9) (entry_of (9 * i + k) (segment_names segments)) (2 ^ 63)

-- of segment i: part 0 is its start, 1 its length, 2 + k byte k of its name
abbrev pub segment_part : ℕ → ℕ → ℕ
segment_part i zero = entry_of i (segment_starts segments)
segment_part i (suc zero) = entry_of i (segment_lengths segments)
segment_part i (suc (suc k)) = name_byte i k
