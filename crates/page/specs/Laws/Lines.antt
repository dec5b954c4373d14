-- The pieces of a line, one behind the other, are the line; and a line has 60 characters.
-- Assumes nothing.
use Rattle.std.specs.Prelude.{◌≡◌, refl, List, ◌++◌, ℕ, ◌+◌, ◌<◌, ◌^◌, length}
use Rattle.std.proofs.Math.Path.{sym, ap}
use Rattle.std.proofs.Common.{◌∙◌, append-nil, append_assoc}
use native.Mathlib.Omega.{arith}
use Rattle.std.proofs.Math.ListN.{length-append}
use Rattle.base.specs.Text.{blanks, left}
use Rattle.text.specs.Digits.{right, hex}
use Rattle.text.specs.Laws.Decimal.{right-fits, right-length}
use Rattle.text.specs.Laws.Hexadecimal.{hex-length, hex-words}
use Rattle.text.specs.Laws.Left.{left_in, left-blanks, left_behind}
use Rattle.layout.specs.Segments.{padded, segment_name}
use Rattle.layout.specs.Laws.Segments.{length-name}
use Rattle.circuit.specs.declared.Coefficient.{Coefficient}
use Rattle.circuit.specs.declared.Coefficient.TheVariants.{Zero, Power}
use Rattle.circuit.specs.declared.Side.{Side}
use Rattle.circuit.specs.declared.Side.TheVariants.{A, B, C}
use Rattle.circuit.specs.declared.Relation.{Relation}
use Rattle.circuit.specs.declared.Relation.TheVariants.{Bin, Fld}
use Rattle.page.specs.Lines.{relation_text, side_text, exponent_text, head_line, line_of}
use Rattle.page.specs.Promises.{Short}
use Rattle.field.specs.Gf.{value, of_words}
use Rattle.field.specs.Gf.Element.{value-words}

-- the digits of an element are those of its words
pub element-digits : (low high : ℕ) → low < 2 ^ 64
    → left 16 (hex 16 high) ++ left 20 (hex 16 low) ≡ left 36 (hex 32 (value (of_words low high)))
element-digits low high h =
    ap (λ t. t ++ left 20 (hex 16 low)) (left-blanks 0 16 (hex 16 high) (hex-length 16 high) ∙ append-nil (hex 16 high))
    ∙ sym (ap (λ (x : ℕ). left 36 (hex 32 x)) (value-words low high) ∙ ap (left 36) (hex-words high low h)
    ∙ left_behind 36 20 (hex 16 high) (hex 16 low) (omega (arith, hex-length 16 high)))

-- relation, blank and number, and blanks as far as the line's end
pub relation-three : (rel : Relation) → length (relation_text rel) ≡ 3
relation-three Bin = refl
relation-three Fld = refl

pub head-pieces : (rel : Relation) (row : ℕ) → left 4 (relation_text rel) ++ left 56 (right 7 row) ≡ head_line rel row
unfolding head_line
head-pieces rel row =
    ap (λ t. t ++ left 56 (right 7 row)) (left-blanks 1 3 (relation_text rel) (relation-three rel))
    ∙ sym (left_behind 60 56 (relation_text rel ++ blanks 1) (right 7 row)
    (omega (arith, relation-three rel, length-append (relation_text rel) (blanks 1))))

-- how long the pieces of a term's line are
pub side-one : (side : Side) → length (side_text side) ≡ 1
side-one A = refl
side-one B = refl
side-one C = refl

pub side-two : (side : Side) → length (side_text side ++ blanks 1) ≡ 2
side-two side = length-append (side_text side) (blanks 1) ∙ omega (arith, side-one side)

pub seven : (n : ℕ) → n < 10 ^ 7 → length (right 7 n) ≡ 7
seven n h = right-length 7 n (right-fits 7 n (omega arith) h)

pub exponent-three : (k : Coefficient) → Short k → length (exponent_text k) ≡ 3
exponent-three (Power k) h = right-length 3 k (right-fits 3 k (omega arith) h)
exponent-three Zero h = refl

-- a field and the blank behind it
with-blank : (n : ℕ) (x y : List ℕ) → length y ≡ n → x ++ left (n + 1) y ≡ x ++ y ++ blanks 1
with-blank n x y e = ap (λ t. x ++ t) (left-blanks 1 n y e) ∙ sym (append_assoc x y (blanks 1))

-- a term's line as far as its side, its column, its segment and its exponent, with the blank behind each
abbrev pub with_side : Side → List ℕ
with_side side = side_text side ++ blanks 1

abbrev pub with_column : Side → ℕ → List ℕ
with_column side place = with_side side ++ right 7 place ++ blanks 1

abbrev pub with_name : Side → ℕ → ℕ → List ℕ
with_name side place c = with_column side place ++ padded (segment_name c) ++ blanks 1

abbrev pub with_exponent : Side → ℕ → ℕ → Coefficient → List ℕ
with_exponent side place c k = with_name side place c ++ exponent_text k ++ blanks 1

-- a term's line from its pieces
module _ (side : Side) (place c : ℕ) (k : Coefficient) (x : ℕ) (few : place < 10 ^ 7) (short : Short k) where
  abbrev pub fields : List ℕ
  fields = left 2 (side_text side) ++ left 8 (right 7 place) ++ left 10 (padded (segment_name c)) ++ left 4 (exponent_text k)

  front : fields ≡ with_exponent side place c k
  front =
      ap (λ t. t ++ left 8 (right 7 place) ++ left 10 (padded (segment_name c)) ++ left 4 (exponent_text k))
      (left-blanks 1 1 (side_text side) (side-one side))
      ∙ ap (λ t. t ++ left 10 (padded (segment_name c)) ++ left 4 (exponent_text k)) (with-blank 7 (with_side side) (right 7 place)
      (seven place few))
      ∙ ap (λ t. t ++ left 4 (exponent_text k)) (with-blank 9 (with_column side place) (padded (segment_name c)) (length-name c))
      ∙ with-blank 3 (with_name side place c) (exponent_text k) (exponent-three k short)

  pub column-ten : length (with_column side place) ≡ 10
  column-ten =
      length-append (with_side side ++ right 7 place) (blanks 1)
      ∙ omega (arith, length-append (with_side side) (right 7 place), side-two side, seven place few)

  pub name-twenty : length (with_name side place c) ≡ 20
  name-twenty =
      length-append (with_column side place ++ padded (segment_name c)) (blanks 1)
      ∙ omega (arith, length-append (with_column side place) (padded (segment_name c)), column-ten, length-name c)

  pub width : length (with_exponent side place c k) ≡ 24
  width =
      length-append (with_name side place c ++ exponent_text k) (blanks 1)
      ∙ omega (arith, length-append (with_name side place c) (exponent_text k), name-twenty, exponent-three k short)

  pub line-pieces : fields ++ left 36 (hex 32 x) ≡ line_of side place (segment_name c) k x
  unfolding line_of
  line-pieces = ap (λ t. t ++ left 36 (hex 32 x)) front ∙ sym (left_behind 60 36 (with_exponent side place c k) (hex 32 x) (omega
      (arith, width)))

  -- 60 characters
  pub line-sixty : length (line_of side place (segment_name c) k x) ≡ 60
  unfolding line_of
  line-sixty = left_in 60 (with_exponent side place c k ++ hex 32 x) (omega (
    arith,
    width,
    length-append (with_exponent side place c k)
        (hex 32 x),
    hex-length 32 x,
  ))

pub head-sixty : (rel : Relation) (row : ℕ) → row < 10 ^ 7 → length (head_line rel row) ≡ 60
unfolding head_line
head-sixty rel row h =
    left_in 60 (relation_text rel ++ blanks 1 ++ right 7 row)
    (omega (
      arith,
      relation-three rel,
      length-append (relation_text rel) (blanks 1),
      length-append (relation_text rel ++ blanks 1) (right 7 row),
      seven row h,
    ))
