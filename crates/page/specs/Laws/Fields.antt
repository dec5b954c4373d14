-- What stands where in a term's line.
-- Assumes nothing.
use Rattle.std.specs.Prelude.{◌≡◌, ℕ, ◌<◌, ◌^◌, ◌-◌, take, drop}
use Rattle.std.proofs.Math.Path.{refl, ap}
use Rattle.std.proofs.Common.{sym, ◌∙◌, arith, take_at}
use mathlib.Core.List.{List, [], ◌∷◌, ◌++◌, append-nil, append_assoc}
use Rattle.std.proofs.Math.ListN.{length, length-append}
use Rattle.std.proofs.Math.Seq.{drop_at}
use Rattle.base.specs.Lists.{joined}
use Rattle.base.specs.Text.{blanks}
use Rattle.text.specs.Digits.{right, hex}
use Rattle.text.specs.Laws.Hexadecimal.{hex-length}
use Rattle.layout.specs.Segments.{padded, segment_name}
use Rattle.layout.specs.Laws.Segments.{length-name}
use Rattle.circuit.specs.declared.Coefficient.{Coefficient}
use Rattle.circuit.specs.declared.Side.{Side}
use Rattle.page.specs.Lines.{side_text, exponent_text, line_of}
use Rattle.page.specs.Paper.{Blanks}
use Rattle.page.specs.Promises.{Short}
use Rattle.page.specs.Laws.Lines.{seven, side-one, side-two, exponent-three, with_side, with_column, with_name, with_exponent, column-ten, name-twenty, width}

-- texts put behind a text one by one
abbrev pub behind : List ℕ → List (List ℕ) → List ℕ
behind x [] = x
behind x (y ∷ ys) = behind (x ++ y) ys

behind-all : (x : List ℕ) (ys : List (List ℕ)) → behind x ys ≡ x ++ joined ys
unfolding joined
behind-all x [] = sym (append-nil x)
behind-all x (y ∷ ys) = behind-all (x ++ y) ys ∙ append_assoc x y (joined ys)

-- the text that stands behind n bytes, whatever follows it
pub part : (n k : ℕ) (x y : List ℕ) (ys : List (List ℕ)) → length x ≡ n → length y ≡ k → take k (drop n (behind (x ++ y) ys)) ≡ y
part n k x y ys e f =
    ap (λ l. take k (drop n l)) (behind-all (x ++ y) ys ∙ append_assoc x y (joined ys)) ∙ ap (take k) (drop_at x (y ++ joined ys) n e)
    ∙ take_at y (joined ys) k f

module _ (side : Side) (place c : ℕ) (k : Coefficient) (x : ℕ) (few : place < 10 ^ 7) (short : Short k) where
  abbrev line : List ℕ
  line = line_of side place (segment_name c) k x

  abbrev rest : List ℕ
  rest = blanks (60 - length (with_exponent side place c k ++ hex 32 x))

  pub line-side : take 1 line ≡ side_text side
  unfolding line_of
  line-side =
      part 0 1 [] (side_text side)
      (blanks 1 ∷ right 7 place ∷ blanks 1 ∷ padded (segment_name c) ∷ blanks 1 ∷ exponent_text k ∷ blanks 1 ∷ hex 32 x ∷ rest ∷ []) refl
      (side-one side)

  pub line-column : take 7 (drop 2 line) ≡ right 7 place
  unfolding line_of
  line-column =
      part 2 7 (with_side side) (right 7 place)
      (blanks 1 ∷ padded (segment_name c) ∷ blanks 1 ∷ exponent_text k ∷ blanks 1 ∷ hex 32 x ∷ rest ∷ []) (side-two side) (seven place few)

  pub line-name : take 9 (drop 10 line) ≡ padded (segment_name c)
  unfolding line_of
  line-name =
      part 10 9 (with_column side place) (padded (segment_name c)) (blanks 1 ∷ exponent_text k ∷ blanks 1 ∷ hex 32 x ∷ rest ∷ [])
      (column-ten side place c k x few short) (length-name c)

  pub line-exponent : take 3 (drop 20 line) ≡ exponent_text k
  unfolding line_of
  line-exponent =
      part 20 3 (with_name side place c) (exponent_text k) (blanks 1 ∷ hex 32 x ∷ rest ∷ []) (name-twenty side place c k x few short)
      (exponent-three k short)

  pub line-digits : take 32 (drop 24 line) ≡ hex 32 x
  unfolding line_of
  line-digits = part 24 32 (with_exponent side place c k) (hex 32 x) (rest ∷ []) (width side place c k x few short) (hex-length 32 x)

  -- a blank between each two, and blanks behind them
  pub line-blanks : Blanks line
  unfolding line_of
  line-blanks =
      record {
        second = part 1 1 (side_text side) (blanks 1)
            (right 7 place ∷ blanks 1 ∷ padded (segment_name c) ∷ blanks 1 ∷ exponent_text k ∷ blanks 1 ∷ hex 32 x ∷ rest ∷ [])
            (side-one side) refl;
        tenth = part 9 1 (with_side side ++ right 7 place) (blanks 1)
            (padded (segment_name c) ∷ blanks 1 ∷ exponent_text k ∷ blanks 1 ∷ hex 32 x ∷ rest ∷ [])
            (length-append (with_side side) (right 7 place) ∙ omega (arith, side-two side, seven place few)) refl;
        twentieth = part 19 1 (with_column side place ++ padded (segment_name c)) (blanks 1) (exponent_text k ∷ blanks 1 ∷ hex 32 x ∷ rest
            ∷ [])
            (length-append (with_column side place) (padded (segment_name c))
            ∙ omega (arith, column-ten side place c k x few short, length-name c)) refl;
        before-digits = part 23 1 (with_name side place c ++ exponent_text k) (blanks 1) (hex 32 x ∷ rest ∷ [])
            (length-append (with_name side place c) (exponent_text k)
            ∙ omega (arith, name-twenty side place c k x few short, exponent-three k short)) refl;
        behind-digits = drop_at (with_exponent side place c k ++ hex 32 x) rest 56 fifty-six ∙ ap blanks four;
      }
    where
      fifty-six : length (with_exponent side place c k ++ hex 32 x) ≡ 56
      fifty-six = length-append (with_exponent side place c k) (hex 32 x) ∙ omega (arith, width side place c k x few short, hex-length 32 x)

      four : 60 - length (with_exponent side place c k ++ hex 32 x) ≡ 4
      four = omega (arith, fifty-six)
