-- Rows as terms on the sides A, B and C, and the words of the house format that stand for them. A row holds when A · B = C.
-- Assumes nothing.
use Rattle.std.specs.Prelude.{Bool, true, false, cond, List, [], ◌∷◌, ℕ, suc}
use Rattle.circuit.specs.declared.Relation.{Relation}
use Rattle.circuit.specs.declared.Relation.TheVariants.{Bin, Fld}
use Rattle.circuit.specs.declared.Coefficient.{Coefficient}
use Rattle.circuit.specs.declared.Side.{Side}
use Rattle.circuit.specs.declared.Side.TheVariants.{A, B, C}
use Rattle.circuit.specs.Words.{mark_word, term_word}

-- a coefficient and the column that it multiplies
pub record Term : Type 0 where
  pub coefficient : Coefficient
  pub column : ℕ

pub record Sides : Type 0 where
  pub a : List Term
  pub b : List Term
  pub c : List Term

pub record Row : Type 0 where
  pub relation : Relation
  pub number : ℕ
  pub sides : Sides

-- rows of one relation, numbered from n
unfoldable pub numbered : Relation → ℕ → List Sides → List Row
numbered rel n [] = []
numbered rel n (s ∷ ss) = record { relation = rel; number = n; sides = s } ∷ numbered rel (suc n) ss

-- are two relations the same?
abbrev pub same_relation : Relation → Relation → Bool
same_relation Bin Bin = true
same_relation Fld Fld = true
same_relation Bin Fld = false
same_relation Fld Bin = false

-- the rows of one relation
unfoldable pub of_relation : Relation → List Row → List Row
of_relation rel [] = []
of_relation rel (r ∷ rs) = cond (same_relation r.relation rel) (r ∷ of_relation rel rs) (of_relation rel rs)

-- the terms of one side, and then what follows them
unfoldable pub side_words : Side → List Term → List ℕ → List ℕ
side_words side [] rest = rest
side_words side (t ∷ ts) rest = term_word side t.coefficient t.column ∷ side_words side ts rest

-- the words of rows: each its mark, and then its terms of A, of B, of C
unfoldable pub encode : List Row → List ℕ
encode [] = []
encode (r ∷ rs) =
    mark_word r.relation r.number
    ∷ side_words A r.sides.a (side_words B r.sides.b (side_words C r.sides.c (encode rs)))
