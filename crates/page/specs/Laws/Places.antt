-- Where a term's column stands, and that the mapping refuses no column of a cycle of the batch.
-- Assumes nothing.
use Rattle.std.specs.Prelude.{◌≡◌, Bool, true, false, cond, List, ℕ, ◌<◌, ◌%◌, ◌^◌, eqb, Err, Ok}
use Rattle.std.proofs.Common.{sym, ap, ◌∙◌, arith}
use Rattle.field.specs.Gf.{value}
use Rattle.layout.specs.declared.questions.Refusal.{Refusal}
use Rattle.layout.specs.Batch.{allowed, column_at, mapped}
use Rattle.layout.specs.Segments.{segment_name}
use Rattle.layout.specs.Laws.Mapping.{mapped_at}
use Rattle.circuit.specs.declared.Coefficient.{Coefficient}
use Rattle.circuit.specs.declared.Coefficient.TheVariants.{Zero, Power}
use Rattle.circuit.specs.declared.Side.{Side}
use Rattle.circuit.specs.declared.Word.{Word}
use Rattle.circuit.specs.declared.Word.TheVariants.{Mark, Term}
use Rattle.circuit.specs.Words.{is_mark, word_of, relation_of, side_of, coefficient_of, flag_of, bits}
use Rattle.verdict.specs.Row.{element_at, cycle_of}
use Rattle.page.specs.Lines.{line_of, term_line}
use Rattle.page.specs.Promises.{Short}
use Rattle.layout.specs.Questions.{Answer}

module _ (cpi c d : ℕ) where
  -- what the mapping answers is the batch column
  pub placed-column : (place : ℕ) → allowed cpi ≡ true → c < 4096 → d < cpi → mapped 4096 cpi c d ≡ Ok place → place ≡ column_at cpi c d
  placed-column place size hc hd e = ap told (sym e ∙ mapped_at cpi size c d hc hd)
    where
      told : Answer ℕ → ℕ
      told (Ok b) = b
      told (Err r) = 0

  pub never-refused : (r : Refusal) → allowed cpi ≡ true → c < 4096 → d < cpi → mapped 4096 cpi c d ≡ Err r → ⊥
  never-refused r size hc hd e = let q = sym e ∙ mapped_at cpi size c d hc hd in let z : ◌≡◌ {A = ℕ} 0 1 = cc in omega arith

-- the line of a term, where its batch column is known
pub term-line : (cpi d c place : ℕ) (batch : List ℕ) (side : Side) (k : Coefficient) → place ≡ column_at cpi c d
    → line_of side place (segment_name c) k (value (element_at batch place)) ≡ term_line cpi batch d side k c
unfolding term_line cycle_of
term-line cpi d c place batch side k e = ap (λ (b : ℕ). line_of side b (segment_name c) k (value (element_at batch b))) e

-- ---- what a word of a listing stands for

-- the column and the coefficient of a term; a mark has none
abbrev pub column_in : Word → ℕ
column_in (Term side k c) = c
column_in (Mark rel n) = 0

abbrev pub ShortIn : Word → Type 0
ShortIn (Term side k c) = Short k
ShortIn (Mark rel n) = Unit

pub column_fits : (w : ℕ) → column_in (word_of w) < 4096
unfolding word_of
column_fits w = by-test (is_mark w)
  where
    by-test : (b : Bool) → column_in (cond b (Mark (relation_of w) (w % 2 ^ 9)) (Term (side_of w) (coefficient_of w) (w % 2 ^ 12))) < 4096
    by-test true = omega arith
    by-test false = omega arith

short-flag : (w : ℕ) (b : Bool) → Short (cond b (Power (bits 12 6 w)) Zero)
short-flag w true = omega arith
short-flag w false = tt

pub short-of : (w : ℕ) → Short (coefficient_of w)
short-of w = short-flag w (eqb (flag_of w) 0)

pub exponent-fits : (w : ℕ) → ShortIn (word_of w)
unfolding word_of
exponent-fits w = by-test (is_mark w)
  where
    by-test : (b : Bool) → ShortIn (cond b (Mark (relation_of w) (w % 2 ^ 9)) (Term (side_of w) (coefficient_of w) (w % 2 ^ 12)))
    by-test true = tt
    by-test false = short-of w
