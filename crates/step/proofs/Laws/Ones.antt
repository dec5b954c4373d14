-- Rows with 1 in the columns of a list: what stands where, and what the rows of the circuit make of it.
-- Assumes nothing.
use Rattle.std.specs.Prelude.{◌≡◌, refl, Bool, not, ◌&&◌, ◌||◌, List, [], ◌∷◌, ◌++◌, ℕ, ◌+◌, ◌*◌, ◌^◌, ◌≤◌, ◌<◌, leb, ltb, length, set, replicate}
use Rattle.std.proofs.Math.Path.{sym, ap, fun_ext}
use Rattle.std.proofs.Common.{ap₂, subst, ◌∙◌, true≢false}
use Rattle.std.proofs.Math.Bool.{true, false}
use Rattle.std.proofs.lemmas.Bool.{false≢true}
use native.Mathlib.Omega.{arith}
use borrow.Author.Tests.{eqb-true, eqb-false, leb-true, ltb-true, not-true}
use Rattle.std.proofs.Math.Dec.{eqb}
use Rattle.std.proofs.Math.ListN.{get_or, length-set}
use Rattle.std.proofs.lemmas.List.{length-replicate}
use Rattle.std.proofs.Math.Seq.{get_or-set_same, get_or-set_other}
use Rattle.base.specs.Bits.{digit}
use Rattle.base.specs.Lists.{All}
use Rattle.base.specs.Laws.Values.{digit_lt}
use Rattle.base.specs.Laws.Tests.{both}
use Rattle.base.specs.Laws.Cases.{no_true}
use Rattle.field.specs.declared.Gf128.{Gf128}
use Rattle.field.specs.Gf.{of_words, low, is_bit, of_bit}
use Rattle.field.specs.Gf.Tests.{is_bit-bit}
use Rattle.field.specs.Gf.Bits.{low_bit, bit-words}
use Rattle.field.specs.Gf.Laws.{low-words}
use Rattle.layout.specs.Columns.{ONE-COL}
use Rattle.layout.specs.Batch.{among, column_at, ROW-WORDS}
use Rattle.layout.specs.Laws.Mapping.{column-is}
use Rattle.circuit.specs.Rows.{Sides}
use Rattle.verdict.specs.Row.{element_at, cycle_of, bits_of}
use Rattle.verdict.specs.Sheet.{one_row}
use Rattle.verdict.proofs.Laws.Sheet.{zeros}
use Rattle.step.specs.Derived.{derived}
use Rattle.step.specs.Solve.{lacks, Holds}
use Rattle.step.specs.Determining.{determining}
use Rattle.step.specs.Filling.{filler_bits, filled}
use Rattle.step.specs.Demand3.{Premises}
use Rattle.step.specs.Sheet.{has, with_output, with_ones}
use Rattle.step.proofs.Laws.Determining.{filled-only}
use Rattle.step.proofs.Laws.FieldRows.{up_to_one}
use Rattle.step.proofs.Laws.FillingElements.{each_word}
use Rattle.step.proofs.Laws.Batch.{one_bit, of-bits, filled-cycle}

-- ---- word by word

-- a row that holds 1 in the columns cs, n in the public element, and 0 elsewhere
pub record Holding (cs : List ℕ) (n : ℕ) (row : List ℕ) : Type 0 where
  pub words : length row ≡ ROW-WORDS
  pub low_word : (c : ℕ) → (c ≡ ONE-COL + 1 → ⊥) → get_or row (2 * c) 0 ≡ digit (has cs c)
  pub output : get_or row (2 * (ONE-COL + 1)) 0 ≡ n
  pub high_word : (c : ℕ) → get_or row (2 * c + 1) 0 ≡ 0

pub holding-none : Holding [] 0 (replicate ROW-WORDS 0)
unfolding has
holding-none =
    record {
      words = length-replicate {A = ℕ} ROW-WORDS 0;
      low_word = λ c _. zeros ROW-WORDS (2 * c);
      output = zeros ROW-WORDS 4098;
      high_word = λ c. zeros ROW-WORDS (2 * c + 1);
    }

module _ (cs : List ℕ) (n : ℕ) (row : List ℕ) (h : Holding cs n row) where
  pub holding-one : (x : ℕ) → x ≤ ONE-COL → Holding (x ∷ cs) n (set row (2 * x) 1)
  unfolding has
  holding-one x l =
      record {
        words = length-set row (2 * x) 1 ∙ h.words;
        low_word = λ c f. by-test c f (eqb c x) refl;
        output = get_or-set_other row (2 * x) 4098 1 0 (omega arith) ∙ h.output;
        high_word = λ c. get_or-set_other row (2 * x) (2 * c + 1) 1 0 (omega arith) ∙ h.high_word c;
      }
    where
      by-test : (c : ℕ) → (c ≡ ONE-COL + 1 → ⊥) → (b : Bool) → eqb c x ≡ b → get_or (set row (2 * x) 1) (2 * c) 0 ≡ digit (b || among c cs)
      by-test c f true e =
          ap (λ (k : ℕ). get_or (set row (2 * x) 1) (2 * k) 0) (eqb-true c x e) ∙ get_or-set_same row (2 * x) 1 0 (omega (arith, h.words))
      by-test c f false e =
          let apart = eqb-false c x e in get_or-set_other row (2 * x) (2 * c) 1 0 (λ q. apart (omega arith)) ∙ h.low_word c f

  pub holding-output : (m : ℕ) → Holding cs m (with_output m row)
  holding-output m =
      record {
        words = length-set row 4098 m ∙ h.words;
        low_word = λ c f. get_or-set_other row 4098 (2 * c) m 0 (λ q. f (omega arith)) ∙ h.low_word c f;
        output = get_or-set_same row 4098 m 0 (omega (arith, h.words));
        high_word = λ c. get_or-set_other row 4098 (2 * c + 1) m 0 (omega arith) ∙ h.high_word c;
      }

pub holding-ones : (xs cs : List ℕ) (n : ℕ) (row : List ℕ) → Holding cs n row → up_to_one xs ≡ true → Holding (xs ++ cs) n (with_ones xs row)
unfolding with_ones
holding-ones [] cs n row h t = h
holding-ones (x ∷ xs) cs n row h t =
    let p = both (leb x ONE-COL) (up_to_one xs) t in
    holding-one (xs ++ cs) n (with_ones xs row) (holding-ones xs cs n row h p.1) x (leb-true x ONE-COL p.0)

-- P5's row
pub holding-one_row : Holding (ONE-COL ∷ []) 0 one_row
holding-one_row = holding-one [] 0 (replicate ROW-WORDS 0) holding-none ONE-COL (omega arith)

-- ---- as elements and as bits

-- the one column is 1, the public element is not among the columns, and is a word other than 1 (so that its bit, which no row reads, is 0)
pub record Fits (cs : List ℕ) (n : ℕ) : Type 0 where
  pub one : has cs ONE-COL ≡ true
  pub public : has cs (ONE-COL + 1) ≡ false
  pub word : ltb n (2 ^ 64) ≡ true
  pub not-one : eqb n 1 ≡ false

-- as one computed test
pub fits : (cs : List ℕ) (n : ℕ) → (has cs ONE-COL && (not (has cs (ONE-COL + 1)) && (ltb n (2 ^ 64) && not (eqb n 1)))) ≡ true → Fits cs n
fits cs n e =
    let p = both (has cs ONE-COL) _ e in let q = both (not (has cs (ONE-COL + 1))) _ p.1 in let r = both (ltb n (2 ^ 64)) _ q.1 in
    record { one = p.0; public = not-true _ q.0; word = r.0; not-one = not-true _ r.1 }

module _ (cs : List ℕ) (n : ℕ) (row : List ℕ) (h : Holding cs n row) (t : Fits cs n) where
  pub element-is : (c : ℕ) → (c ≡ ONE-COL + 1 → ⊥) → element_at row c ≡ of_bit (has cs c)
  element-is c f = ap₂ of_words (h.low_word c f) (h.high_word c) ∙ bit-words (has cs c)

  pub public-is : element_at row (ONE-COL + 1) ≡ of_words n 0
  public-is = ap₂ of_words h.output (h.high_word (ONE-COL + 1))

  pub output-is : cycle_of 1 row 0 (ONE-COL + 1) ≡ of_words n 0
  unfolding cycle_of
  output-is = ap (element_at row) (column-is (ONE-COL + 1)) ∙ public-is

  pub bits_are : bits_of 1 row 0 ≡ has cs
  unfolding bits_of cycle_of
  bits_are = fun_ext (λ c. ap (λ (k : ℕ). eqb (low (element_at row k)) 1) (column-is c) ∙ by-test c (eqb c (ONE-COL + 1)) refl)
    where
      by-test : (c : ℕ) (k : Bool) → eqb c (ONE-COL + 1) ≡ k → eqb (low (element_at row c)) 1 ≡ has cs c
      by-test c true e =
          let q = eqb-true c (ONE-COL + 1) e in
          ap (λ (k : ℕ). eqb (low (element_at row k)) 1) q ∙ ap (λ (x : Gf128). eqb (low x) 1) public-is
          ∙ ap (λ (k : ℕ). eqb k 1) (low-words n 0) ∙ t.not-one ∙ sym (ap (has cs) q ∙ t.public)
      by-test c false e = ap (λ (x : Gf128). eqb (low x) 1) (element-is c (eqb-false c (ONE-COL + 1) e)) ∙ low_bit (has cs c)

  fit : (i : ℕ) → get_or row i 0 < 2 ^ 64
  fit = each_word (λ (i : ℕ). get_or row i 0 < 2 ^ 64) (λ c. (by-test c (eqb c (ONE-COL + 1)) refl, omega (arith, h.high_word c)))
    where
      by-test : (c : ℕ) (k : Bool) → eqb c (ONE-COL + 1) ≡ k → get_or row (2 * c) 0 < 2 ^ 64
      by-test c true e =
          subst (λ (k : ℕ). get_or row (2 * k) 0 < 2 ^ 64) (sym (eqb-true c (ONE-COL + 1) e))
          (omega (arith, h.output, ltb-true n (2 ^ 64) t.word))
      by-test c false e = omega (arith, h.low_word c (eqb-false c (ONE-COL + 1) e), digit_lt (has cs c))

  pub premises : Premises 1 row
  unfolding cycle_of
  premises =
      record {
        words = h.words;
        fit = fit;
        given = λ c d l k e.
            let z : d ≡ 0 = omega arith in
            ap is_bit (ap (λ (i : ℕ). element_at row (column_at 1 c i)) z ∙ ap (element_at row) (column-is c) ∙ element-is c (omega arith))
            ∙ is_bit-bit (has cs c);
        one-is = element-is ONE-COL (omega arith) ∙ ap (λ (b : Bool). of_bit b) t.one;
      }

-- ---- filled: the derived columns that hold 1 are those with which the determining rows hold, for no others do

abbrev pub all_derived : List ℕ → Bool
all_derived [] = true
all_derived (c ∷ cs) = derived c && all_derived cs

unfoldable pub all_hold : (ℕ → Bool) → List Sides → Bool
all_hold b [] = true
all_hold b (s ∷ ss) = not (lacks b s) && all_hold b ss

all_hold_lem : (b : ℕ → Bool) (ss : List Sides) → all_hold b ss ≡ true → All (Holds b) ss
unfolding all_hold
all_hold_lem b [] e = tt
all_hold_lem b (s ∷ ss) e = let p = both (not (lacks b s)) (all_hold b ss) e in (not-true _ p.0, all_hold_lem b ss p.1)

-- a given column is none of them
has-given : (ds cs : List ℕ) → all_derived ds ≡ true → (c : ℕ) → derived c ≡ false → has (ds ++ cs) c ≡ has cs c
unfolding has
has-given [] cs t c e = refl
has-given (d ∷ ds) cs t c e =
    let p = both (derived d) (all_derived ds) t in
    let apart = no_true (eqb c d) (λ q. true≢false (sym p.0 ∙ ap derived (sym (eqb-true c d q)) ∙ e)) in
    ap (λ (k : Bool). k || among c (ds ++ cs)) apart ∙ has-given ds cs p.1 c e

-- a listed column is one
pub listed-derived : (ds : List ℕ) → all_derived ds ≡ true → (c : ℕ) → has ds c ≡ true → derived c ≡ true
unfolding has
listed-derived [] t c e = absurd (false≢true e)
listed-derived (d ∷ ds) t c e =
    let p = both (derived d) (all_derived ds) t in go (eqb c d) (λ q. ap derived (eqb-true c d q) ∙ p.0) (listed-derived ds p.1 c) e
  where
    go : (k : Bool) → (k ≡ true → derived c ≡ true) → (among c ds ≡ true → derived c ≡ true) → (k || among c ds) ≡ true → derived c ≡ true
    go true here later e = here refl
    go false here later e = later e

module _ (cs : List ℕ) (n : ℕ) (row : List ℕ) (h : Holding cs n row) (t : Fits cs n)
    (ds : List ℕ) (these : all_derived ds ≡ true) (solved : all_hold (has (ds ++ cs)) determining ≡ true) where
  same_bits_lem : (c : ℕ) → c < 2048 → bits_of 1 (filled 1 row) 0 c ≡ has (ds ++ cs) c
  same_bits_lem c l =
      let q = premises cs n row h t in
      ap (λ (f : ℕ → Bool). f c) (filled-cycle 1 (omega arith) row q 0 (omega arith))
      ∙ sym
      (filled-only (bits_of 1 row 0) (one_bit 1 (omega arith) row q 0) (has (ds ++ cs))
      (λ k g. has-given ds cs these k g ∙ sym (ap (λ (f : ℕ → Bool). f k) (bits_are cs n row h t))) (all_hold_lem _ determining solved) c l)

  pub columns-are : (c : ℕ) → c < 2048 → element_at (filled 1 row) c ≡ of_bit (has (ds ++ cs) c)
  unfolding cycle_of filled
  columns-are c l =
      let o = of-bits 1 (omega arith) row (premises cs n row h t) (filler_bits 1 row) 0 (omega arith) in
      ap (element_at (filled 1 row)) (sym (column-is c)) ∙ o.bits c (omega arith) ∙ ap (λ (k : Bool). of_bit k) (same_bits_lem c l)
