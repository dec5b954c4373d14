-- The lines of a row's words, one after the other, are those of its sides.
-- Assumes nothing.
use Rattle.std.specs.Prelude.{◌≡◌, Bool, cond, eqb, leb, length, get_or, take}
use Rattle.std.proofs.Math.Path.{refl, sym, ap, ap₂}
use Rattle.std.proofs.Common.{◌∙◌, arith, eqb-true, leb-true, ltb-false, take-suc, get_or-drop}
use Rattle.std.proofs.Math.Bool.{true, false}
use mathlib.Core.List.{List, [], ◌∷◌, ◌++◌, map, map-append, append-nil}
use Prim.Native.Nat.{ℕ, suc, ◌+◌, ◌-◌, ◌%◌, ◌^◌, ◌≤◌, ◌<◌}
use Rattle.std.proofs.Math.Nat.{sub_self}
use Rattle.std.proofs.lemmas.Bool.{eqb-false}
use Rattle.std.proofs.Math.ListN.{drop, length-drop}
use Rattle.base.specs.Lists.{joined}
use Rattle.base.specs.Laws.Tests.{both}
use Rattle.base.specs.Laws.Joined.{joined-append}
use Rattle.circuit.specs.declared.Side.{Side}
use Rattle.circuit.specs.declared.Side.TheVariants.{A, B, C}
use Rattle.circuit.specs.declared.Word.TheVariants.{Term as OneTerm}
use Rattle.circuit.specs.Words.{kind_of, side_kind, side_of, is_mark, coefficient_of, word_of}
use Rattle.circuit.specs.Rows.{Term, Sides}
use Rattle.circuit.specs.Parse.{empty, in_front, parse}
use Rattle.circuit.specs.Found.{until}
use Rattle.verdict.specs.RowParts.{term_of, sorted}
use Rattle.verdict.specs.Laws.RowParts.{parse-mark, parse-term}
use Rattle.page.specs.Lines.{term_line, term_lines}
use Rattle.page.specs.Pages.{line_count}
use Rattle.page.specs.Promises.{word_line, word_lines}

module _ (cpi : ℕ) (batch : List ℕ) (d : ℕ) (listing : List ℕ) (start : ℕ) where
  -- ---- a turn of the loop over the words

  pub no_lines : [] ≡ joined (word_lines cpi batch d (take (start - start) (drop start listing)))
  unfolding joined
  no_lines = ap (λ (n : ℕ). joined (word_lines cpi batch d (take n (drop start listing)))) (sym (sub_self start))

  pub one-line-more : (i : ℕ) → start ≤ i → i < length listing
      → joined (word_lines cpi batch d (take (i - start) (drop start listing))) ++ word_line cpi batch d (word_of (get_or listing i 0))
      ≡ joined (word_lines cpi batch d (take (i + 1 - start) (drop start listing)))
  unfolding joined
  one-line-more i l h =
      ap (λ t. joined (lines (take j ws)) ++ t) (ap (λ w. word_line cpi batch d (word_of w)) (sym at-index) ∙ sym (append-nil _))
      ∙ sym (joined-append (lines (take j ws)) (lines (get_or ws j 0 ∷ [])))
      ∙ ap joined (sym (map-append line (take j ws) (get_or ws j 0 ∷ [])))
      ∙ ap (λ l. joined (lines l)) (sym (take-suc ws j 0 (omega (arith, length-drop start listing))))
      ∙ ap (λ (n : ℕ). joined (lines (take n ws))) further
    where
      ws : List ℕ
      ws = drop start listing

      j : ℕ
      j = i - start

      line : ℕ → List ℕ
      line w = word_line cpi batch d (word_of w)

      lines : List ℕ → List (List ℕ)
      lines = map line

      further : suc j ≡ i + 1 - start
      further = omega arith

      at-index : get_or ws j 0 ≡ get_or listing i 0
      at-index = get_or-drop start listing j 0 ∙ ap (λ (n : ℕ). get_or listing n 0) (omega arith)

-- ---- a row's words and its sides

-- as many words as terms, up to the next mark
pub term-count : (ws : List ℕ) → line_count (parse ws).before ≡ 1 + until is_mark ws
unfolding parse until
term-count [] = refl
term-count (w ∷ ws) = by-test (is_mark w) refl (term-count ws)
  where
    more : (side : Side) (t : Term) (s : Sides) → line_count (in_front side t s) ≡ 1 + line_count s
    more A t s = omega arith
    more B t s = omega arith
    more C t s = omega arith

    by-test : (m : Bool) → is_mark w ≡ m → line_count (parse ws).before ≡ 1 + until is_mark ws
        → line_count (parse (w ∷ ws)).before ≡ 1 + cond m 0 (suc (until is_mark ws))
    by-test true m h = ap (λ p. line_count p.before) (parse-mark w ws m)
    by-test false m h =
        ap (λ p. line_count p.before) (parse-term w ws m) ∙ more (side_of w) (term_of w) (parse ws).before ∙ omega (arith, h)

-- the kind of a word that is no mark is its side's
kind-is : (w : ℕ) → is_mark w ≡ false → kind_of w ≡ side_kind (side_of w)
kind-is w m = by_tests (eqb (kind_of w) 0) refl (eqb (kind_of w) 1) refl
  where
    by_tests : (a : Bool) → eqb (kind_of w) 0 ≡ a → (b : Bool) → eqb (kind_of w) 1 ≡ b → kind_of w ≡ side_kind (cond a A (cond b B C))
    by_tests true e b f = eqb-true (kind_of w) 0 e
    by_tests false e true f = eqb-true (kind_of w) 1 f
    by_tests false e false f = let l = ltb-false 2 (kind_of w) m in let n = eqb-false (kind_of w) 0 e in let o = eqb-false
        (kind_of w) 1 f in omega arith

abbrev terms_on : Side → Sides → List Term
terms_on A s = s.a
terms_on B s = s.b
terms_on C s = s.c

-- where the kinds start behind a side's, it has no terms
none_before : (side : Side) (kind : ℕ) (ws : List ℕ) → side_kind side < kind → sorted kind ws ≡ true → terms_on side (parse ws).before ≡ []
unfolding parse sorted
none_before A kind [] l h = refl
none_before B kind [] l h = refl
none_before C kind [] l h = refl
none_before side kind (w ∷ ws) l h = by-test (is_mark w) refl (λ k g. none_before side k ws g)
  where
    empty-on : (s : Side) → terms_on s empty ≡ []
    empty-on A = refl
    empty-on B = refl
    empty-on C = refl

    -- a term on a later side
    later : (s t : Side) (x : Term) (r : Sides) → side_kind s < side_kind t → terms_on s (in_front t x r) ≡ terms_on s r
    later A A x r g = absurd (omega arith)
    later A B x r g = refl
    later A C x r g = refl
    later B A x r g = absurd (omega arith)
    later B B x r g = absurd (omega arith)
    later B C x r g = refl
    later C A x r g = absurd (omega arith)
    later C B x r g = absurd (omega arith)
    later C C x r g = absurd (omega arith)

    by-test : (m : Bool) → is_mark w ≡ m
        → ((k : ℕ) → side_kind side < k → sorted k ws ≡ true → terms_on side (parse ws).before ≡ []) → terms_on side (parse (w
        ∷ ws)).before ≡ []
    by-test true m rest = ap (λ p. terms_on side p.before) (parse-mark w ws m) ∙ empty-on side
    by-test false m rest =
        let t = both (leb kind (kind_of w)) (sorted (kind_of w) ws) (rw m at h) in let k = leb-true kind (kind_of w) t.0 in
        ap (λ p. terms_on side p.before) (parse-term w ws m)
        ∙ later side (side_of w) (term_of w) (parse ws).before (omega (arith, kind-is w m))
        ∙ rest (kind_of w) (omega arith) t.1

-- a word that is no mark is a term
pub term-word : (w : ℕ) → is_mark w ≡ false → word_of w ≡ OneTerm (side_of w) (coefficient_of w) (w % 2 ^ 12)
unfolding word_of
term-word w m = rw m

module _ (cpi : ℕ) (batch : List ℕ) (d : ℕ) where
  -- one more term in front, where the sides before its own have none
  in-front : (side : Side) (t : Term) (s : Sides) → ((e : Side) → side_kind e < side_kind side → terms_on e s ≡ [])
      → term_lines cpi batch d (in_front side t s) ≡ term_line cpi batch d side t.coefficient t.column ∷ term_lines cpi batch d s
  in-front A t s none = refl
  in-front B t s none = rw (none A (omega arith))
  in-front C t s none = rw (none A (omega arith), none B (omega arith))

  pub term-lines : (kind : ℕ) (ws : List ℕ) → sorted kind ws ≡ true
      → term_lines cpi batch d (parse ws).before ≡ word_lines cpi batch d (take (until is_mark ws) ws)
  unfolding parse sorted until
  term-lines kind [] h = refl
  term-lines kind (w ∷ ws) h = by-test (is_mark w) refl (λ k. term-lines k ws)
    where
      by-test : (m : Bool) → is_mark w ≡ m
          → ((k : ℕ) → sorted k ws ≡ true → term_lines cpi batch d (parse ws).before ≡ word_lines cpi batch d (take (until is_mark ws) ws))
          → term_lines cpi batch d (parse (w ∷ ws)).before ≡ word_lines cpi batch d (take (cond m 0 (suc (until is_mark ws))) (w ∷ ws))
      by-test true m rest = ap (λ p. term_lines cpi batch d p.before) (parse-mark w ws m)
      by-test false m rest =
          let t = both (leb kind (kind_of w)) (sorted (kind_of w) ws) (rw m at h) in
          ap (λ p. term_lines cpi batch d p.before) (parse-term w ws m)
          ∙ in-front (side_of w) (term_of w) (parse ws).before (λ s l. none_before s (kind_of w) ws (omega (arith, kind-is w m)) t.1)
          ∙ ap₂ (λ x xs. x ∷ xs) (ap (word_line cpi batch d) (sym (term-word w m))) (rest (kind_of w) t.1)
