-- The index that splits a listing in order into the words of its bin rows and those of its fld rows.
-- Assumes nothing.
use Rattle.std.specs.Prelude.{◌≡◌, refl, Bool, true, false, cond, ◌&&◌, List, [], ◌∷◌, ℕ, zero, suc, ◌%◌, ◌^◌, ◌≤◌, eqb, leb, length, take, drop, Ok}
use Rattle.std.proofs.Common.{sym, ap, ap₂, ◌∙◌, ⊎_elim, true≢false, arith, eqb-true, eq-eqb, leb-true}
use Rattle.std.proofs.lemmas.Bool.{false≢true, eqb-false}
use Rattle.base.specs.Laws.Tests.{both, passed, refused}
use Rattle.layout.specs.Questions.{no}
use Rattle.layout.specs.Laws.Questions.{answered}
use Rattle.circuit.specs.declared.Relation.TheVariants.{Bin, Fld}
use Rattle.circuit.specs.Words.{kind_of, side_of, is_mark, flag_of, relation_of}
use Rattle.circuit.specs.Rows.{Row, of_relation}
use Rattle.circuit.specs.Parse.{in_front, parse, rows_of}
use Rattle.circuit.specs.Found.{until}
use Rattle.circuit.specs.Valid.{order_of, valid_from, validated}
use Rattle.circuit.specs.Laws.Search.{until-le}
use Rattle.circuit.specs.Laws.Valid.{Passed, passed-word}
use Rattle.verdict.specs.RowParts.{sorted, term_of, row_of}
use Rattle.verdict.specs.Order.{is_fld_mark}
use Rattle.verdict.specs.Laws.RowParts.{parse-mark, parse-term, rows-mark, rows-term}
use Rattle.verdict.specs.Laws.Order.{valid-rows}
use Rattle.layout.specs.declared.questions.Question.TheVariants.{ListingLength}

-- every mark is that of a fld row; no mark of a bin row behind one of a fld row
unfoldable pub fld_only : List ℕ → Bool
fld_only [] = true
fld_only (w ∷ ws) = cond (is_mark w) (is_fld_mark w && fld_only ws) (fld_only ws)

unfoldable pub bin_first : List ℕ → Bool
bin_first [] = true
bin_first (w ∷ ws) = cond (is_fld_mark w) (fld_only ws) (bin_first ws)

-- ---- question 9 gives that order

fld-mark : (w : ℕ) → is_mark w ≡ true → 512 ≤ order_of w → is_fld_mark w ≡ true
fld-mark w m h = rw m (eq-eqb (flag_of w) 1 (omega arith))

mark-fld : (w : ℕ) → is_fld_mark w ≡ true → (is_mark w ≡ true) × (flag_of w ≡ 1)
mark-fld w e = by-test (is_mark w) refl e
  where
    by-test : (m : Bool) → is_mark w ≡ m → cond m (eqb (flag_of w) 1) false ≡ true → (is_mark w ≡ true) × (flag_of w ≡ 1)
    by-test true m f = (m, eqb-true (flag_of w) 1 f)
    by-test false m f = absurd (false≢true f)

valid-fld : (i low kind : ℕ) (ws : List ℕ) → 512 ≤ low → valid_from i low kind ws ≡ Ok tt → fld_only ws ≡ true
unfolding fld_only
valid-fld i low kind [] h e = refl
valid-fld i low kind (w ∷ ws) h e =
    let p = passed-word i low kind w ws e in
    let later : (512 ≤ p.l → fld_only ws ≡ true) = λ g. valid-fld (suc i) p.l p.k ws g p.rest in
    ⊎_elim
    (λ m. let l = m.order in let n = m.next in rw (fld-mark w m.mark (omega arith), later (omega arith)) (by-mark (is_mark w)))
    (λ t. let s = t.same in rw t.term (later (omega arith))) p.first
  where
    by-mark : (m : Bool) → cond m (true && true) true ≡ true
    by-mark true = refl
    by-mark false = refl

pub valid-first : (i low kind : ℕ) (ws : List ℕ) → valid_from i low kind ws ≡ Ok tt → bin_first ws ≡ true
unfolding bin_first
valid-first i low kind [] e = refl
valid-first i low kind (w ∷ ws) e =
    let p = passed-word i low kind w ws e in
    by-test p (is_fld_mark w) refl (λ g. valid-fld (suc i) p.l p.k ws g p.rest) (valid-first (suc i) p.l p.k ws p.rest)
  where
    by-test : (p : Passed i low kind w ws) (b : Bool) → is_fld_mark w ≡ b → (512 ≤ p.l → fld_only ws ≡ true) → bin_first ws ≡ true
        → cond b (fld_only ws) (bin_first ws) ≡ true
    by-test p true q fld bin =
        let f = mark-fld w q in
        fld (⊎_elim (λ m. omega (arith, f.1, m.next)) (λ t. absurd (true≢false (sym f.0 ∙ t.term))) p.first)
    by-test p false q fld bin = bin

-- ---- the rows of each part

fld-relation : (w : ℕ) → is_fld_mark w ≡ true → relation_of w ≡ Fld
fld-relation w e = let f = mark-fld w e in rw f.1

bin-relation : (w : ℕ) → is_mark w ≡ true → is_fld_mark w ≡ false → relation_of w ≡ Bin
bin-relation w m e = let f = eqb-false (flag_of w) 1 (rw m at e) in let z : flag_of w ≡ 0 = omega arith in rw z

-- a row of a relation, and one of the other
keeps-bin : (r : Row) (rs : List Row) → r.relation ≡ Bin
    → (of_relation Bin (r ∷ rs) ≡ r ∷ of_relation Bin rs) × (of_relation Fld (r ∷ rs) ≡ of_relation Fld rs)
unfolding of_relation
keeps-bin r rs e = rw e (refl, refl)

keeps-fld : (r : Row) (rs : List Row) → r.relation ≡ Fld
    → (of_relation Bin (r ∷ rs) ≡ of_relation Bin rs) × (of_relation Fld (r ∷ rs) ≡ r ∷ of_relation Fld rs)
unfolding of_relation
keeps-fld r rs e = rw e (refl, refl)

only-fld : (ws : List ℕ) → fld_only ws ≡ true → (of_relation Bin (rows_of ws) ≡ []) × (of_relation Fld (rows_of ws) ≡ rows_of ws)
unfolding fld_only of_relation parse
only-fld [] h = (refl, refl)
only-fld (w ∷ ws) h = by-test (is_mark w) refl (λ g. only-fld ws g)
  where
    by-test : (m : Bool) → is_mark w ≡ m → (fld_only ws ≡ true → (of_relation Bin (rows_of ws) ≡ []) × (of_relation Fld (rows_of ws) ≡ rows_of ws))
        → (of_relation Bin (rows_of (w ∷ ws)) ≡ []) × (of_relation Fld (rows_of (w ∷ ws)) ≡ rows_of (w ∷ ws))
    by-test true m later =
        let b = both (is_fld_mark w) (fld_only ws) (passed (is_mark w) (is_fld_mark w && fld_only ws) (fld_only ws) m ∙ h) in
        let r = later b.1 in
        let k = keeps-fld (row_of w ws) (rows_of ws) (fld-relation w b.0) in
        rw (rows-mark w ws m) (k.0 ∙ r.0, k.1 ∙ ap (λ rs. row_of w ws ∷ rs) r.1)
    by-test false m later = let r = later (rw m at h) in rw (rows-term w ws m) r

-- the words before index n are the bin rows, and those from there on the fld rows; the terms before the first mark stay the same
pub record Split (ws : List ℕ) (n : ℕ) : Type 0 where
  pub bins : of_relation Bin (rows_of ws) ≡ rows_of (take n ws)
  pub flds : of_relation Fld (rows_of ws) ≡ rows_of (drop n ws)
  pub first : (parse ws).before ≡ (parse (take n ws)).before

split-word : (w : ℕ) (ws : List ℕ) (n : ℕ) → Split ws n → is_fld_mark w ≡ false → (m : Bool) → is_mark w ≡ m → Split (w ∷ ws) (suc n)
split-word w ws n s f true m =
    let k = keeps-bin (row_of w ws) (rows_of ws) (bin-relation w m f) in
    record {
      bins =
          ap (of_relation Bin) (rows-mark w ws m) ∙ k.0
          ∙ ap₂ (λ x rs. record { relation = relation_of w; number = w % 2 ^ 9; sides = x } ∷ rs) s.first s.bins
          ∙ sym (rows-mark w (take n ws) m);
      flds = ap (of_relation Fld) (rows-mark w ws m) ∙ k.1 ∙ s.flds;
      first = ap (λ p. p.before) (parse-mark w ws m) ∙ sym (ap (λ p. p.before) (parse-mark w (take n ws) m));
    }
split-word w ws n s f false m =
    record {
      bins = ap (of_relation Bin) (rows-term w ws m) ∙ s.bins ∙ sym (rows-term w (take n ws) m);
      flds = ap (of_relation Fld) (rows-term w ws m) ∙ s.flds;
      first =
          ap (λ p. p.before) (parse-term w ws m) ∙ ap (in_front (side_of w) (term_of w)) s.first
          ∙ sym (ap (λ p. p.before) (parse-term w (take n ws) m));
    }

pub split : (ws : List ℕ) → bin_first ws ≡ true → Split ws (until is_fld_mark ws)
unfolding bin_first until of_relation parse
split [] h = record { bins = refl; flds = refl; first = refl }
split (w ∷ ws) h = by-test (is_fld_mark w) refl (λ g. split ws g)
  where
    by-test : (b : Bool) → is_fld_mark w ≡ b → (bin_first ws ≡ true → Split ws (until is_fld_mark ws))
        → Split (w ∷ ws) (cond b 0 (suc (until is_fld_mark ws)))
    by-test true f later =
        let m = (mark-fld w f).0 in let o = only-fld ws (passed (is_fld_mark w) (fld_only ws) (bin_first ws) f ∙ h) in
        let k = keeps-fld (row_of w ws) (rows_of ws) (fld-relation w f) in
        record {
          bins = ap (of_relation Bin) (rows-mark w ws m) ∙ k.0 ∙ o.0;
          flds = ap (of_relation Fld) (rows-mark w ws m) ∙ k.1 ∙ ap (λ rs. row_of w ws ∷ rs) o.1 ∙ sym (rows-mark w ws m);
          first = ap (λ p. p.before) (parse-mark w ws m);
        }
    by-test false f later =
        split-word w ws (until is_fld_mark ws) (later (refused (is_fld_mark w) (fld_only ws) (bin_first ws) f ∙ h)) f (is_mark w) refl

-- ---- both parts are rows

pub sorted-take : (n kind : ℕ) (ws : List ℕ) → sorted kind ws ≡ true → sorted kind (take n ws) ≡ true
unfolding sorted
sorted-take zero kind ws h = refl
sorted-take (suc n) kind [] h = refl
sorted-take (suc n) kind (w ∷ ws) h = by-test (is_mark w) refl (λ k g. sorted-take n k ws g)
  where
    by-test : (m : Bool) → is_mark w ≡ m → ((k : ℕ) → sorted k ws ≡ true → sorted k (take n ws) ≡ true)
        → cond (is_mark w) (sorted 0 (take n ws)) (leb kind (kind_of w) && sorted (kind_of w) (take n ws)) ≡ true
    by-test true m later = sym (passed _ _ _ m) ∙ later 0 (passed _ _ (leb kind (kind_of w) && sorted (kind_of w) ws) m ∙ h)
    by-test false m later =
        let b = both (leb kind (kind_of w)) (sorted (kind_of w) ws) (refused _ (sorted 0 ws) _ m ∙ h) in
        sym (refused _ _ _ m) ∙ rw b.0 (later (kind_of w) b.1)

pub sorted-drop : (kind : ℕ) (ws : List ℕ) → sorted kind ws ≡ true → sorted 3 (drop (until is_fld_mark ws) ws) ≡ true
unfolding sorted until
sorted-drop kind [] h = refl
sorted-drop kind (w ∷ ws) h = by-test (is_fld_mark w) refl (is_mark w) refl (λ k g. sorted-drop k ws g)
  where
    by-test : (b : Bool) → is_fld_mark w ≡ b → (m : Bool) → is_mark w ≡ m
        → ((k : ℕ) → sorted k ws ≡ true → sorted 3 (drop (until is_fld_mark ws) ws) ≡ true)
        → sorted 3 (drop (cond b 0 (suc (until is_fld_mark ws))) (w ∷ ws)) ≡ true
    by-test true f true m later = sym (passed _ _ _ m) ∙ (passed _ _ (leb kind (kind_of w) && sorted (kind_of w) ws) m ∙ h)
    by-test true f false m later = absurd (true≢false (sym (mark-fld w f).0 ∙ m))
    by-test false f true m later = later 0 (passed _ _ (leb kind (kind_of w) && sorted (kind_of w) ws) m ∙ h)
    by-test false f false m later =
        later (kind_of w) (both (leb kind (kind_of w)) (sorted (kind_of w) ws) (refused _ (sorted 0 ws) _ m ∙ h)).1

-- ---- all of it, of a listing that questions 6 to 10 pass

pub record InOrder (ws : List ℕ) : Type 0 where
  pub few : length ws ≤ 16384
  pub inside : until is_fld_mark ws ≤ length ws
  pub halves : Split ws (until is_fld_mark ws)
  pub bin-rows : sorted 3 (take (until is_fld_mark ws) ws) ≡ true
  pub fld-rows : sorted 3 (drop (until is_fld_mark ws) ws) ≡ true

pub in_order : (ws : List ℕ) → validated ws ≡ Ok tt → InOrder ws
unfolding validated
in_order ws e =
    let a = answered (leb (length ws) 16384) (valid_from 0 0 0 ws) (no ListingLength 0) e in let s = valid-rows ws a.1 in
    record {
      few = leb-true (length ws) 16384 a.0;
      inside = until-le is_fld_mark ws;
      halves = split ws (valid-first 0 0 0 ws a.1);
      bin-rows = sorted-take (until is_fld_mark ws) 3 ws s;
      fld-rows = sorted-drop 3 ws s;
    }
