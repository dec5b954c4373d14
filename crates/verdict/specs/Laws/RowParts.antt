-- What parsing gives of a row is what its runs of terms give.
-- Assumes nothing.
use Rattle.std.specs.Prelude.{◌≡◌, refl, Bool, true, false, List, [], ◌∷◌, ◌++◌, ℕ, suc, ◌+◌, ◌≤◌, ◌<◌, leb, length, get_or, drop}
use Rattle.std.proofs.Common.{sym, ap, ap₂, subst, ◌∙◌, append-nil, add-one, arith, leb-true, le-leb, ltb-true, ltb-false, drop_of_length-le}
use Rattle.std.proofs.lemmas.Bool.{false≢true}
use Rattle.std.proofs.Math.Seq.{drop-cons}
use Rattle.base.specs.Laws.Tests.{both}
use Rattle.circuit.specs.declared.Side.{Side}
use Rattle.circuit.specs.declared.Side.TheVariants.{A, B, C}
use Rattle.circuit.specs.Words.{kind_of, side_kind, side_of, past, is_mark, word_of}
use Rattle.circuit.specs.Rows.{Term, Sides}
use Rattle.circuit.specs.Parse.{Parsed, empty, in_front, parse, rows_of}
use Rattle.circuit.specs.Found.{until}
use Rattle.circuit.specs.Laws.Words.{side-is, kind-small}
use Rattle.verdict.specs.RowParts.{row_of, term_of, run_length, run_terms, sorted}

-- ---- parsing a word

pub parse-mark : (w : ℕ) (ws : List ℕ) → is_mark w ≡ true → parse (w ∷ ws) ≡ record { before = empty; rows = row_of w ws ∷ (parse ws).rows }
unfolding parse word_of
parse-mark w ws e = rw e

pub parse-term : (w : ℕ) (ws : List ℕ) → is_mark w ≡ false
    → parse (w ∷ ws) ≡ record { before = in_front (side_of w) (term_of w) (parse ws).before; rows = (parse ws).rows }
unfolding parse word_of
parse-term w ws e = rw e

pub rows-mark : (w : ℕ) (ws : List ℕ) → is_mark w ≡ true → rows_of (w ∷ ws) ≡ row_of w ws ∷ rows_of ws
rows-mark w ws m = ap (λ p. p.rows) (parse-mark w ws m)

pub rows-term : (w : ℕ) (ws : List ℕ) → is_mark w ≡ false → rows_of (w ∷ ws) ≡ rows_of ws
rows-term w ws m = ap (λ p. p.rows) (parse-term w ws m)

-- ---- a run

-- terms in front of a side
abbrev pub front : Side → List Term → Sides → Sides
front side [] s = s
front side (t ∷ ts) s = in_front side t (front side ts s)

pub record Run (side : Side) (ws : List ℕ) : Type 0 where
  pub parsed :
      parse ws ≡ record {
        before = front side (run_terms side ws) (parse (drop (run_length side ws) ws)).before;
        rows = rows_of (drop (run_length side ws) ws);
      }
  pub rest : sorted (suc (side_kind side)) (drop (run_length side ws) ws) ≡ true

run_step : (side : Side) (w : ℕ) (ws : List ℕ) → sorted (side_kind side) (w ∷ ws) ≡ true
    → (sorted (side_kind side) ws ≡ true → Run side ws) → (p : Bool) → past side w ≡ p → (m : Bool) → is_mark w ≡ m → Run side (w ∷ ws)
unfolding sorted until
run_step side w ws h later true e true m =
    record { parsed = rw e; rest = rw (e, m) (rw m at h) }
run_step side w ws h later true e false m =
    let t = both (leb (side_kind side) (kind_of w)) (sorted (kind_of w) ws) (rw m at h) in
    record { parsed = rw e; rest = rw (e, m, le-leb (suc (side_kind side)) (kind_of w) (ltb-true (side_kind side) (kind_of w) e)) t.1 }
run_step side w ws h later false e true m =
    absurd (let p = ltb-true 2 (kind_of w) m in let q = ltb-false (side_kind side) (kind_of w) e in omega (arith, kind-small side))
run_step side w ws h later false e false m =
    let t = both (leb (side_kind side) (kind_of w)) (sorted (kind_of w) ws) (rw m at h) in
    let k : kind_of w ≡ side_kind side =
    omega (arith, leb-true (side_kind side) (kind_of w) t.0, ltb-false (side_kind side) (kind_of w) e) in
    let r = later (subst (λ (n : ℕ). sorted n ws ≡ true) k t.1) in
    record {
      parsed =
          parse-term w ws m
          ∙ ap₂ (λ (s : Side) (p : Parsed). record { before = in_front s (term_of w) p.before; rows = p.rows })
          (side-is side w k) r.parsed
          ∙ rw e;
      rest = rw e r.rest;
    }

pub run : (side : Side) (ws : List ℕ) → sorted (side_kind side) ws ≡ true → Run side ws
unfolding sorted until
run side [] h = record { parsed = refl; rest = refl }
run side (w ∷ ws) h = run_step side w ws h (run side ws) (past side w) refl (is_mark w) refl

-- a turn along a run at index i: the run stops, goes on, or has no words left
module _ (side : Side) (ws : List ℕ) (i : ℕ) where
  pub run-stops : i < length ws → past side (get_or ws i 0) ≡ true → run_terms side (drop i ws) ≡ []
  unfolding until
  run-stops h e = rw (drop-cons ws i 0) (rw e)

  pub run-goes : i < length ws → past side (get_or ws i 0) ≡ false
      → run_terms side (drop i ws) ≡ term_of (get_or ws i 0) ∷ run_terms side (drop (i + 1) ws)
  unfolding until
  run-goes h e = rw (add-one, drop-cons ws i 0) (rw e)

  pub run_ends : length ws ≤ i → run_terms side (drop i ws) ≡ []
  unfolding until
  run_ends h = rw (drop_of_length-le ws h)

-- ---- a whole row: its three runs, behind which a mark stands or nothing

-- words that are rows: where one stands, it is a mark, and its terms are sorted
pub mark-first : (w : ℕ) (ws : List ℕ) → sorted 3 (w ∷ ws) ≡ true → (is_mark w ≡ true) × (sorted 0 ws ≡ true)
unfolding sorted
mark-first w ws h = by-test (is_mark w) refl
  where
    by-test : (m : Bool) → is_mark w ≡ m → (is_mark w ≡ true) × (sorted 0 ws ≡ true)
    by-test true m = (m, rw m at h)
    by-test false m = absurd (false≢true (rw m at h))

-- where words that are rows have one at an index, it is a mark, and sorted terms stand behind it
pub at_mark : (part : List ℕ) (at : ℕ) → at < length part → sorted 3 (drop at part) ≡ true
    → (is_mark (get_or part at 0) ≡ true) × (sorted 0 (drop (at + 1) part) ≡ true)
at_mark part at h s =
    subst (λ n. (is_mark (get_or part at 0) ≡ true) × (sorted 0 (drop n part) ≡ true)) (sym (add-one at))
    (mark-first (get_or part at 0) _ (ap (sorted 3) (sym (drop-cons part at 0 h)) ∙ s))

headed : (ws : List ℕ) → sorted 3 ws ≡ true → (parse ws).before ≡ empty
unfolding parse
headed [] h = refl
headed (w ∷ ws) h = ap (λ p. p.before) (parse-mark w ws (mark-first w ws h).0)

front-a : (ts : List Term) (s : Sides) → front A ts s ≡ record { a = ts ++ s.a; b = s.b; c = s.c }
front-a [] s = refl
front-a (t ∷ ts) s = ap (in_front A t) (front-a ts s)

front-b : (ts : List Term) (s : Sides) → front B ts s ≡ record { a = s.a; b = ts ++ s.b; c = s.c }
front-b [] s = refl
front-b (t ∷ ts) s = ap (in_front B t) (front-b ts s)

front-c : (ts : List Term) (s : Sides) → front C ts s ≡ record { a = s.a; b = s.b; c = ts ++ s.c }
front-c [] s = refl
front-c (t ∷ ts) s = ap (in_front C t) (front-c ts s)

module _ (ws : List ℕ) (h : sorted 0 ws ≡ true) where
  abbrev behind_a : List ℕ
  behind_a = drop (run_length A ws) ws

  abbrev behind_b : List ℕ
  behind_b = drop (run_length B behind_a) behind_a

  abbrev behind_c : List ℕ
  behind_c = drop (run_length C behind_b) behind_b

  run_a : Run A ws
  run_a = run A ws h

  run_b : Run B behind_a
  run_b = run B behind_a run_a.rest

  run_c : Run C behind_b
  run_c = run C behind_b run_b.rest

  pub row-rest : sorted 3 behind_c ≡ true
  row-rest = run_c.rest

  pub row-rows : (parse ws).rows ≡ rows_of behind_c
  row-rows = ap (λ p. p.rows) run_a.parsed ∙ ap (λ p. p.rows) run_b.parsed ∙ ap (λ p. p.rows) run_c.parsed

  pub row-sides : (parse ws).before ≡ record { a = run_terms A ws; b = run_terms B behind_a; c = run_terms C behind_b }
  row-sides =
      ap (λ p. p.before) run_a.parsed
      ∙ ap (front A (run_terms A ws)) (ap (λ p. p.before) run_b.parsed
      ∙ ap (front B (run_terms B behind_a)) (ap (λ p. p.before) run_c.parsed
      ∙ ap (front C (run_terms C behind_b)) (headed behind_c row-rest) ∙ front-c (run_terms C behind_b) empty)
      ∙ front-b (run_terms B behind_a) _)
      ∙ front-a (run_terms A ws) _ ∙ rw (append-nil, append-nil, append-nil)
