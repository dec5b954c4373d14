-- In a listing that passes questions 6 to 10 every row is the one that the search finds by its relation and row number: the marks ascend,
-- so no two are alike, and the first word that is a row's mark is that row's own.
-- Assumes nothing.
use Rattle.std.specs.Prelude.{◌≡◌, true, List, [], ◌∷◌, ℕ, suc, ◌+◌, ◌^◌, ◌<◌, ◌≤◌, leb, length, get_or, drop, Ok}
use Rattle.std.proofs.Common.{sym, ap, subst, ◌∙◌, ⊎_elim, true≢false, add-one, arith, eq-eqb, ne_eqb}
use Rattle.base.specs.Lists.{All}
use Rattle.base.specs.Laws.Lists.{all_then}
use Rattle.layout.specs.Questions.{no}
use Rattle.layout.specs.Laws.Questions.{answered}
use Rattle.circuit.specs.Words.{is_mark, mark_word}
use Rattle.circuit.specs.Rows.{Row}
use Rattle.circuit.specs.Parse.{parse, rows_of}
use Rattle.circuit.specs.Valid.{order_of, valid_from, validated}
use Rattle.circuit.specs.Found.{rows_a_cycle, until, is_word, found, place_at}
use Rattle.circuit.specs.Laws.Words.{mark-word}
use Rattle.circuit.specs.Laws.Search.{found_first}
use Rattle.circuit.specs.Laws.Valid.{MarkPassed, TermPassed, passed-word, place-fits}
use Rattle.verdict.specs.RowParts.{row_of}
use Rattle.verdict.specs.Laws.RowParts.{rows-mark, rows-term}
use Rattle.layout.specs.declared.questions.Question.TheVariants.{ListingLength}

-- the search finds a row, and behind the mark there stand its terms
pub record FoundAs (ws : List ℕ) (r : Row) : Type 0 where
  pub start : ℕ
  pub end : ℕ
  pub number_fits : r.number < rows_a_cycle r.relation
  pub place : found ws r.relation r.number ≡ place_at start end
  pub sides : (parse (drop (start + 1) ws)).before ≡ r.sides

-- ---- from any word on, where the marks to come have at least a given place in the order of marks

abbrev mark_of : Row → ℕ
mark_of r = mark_word r.relation r.number

abbrev place_of : List ℕ → Row → ℕ
place_of ws r = until (is_word (mark_of r)) ws

record Ahead (low : ℕ) (ws : List ℕ) (r : Row) : Type 0 where
  few : r.number < rows_a_cycle r.relation
  mark : is_mark (mark_of r) ≡ true
  order : low ≤ order_of (mark_of r)
  inside : place_of ws r < length ws
  sides : (parse (drop (suc (place_of ws r)) ws)).before ≡ r.sides

-- the row that the first word heads
here : (low w : ℕ) (ws : List ℕ) {l k : ℕ} → MarkPassed low w l k → w < 2 ^ 32 → Ahead low (w ∷ ws) (row_of w ws)
unfolding until
here low w ws p fit =
    let e = mark-word w p.mark p.clean fit in
    let at : place_of (w ∷ ws) (row_of w ws) ≡ 0 = rw (eq-eqb w (mark_of (row_of w ws)) e) in
    record {
      few = place-fits w p.most;
      mark = ap is_mark (sym e) ∙ p.mark;
      order = subst (λ (x : ℕ). low ≤ order_of x) e p.order;
      inside = omega arith;
      sides = ap (λ (n : ℕ). (parse (drop (suc n) (w ∷ ws))).before) at;
    }

-- and one of the rows behind, whose mark the first word is not
behind : (low l w : ℕ) (ws : List ℕ) (r : Row) → low ≤ l → (w ≡ mark_of r → ⊥) → Ahead l ws r → Ahead low (w ∷ ws) r
unfolding until
behind low l w ws r h other a =
    let at : place_of (w ∷ ws) r ≡ suc (place_of ws r) = rw (ne_eqb w (mark_of r) other) in
    record {
      few = a.few;
      mark = a.mark;
      order = omega (arith, a.order);
      inside = omega (arith, at, a.inside);
      sides = ap (λ (n : ℕ). (parse (drop (suc n) (w ∷ ws))).before) at ∙ a.sides;
    }

rows-ahead : (i low kind : ℕ) (ws : List ℕ) → ((n : ℕ) → get_or ws n 0 < 2 ^ 32) → valid_from i low kind ws ≡ Ok tt
    → All (Ahead low ws) (rows_of ws)
unfolding parse
rows-ahead i low kind [] fit e = tt
rows-ahead i low kind (w ∷ ws) fit e =
    let p = passed-word i low kind w ws e in
    let later = rows-ahead (suc i) p.l p.k ws (λ n. fit (suc n)) p.rest in
    ⊎_elim (by-mark p.l p.k later) (by-term p.l p.k later) p.first
  where
    by-mark : (l k : ℕ) → All (Ahead l ws) (rows_of ws) → MarkPassed low w l k → All (Ahead low (w ∷ ws)) (rows_of (w ∷ ws))
    by-mark l k later m =
        let o = m.order in let n = m.next in
        let other : ((r : Row) → Ahead l ws r → w ≡ mark_of r → ⊥) = λ r a q. let p = a.order in let s = ap order_of q in omega arith in
        subst (All (Ahead low (w ∷ ws))) (sym (rows-mark w ws m.mark))
        (here low w ws m (fit 0), all_then _ _ (λ r a. behind low l w ws r (omega arith) (other r a) a) (rows_of ws) later)

    by-term : (l k : ℕ) → All (Ahead l ws) (rows_of ws) → TermPassed low kind w l k → All (Ahead low (w ∷ ws)) (rows_of (w ∷ ws))
    by-term l k later t =
        let s = t.same in
        let other : ((r : Row) → Ahead l ws r → w ≡ mark_of r → ⊥) = λ r a q. true≢false (sym a.mark ∙ ap is_mark (sym q) ∙ t.term) in
        subst (All (Ahead low (w ∷ ws))) (sym (rows-term w ws t.term))
        (all_then _ _ (λ r a. behind low l w ws r (omega arith) (other r a) a) (rows_of ws) later)

-- ---- a listing that questions 6 to 10 pass. Its words are of 32 bits, as those of a lent listing are: a larger number may stand for a
-- mark too, and is no word that the search looks for
pub rows-found : (ws : List ℕ) → ((i : ℕ) → get_or ws i 0 < 2 ^ 32) → validated ws ≡ Ok tt → All (FoundAs ws) (rows_of ws)
unfolding validated
rows-found ws fit e =
    all_then (Ahead 0 ws) (FoundAs ws)
    (λ r a. record {
      start = place_of ws r;
      end = place_of ws r + 1 + until is_mark (drop (place_of ws r + 1) ws);
      number_fits = a.few;
      place = found_first ws r.relation r.number a.few a.inside;
      sides = ap (λ (n : ℕ). (parse (drop n ws)).before) (add-one (place_of ws r)) ∙ a.sides;
    })
    (rows_of ws) (rows-ahead 0 0 0 ws fit (answered (leb (length ws) 16384) (valid_from 0 0 0 ws) (no ListingLength 0) e).1)
