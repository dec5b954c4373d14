-- What a listing that passes questions 6 to 10 shows of its first word, and of the rest.
-- Assumes nothing.
use Rattle.std.specs.Prelude.{◌≡◌, refl, ◌⊎◌, Bool, true, false, cond, List, ◌∷◌, ℕ, suc, ◌+◌, ◌%◌, ◌^◌, ◌≤◌, ◌<◌, eqb, ltb, Result, Ok, Err}
use Rattle.std.proofs.Common.{sym, ap, inl, inr, arith, ltb-false}
use Rattle.std.proofs.lemmas.Bool.{eqb-false}
use Rattle.circuit.specs.declared.Relation.TheVariants.{Bin, Fld}
use Rattle.circuit.specs.declared.questions.Progress.{Progress}
use Rattle.layout.specs.declared.questions.Question.{Question}
use Rattle.layout.specs.declared.questions.Question.TheVariants.{WordBits, FirstMark, MarkOrder, TermOrder}
use Rattle.circuit.specs.Words.{kind_of, is_mark, flag_of, clean_of, relation_of}
use Rattle.circuit.specs.Found.{rows_a_cycle}
use Rattle.circuit.specs.Valid.{order_of, go, after_mark, after_term, after_word, onward, valid_from}

never : (n : Question) (l k : ℕ) → ◌≡◌ {A = Result Progress Question} (Err n) (go l k) → ⊥
never n l k e = let z : ◌≡◌ {A = ℕ} 0 1 = cc in omega arith

known : (a b l k : ℕ) → go a b ≡ go l k → (l ≡ a) × (k ≡ b)
known a b l k e =
    let p : ◌≡◌ {A = Progress} (record { low = a; kind = b }) (record { low = l; kind = k }) = cc e in
    (sym (ap (λ (q : Progress). q.low) p), sym (ap (λ (q : Progress). q.kind) p))

-- a question passed on the way to what is known behind the word
module _ (b : Bool) (x : Result Progress Question) (n : Question) {l k : ℕ} where
  go-yes : cond b x (Err n) ≡ go l k → (b ≡ true) × (x ≡ go l k)
  go-yes e = by-test b refl e
    where
      by-test : (t : Bool) → b ≡ t → cond t x (Err n) ≡ go l k → (b ≡ true) × (x ≡ go l k)
      by-test true q e = (q, e)
      by-test false q e = absurd (never n l k e)

  go-no : cond b (Err n) x ≡ go l k → (b ≡ false) × (x ≡ go l k)
  go-no e = by-test b refl e
    where
      by-test : (t : Bool) → b ≡ t → cond t (Err n) x ≡ go l k → (b ≡ false) × (x ≡ go l k)
      by-test true q e = absurd (never n l k e)
      by-test false q e = (q, e)

-- a mark is clean, comes after the one before, and its place is at most 543; a term has a mark before it, and its kind is not below the
-- one before
pub record MarkPassed (low w l k : ℕ) : Type 0 where
  pub mark : is_mark w ≡ true
  pub clean : clean_of w ≡ true
  pub order : low ≤ order_of w
  pub most : order_of w ≤ 543
  pub next : l ≡ order_of w + 1
  pub fresh : k ≡ 0

pub record TermPassed (low kind w l k : ℕ) : Type 0 where
  pub term : is_mark w ≡ false
  pub headed : low ≡ 0 → ⊥
  pub same : l ≡ low
  pub order : kind ≤ kind_of w
  pub kind-is : k ≡ kind_of w

mark-passed : (low w l k : ℕ) → is_mark w ≡ true → clean_of w ≡ true → after_mark low w ≡ go l k → MarkPassed low w l k
unfolding after_mark
mark-passed low w l k m c e =
    let a = go-no (ltb (order_of w) low) _ MarkOrder e in let b = go-no (ltb 543 (order_of w)) _ MarkOrder a.1 in
    record {
      mark = m;
      clean = c;
      order = ltb-false (order_of w) low a.0;
      most = ltb-false 543 (order_of w) b.0;
      next = (known _ _ l k b.1).0;
      fresh = (known _ _ l k b.1).1;
    }

term-passed : (low kind w l k : ℕ) → is_mark w ≡ false → after_term low kind w ≡ go l k → TermPassed low kind w l k
unfolding after_term
term-passed low kind w l k m e =
    let a = go-no (eqb low 0) _ FirstMark e in let b = go-no (ltb (kind_of w) kind) _ TermOrder a.1 in
    record { term = m; headed = eqb-false low 0 a.0; same = (known _ _ l k b.1).0; order = ltb-false (kind_of w) kind b.0; kind-is = (known _ _ l k b.1).1 }

word-passed : (low kind w l k : ℕ) → after_word low kind w ≡ go l k → MarkPassed low w l k ⊎ TermPassed low kind w l k
unfolding after_word
word-passed low kind w l k e = let c = go-yes (clean_of w) _ WordBits e in by-test c.0 (is_mark w) refl c.1
  where
    by-test : clean_of w ≡ true → (m : Bool) → is_mark w ≡ m → cond m (after_mark low w) (after_term low kind w) ≡ go l k
        → MarkPassed low w l k ⊎ TermPassed low kind w l k
    by-test c true m f = inl (mark-passed low w l k m c f)
    by-test c false m f = inr (term-passed low kind w l k m f)

-- a place of at most 543 is a row that its relation has
pub place-fits : (w : ℕ) → order_of w ≤ 543 → w % 2 ^ 9 < rows_a_cycle (relation_of w)
place-fits w h = by-test (eqb (flag_of w) 0) refl
  where
    by-test : (b : Bool) → eqb (flag_of w) 0 ≡ b → w % 2 ^ 9 < rows_a_cycle (cond b Bin Fld)
    by-test true e = omega arith
    by-test false e = let f = eqb-false (flag_of w) 0 e in omega arith

-- a whole listing that is passed: its first word is, and so is the rest
pub record Passed (i low kind w : ℕ) (ws : List ℕ) : Type 0 where
  pub l : ℕ
  pub k : ℕ
  pub first : MarkPassed low w l k ⊎ TermPassed low kind w l k
  pub rest : valid_from (suc i) l k ws ≡ Ok tt

pub passed-word : (i low kind w : ℕ) (ws : List ℕ) → valid_from i low kind (w ∷ ws) ≡ Ok tt → Passed i low kind w ws
unfolding valid_from
passed-word i low kind w ws e = by-progress (after_word low kind w) refl e
  where
    by-progress : (s : Result Progress Question) → after_word low kind w ≡ s → onward s i (λ l k. valid_from (suc i) l k ws) ≡ Ok tt → Passed i low kind w ws
    by-progress (Ok p) a f = record { l = p.low; k = p.kind; first = word-passed low kind w p.low p.kind a; rest = f }
    by-progress (Err n) a f = let z : ◌≡◌ {A = ℕ} 0 1 = cc in absurd (omega arith)
