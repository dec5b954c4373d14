-- Filling and checking promises what demand 3 says of acceptance: of a slice as it is lent, whose words are words.
-- Assumes nothing.
use Rattle.std.specs.Prelude.{◌≡◌, ◌↔◌, Bool, true, false, not, ◌&&◌, ℕ, ◌*◌, ◌^◌, ◌<◌, length, get_or, Err, Ok}
use Rattle.std.proofs.Math.Path.{refl, sym, ap, subst, fun_ext}
use Rattle.std.proofs.Common.{◌∙◌, true≢false, arith}
use Rattle.std.proofs.Math.Bool.{and-false}
use Rattle.std.proofs.lemmas.Bool.{false≢true, not-true}
use mathlib.Core.List.{List}
use Rattle.base.specs.Laws.Cases.{no_true}
use Rattle.field.specs.declared.Gf128.{Gf128}
use Rattle.field.specs.Gf.{is_bit}
use Rattle.layout.specs.declared.questions.Refusal.{Refusal}
use Rattle.layout.specs.Questions.{Called, after, Answer, Asked}
use Rattle.layout.specs.Laws.Sizes.{allowed-range}
use Rattle.layout.specs.Laws.Questions.{if_yes_lem, after-yes, yes-batch}
use Rattle.layout.specs.Laws.Scratch.{some_scratch, some_fits}
use Rattle.layout.specs.Batch.{batch_words}
use Rattle.strict.specs.declared.Known.{Known}
use Rattle.strict.specs.Known.{listing_of}
use Rattle.verdict.specs.declared.Verdict.{Verdict}
use Rattle.verdict.specs.Row.{element_at}
use Rattle.verdict.specs.Check.{judged, checked, known_checked}
use Rattle.verdict.specs.Counted.{CountedApart}
use Rattle.verdict.proofs.Laws.Agree.{known-agrees}
use Rattle.verdict.proofs.Laws.Counted.{known-counted}
use Rattle.step.specs.Strict.{ConditionsOf}
use Rattle.step.specs.Derived.{derived_in}
use Rattle.step.specs.Filling.{SameElsewhere, filler_bits, filled}
use Rattle.step.specs.Demand3.{Premises, accepts, fails, Demand3}
use Rattle.step.specs.Fill.{faulty, fill_asked, called, Passed}
use Rattle.step.proofs.Laws.FillingElements.{filling-length}
use Rattle.step.proofs.Laws.Batch.{same-filled}
use Rattle.step.proofs.Laws.Proved.{demand3-known}
use Rattle.step.proofs.Laws.FillAnswers.{all-passed, premises}
use Rattle.judge.specs.FillCheck.{FillChecked, answer_after, fill_checked, EveryStep, Promised}

-- ---- the filler asks nothing of a derived column

module _ (cpi : ℕ) (other batch : List ℕ) (s : SameElsewhere cpi other batch) where
  same-fault : (x : ℕ) → faulty cpi other x ≡ faulty cpi batch x
  same-fault x = go (derived_in cpi x) refl
    where
      -- of a derived column the test is false
      none : (a k : Bool) → k ≡ true → (a && not k) ≡ false
      none a k e = ap (λ (j : Bool). a && not j) e ∙ and-false a

      go : (k : Bool) → derived_in cpi x ≡ k → faulty cpi other x ≡ faulty cpi batch x
      go true e =
          none (not (is_bit (element_at other x))) (derived_in cpi x) e
          ∙ sym (none (not (is_bit (element_at batch x))) (derived_in cpi x) e)
      go false e = ap (λ (y : Gf128). not (is_bit y) && not (derived_in cpi x)) (s.elements x (λ _ d. false≢true (sym e ∙ d)))

  same-one : element_at other (2048 * cpi) ≡ element_at batch (2048 * cpi)
  same-one = s.elements (2048 * cpi) (λ l _. omega (arith, l))

  pub same_asked : fill_asked cpi other ≡ fill_asked cpi batch
  unfolding fill_asked
  same_asked = rw (s.lengths, fun_ext same-fault, same-one) refl

-- ---- by what the filler answers

-- a no is no yes
yes-no : {r : Refusal} → ◌≡◌ {A = Asked} (Err r) (Ok tt) → ⊥
yes-no e = let z : ◌≡◌ {A = ℕ} 0 1 = cc in omega arith

-- what a call comes to
abbrev after_asked : Known → ℕ → List ℕ → Asked → FillChecked
after_asked k cpi before q =
    let c = after q (filled cpi before) before in record { answer = answer_after k cpi c.answer c.batch; batch = c.batch }

of-asked : (k : Known) (cpi : ℕ) (before : List ℕ) (q : Asked) → fill_asked cpi before ≡ q → fill_checked k cpi before ≡ after_asked k cpi before q
unfolding fill_checked called
of-asked k cpi before q e = ap (after_asked k cpi before) e

-- a refusal is no verdict
module _ (k : Known) (cpi : ℕ) (before : List ℕ) (r : Refusal) (e : fill_asked cpi before ≡ Err r) where
  pub refusal-promised : Promised k cpi before (Err r) before
  refusal-promised =
      record {
        result = sym (of-asked k cpi before (Err r) e);
        refused = λ t f. (ap (λ (q : Asked). answer_after k cpi q before) (sym e ∙ f), refl);
        fills = λ f. absurd (yes-no (sym e ∙ f));
        accepted = (λ f. absurd (false≢true f), λ h. absurd (yes-no (sym e ∙ h.0)));
        failed = (λ f. absurd (false≢true f), λ h. absurd (yes-no (sym e ∙ h.0)));
        as-checked = λ f. absurd (yes-no (sym e ∙ f));
        whatever = λ other s. ap (λ (c : FillChecked). c.answer) (of-asked k cpi other (Err r) (same_asked cpi other before s ∙ e));
      }

-- what is filled is judged, and demand 3 says how
module _ (k : Known) (cpi : ℕ) (before : List ℕ) (fit : (i : ℕ) → get_or before i 0 < 2 ^ 64) (e : fill_asked cpi before ≡ Ok tt) where
  p : Passed cpi before
  p = all-passed cpi before e

  met : Premises cpi before
  met = premises cpi before p fit

  demand : Demand3 (listing_of k) (ConditionsOf k) cpi before some_scratch
  demand = demand3-known k cpi p.size before some_scratch some_fits met

  answer-is : known_checked k cpi (filled cpi before) ≡ (checked cpi (listing_of k) (filled cpi before) some_scratch).answer
  answer-is = known-agrees k cpi (filled cpi before) some_scratch some_fits

  filled-words : length (filled cpi before) ≡ batch_words cpi
  unfolding filled
  filled-words = filling-length cpi (filler_bits cpi before) before ∙ p.words

  pub is-judged : known_checked k cpi (filled cpi before) ≡ Ok (judged cpi (listing_of k) (filled cpi before))
  unfolding known_checked
  is-judged = sym (if_yes_lem Err _ (yes-batch cpi (length (filled cpi before)) p.size filled-words))

  accepted-is : (accepts (known_checked k cpi (filled cpi before)) ≡ true) ↔ EveryStep k cpi before
  accepted-is =
      let d = demand.accepted in (λ a. d.0 (sym (ap accepts answer-is) ∙ a), λ h. ap accepts answer-is ∙ d.1 h)

  -- a judged answer fails where it is not accepted
  fails-is : fails (known_checked k cpi (filled cpi before)) ≡ not (accepts (known_checked k cpi (filled cpi before)))
  fails-is = ap fails is-judged ∙ ap not (sym (ap accepts is-judged))

  pub fill-promised : Promised k cpi before (known_checked k cpi (filled cpi before)) (filled cpi before)
  fill-promised =
      record {
        result = sym (of-asked k cpi before (Ok tt) e);
        refused = λ r f. absurd (yes-no (sym f ∙ e));
        fills = λ f. refl;
        accepted = (λ a. (e, accepted-is.0 a), λ h. accepted-is.1 h.1);
        failed = (
          λ f. (e, λ h. true≢false (sym (accepted-is.1 h) ∙ not-true _ (sym fails-is ∙ f))),
          λ h. fails-is ∙ ap not (no_true _ (λ a. h.1 (accepted-is.0 a))),
        );
        as-checked = λ f. known-agrees k cpi (filled cpi before);
        whatever = λ other s.
            ap (λ (c : FillChecked). c.answer) (of-asked k cpi other (Ok tt) (same_asked cpi other before s ∙ e))
            ∙ ap (known_checked k cpi) (same-filled cpi (allowed-range cpi p.size).0 before met other s);
      }

-- ---- as the entry has it: by the answer of the filler that was called

module _ (k : Known) (cpi : ℕ) (before : List ℕ) {q : Asked} {batch : List ℕ}
    (e : ◌≡◌ {A = Called} (record { answer = q; batch = batch }) (called cpi before)) where
  pub promised-no : {r : Refusal} → q ≡ Err r → Promised k cpi before (Err r) batch
  unfolding called
  promised-no {r} no-is =
      go (fill_asked cpi before) refl (ap (λ (c : Called). c.answer) (sym e) ∙ no-is) (ap (λ (c : Called). c.batch) e)
    where
      go : (a : Asked) → fill_asked cpi before ≡ a → (after a (filled cpi before) before).answer ≡ Err r
          → batch ≡ (after a (filled cpi before) before).batch → Promised k cpi before (Err r) batch
      go (Ok _) f h b = absurd (yes-no (sym h))
      go (Err t) f h b =
          subst (λ (u : List ℕ). Promised k cpi before (Err r) u) (sym b)
          (subst (λ (x : Answer Verdict). Promised k cpi before x before) (ap (λ (x : Asked). answer_after k cpi x before) h)
          (refusal-promised k cpi before t f))

  pub promised-yes : q ≡ Ok tt → ((i : ℕ) → get_or before i 0 < 2 ^ 64) → {x : Answer Verdict} → x ≡ known_checked k cpi batch
      → Promised k cpi before x batch
  unfolding called
  promised-yes yes-is fit {x} f =
      let is-called = sym e ∙ ap (λ (a : Asked). record { answer = a; batch = batch }) yes-is in
      let y = after-yes (fill_asked cpi before) (filled cpi before) before batch is-called in
      subst (λ (u : List ℕ). Promised k cpi before x u) (sym y.1)
      (subst (λ (z : Answer Verdict). Promised k cpi before z (filled cpi before)) (sym (f ∙ ap (known_checked k cpi) y.1))
      (fill-promised k cpi before fit y.0))

-- ---- bin and fld are counted apart here too, over the batch that is left
pub fill-counted : (k : Known) (cpi : ℕ) (batch : List ℕ) (v : Verdict) → (fill_checked k cpi batch).answer ≡ Ok v
    → CountedApart cpi (listing_of k) (fill_checked k cpi batch).batch v
unfolding fill_checked
fill-counted k cpi batch v = by_answer (called cpi batch).answer
  where
    left : List ℕ
    left = (called cpi batch).batch

    by_answer : (q : Asked) → answer_after k cpi q left ≡ Ok v → CountedApart cpi (listing_of k) left v
    by_answer (Ok _) e = known-counted k cpi left v e
    by_answer (Err r) e = let z : ◌≡◌ {A = ℕ} 0 1 = cc in absurd (omega arith)
