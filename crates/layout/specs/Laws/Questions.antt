-- What a chain of questions, or a call that asks one, says where it was answered with yes.
-- Assumes nothing.
use Rattle.std.specs.Prelude.{◌≡◌, refl, Bool, true, false, cond, List, ℕ, eqb, Err, Ok}
use Rattle.std.specs.Result.{IsErrAnd}
use Rattle.std.proofs.Common.{sym, ap, ◌∙◌, arith, eqb-true, eq-eqb}
use Rattle.base.specs.Laws.Tests.{passed}
use Rattle.base.specs.Laws.WaysOut.{waysOut}
use Rattle.layout.specs.declared.questions.Refusal.{Refusal}
use Rattle.layout.specs.Questions.{no, if_yes, Called, after, Answer, Asked}
use Rattle.layout.specs.Batch.{allowed, batch_words, batch_asked}
use Rattle.layout.specs.declared.questions.Question.TheVariants.{BatchLength, BatchSize}

-- a chain that was answered with yes
pub answered : (test : Bool) (next : Asked) (r : Refusal) → cond test next (Err r) ≡ Ok tt → (test ≡ true) × (next ≡ Ok tt)
answered true next r e = (refl, e)
answered false next r e = let z : ◌≡◌ {A = ℕ} 0 1 = cc in absurd (omega arith)

-- questions after questions, all answered with yes
pub both_yes : (q next : Asked) → if_yes Err q next ≡ Ok tt → (q ≡ Ok tt) × (next ≡ Ok tt)
both_yes (Ok _) next e = (refl, e)
both_yes (Err r) next e = let z : ◌≡◌ {A = ℕ} 0 1 = cc in absurd (omega arith)

-- the answer after questions: that of a yes, and that of a no
pub if_yes_lem : {A : Type 0} (refuse : Refusal → A) (answer : A) {q : Asked} → q ≡ Ok tt → answer ≡ if_yes refuse q answer
if_yes_lem refuse answer e = ap (λ q. if_yes refuse q answer) (sym e)

pub if_no : {A : Type 0} (refuse : Refusal → A) (answer : A) {q : Asked} {r : Refusal} → q ≡ Err r → refuse r ≡ if_yes refuse q answer
if_no refuse answer e = ap (λ q. if_yes refuse q answer) (sym e)

-- the answer after questions and further ones: after the first, and then after the others
pub ask-on : {A : Type 0} (refuse : Refusal → A) (q next : Asked) (answer : A)
    → if_yes refuse (if_yes Err q next) answer ≡ if_yes refuse q (if_yes refuse next answer)
ask-on refuse (Ok _) next answer = refl
ask-on refuse (Err r) next answer = refl

-- the same in the form that `search` takes: questions that a function asked, and the way out after them
pub asked-yes : {A : Type 0} (refuse : Refusal → A) (told q : Asked) (x answer : A) → told ≡ q → told ≡ Ok tt → x ≡ answer
    → x ≡ if_yes refuse q answer
asked-yes refuse told q x answer e y h = h ∙ if_yes_lem refuse answer (sym e ∙ y)

pub asked-no : {A : Type 0} (refuse : Refusal → A) (told q : Asked) (r : Refusal) (x answer : A) → told ≡ q → told ≡ Err r
    → x ≡ refuse r → x ≡ if_yes refuse q answer
asked-no refuse told q r x answer e n h = h ∙ if_no refuse answer (sym e ∙ n)

pub ruleset asking = (waysOut, asked-yes, asked-no)

-- what `?` hands on is the refusal that it met
pub handed-on : {A : Type 0} {e : Refusal} (r : Answer A) → IsErrAnd r (λ y. y ≡ e) → r ≡ Err e
handed-on (Ok x) h = absurd h
handed-on (Err y) h = ap Err h

-- a call that answered yes
pub after-yes : (a : Asked) (made there u : List ℕ) → after a made there ≡ record { answer = Ok tt; batch = u } → (a ≡ Ok tt) × (u ≡ made)
after-yes (Ok _) made there u e = (refl, ap (λ (c : Called). c.batch) (sym e))
after-yes (Err r) made there u e = let q = ap (λ (c : Called). c.answer) e in let z : ◌≡◌ {A = ℕ} 0 1 = cc in absurd (omega arith)

-- what a call is, from what the questions came to
pub called-yes : (a : Asked) (made there u : List ℕ) → a ≡ Ok tt → u ≡ made → record { answer = Ok tt; batch = u } ≡ after a made there
called-yes a made there u e h = ap (λ (v : List ℕ). record { answer = Ok tt; batch = v }) h ∙ ap (λ (q : Asked). after q made there) (sym e)

pub called-no : (a : Asked) (r : Refusal) (made there : List ℕ) → a ≡ Err r → record { answer = Err r; batch = there } ≡ after a made there
called-no a r made there e = ap (λ (q : Asked). after q made there) (sym e)

-- questions 1 and 2: what a yes says, and when it is given
pub batch-yes : (cpi words : ℕ) → batch_asked cpi words ≡ Ok tt → (allowed cpi ≡ true) × (words ≡ batch_words cpi)
unfolding batch_asked
batch-yes cpi words e =
    let size = answered (allowed cpi) _ (no BatchSize 0) e in let length = answered (eqb words (batch_words cpi)) _ (no BatchLength 0) size.1 in
    (size.0, eqb-true words (batch_words cpi) length.0)

pub yes-batch : (cpi words : ℕ) → allowed cpi ≡ true → words ≡ batch_words cpi → batch_asked cpi words ≡ Ok tt
unfolding batch_asked
yes-batch cpi words size length =
    sym (passed _ _ _ (eq-eqb words (batch_words cpi) length) ∙ passed _ _ _ size)
