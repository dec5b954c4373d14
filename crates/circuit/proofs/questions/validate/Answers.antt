-- `circuit::questions::validate` meets its contract: what is left, asked from here, answers as the whole does, at every turn.
-- Assumes nothing.
use mathlib.Core.Path.{◌≡◌, sym, ap, ◌∙◌}
use mathlib.Core.List.{List}
use Prim.Native.Nat.{ℕ, ◌+◌, ◌≤◌, ◌<◌}
use native.Mathlib.Numerals.{add-one}
use borrow.Author.Tests.{le-leb}
use lib.ListN.{length, get_or, drop, drop_of_length-le}
use lib.Seq.{drop-cons}
use Rattle.base.specs.Laws.Tests.{passed}
use Rattle.std.specs.Prelude.{Result}
use Rattle.layout.specs.declared.questions.Question.{Question}
use Rattle.circuit.specs.declared.questions.Progress.{Progress}
use Rattle.circuit.specs.Valid.{after_word, onward, valid_from, validated}
use Rattle.circuit.proofs.questions.validate.Goals as goal

-- a turn: what stands at index i decides, and the rest is asked from i + 1
turn :
    (ws : List ℕ) (i low kind : ℕ) (s : Result Progress Question) → i < length ws → s ≡ after_word low kind (get_or ws i 0)
    → valid_from i low kind (drop i ws) ≡ onward s i (λ l k. valid_from (i + 1) l k (drop (i + 1) ws))
unfolding valid_from
turn ws i low kind s h e = rw (e, add-one, drop-cons ws i 0)

fits : (ws : List ℕ) → length ws ≤ 16384 → valid_from 0 0 0 ws ≡ validated ws
unfolding validated
fits ws h = passed _ _ _ (le-leb _ _ h)

pub returns-in-Err : goal.returns-in-Err
returns-in-Err c =
    let t = c.loop-i in
    sym (turn _ t.i t.low t.kind _ c.loop-i-test.true
    (sym c.in-Err.is ∙ c.after_word.ensures))
    ∙ t.invariant ∙ fits _ c.if-listing-gt16384.false

pub loop-i-preserved : goal.loop-i-preserved
loop-i-preserved c =
    let t = c.loop-i in
    sym (turn _ t.i t.low t.kind _ c.loop-i-test.true (sym c.in-Ok.is ∙ c.after_word.ensures)) ∙ t.invariant

pub returns : goal.returns
unfolding valid_from
returns c =
    let t = c.loop-i in
    sym (ap (valid_from t.i t.low t.kind) (drop_of_length-le _ c.loop-i-test.false))
    ∙ t.invariant ∙ fits _ c.if-listing-gt16384.false
