-- `verdict::check_row` meets its contract: where the questions are passed, the loops have the batch and the listing that they ask for.
-- Assumes nothing.
use mathlib.Core.Path.{◌≡◌, sym, ◌∙◌}
use mathlib.Core.Bool.{true}
use mathlib.Core.List.{List}
use Prim.Native.Nat.{ℕ}
use Rattle.layout.specs.Batch.{allowed, batch_words, batch_asked, scratch_fits}
use Rattle.layout.specs.Questions.{no}
use Rattle.layout.specs.Laws.Questions.{answered, both_yes, batch-yes}
use Rattle.circuit.specs.Valid.{validated}
use Rattle.verdict.specs.Check.{asked}
use Rattle.verdict.proofs.check_row.Goals as goal
use Rattle.layout.specs.declared.questions.Question.TheVariants.{ScratchLength}
use Rattle.std.specs.Prelude.{Ok}

-- what an answer of yes shows
asked-yes : (cpi : ℕ) (listing : List ℕ) (words room : ℕ) → asked cpi listing words room ≡ Ok tt
    → (allowed cpi ≡ true) × ((words ≡ batch_words cpi) × (validated listing ≡ Ok tt))
unfolding asked
asked-yes cpi listing words room e =
    let a = both_yes (batch_asked cpi words) _ e in let b = batch-yes cpi words a.0 in
    (b.0, (b.1, (answered (scratch_fits room) _ (no ScratchLength 0) a.1).1))

pub walk-requires : goal.walk-requires
walk-requires c = asked-yes _ _ _ _ (sym c.ask.ensures ∙ c.in_ok-ask.was)
