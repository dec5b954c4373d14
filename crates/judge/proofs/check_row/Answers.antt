-- `judge::check_row` meets its contract: what the short way says yes to is accepted and leaves scratch zero, and the rest is walked.
-- Assumes nothing.
use mathlib.Core.Path.{ap, ◌∙◌}
use mathlib.Core.List.{List}
use Prim.Native.Nat.{ℕ}
use native.Mathlib.Omega.{arith}
use Rattle.verdict.specs.Check.{checked}
use Rattle.judge.specs.Laws.Short.{row-short}
use Rattle.judge.proofs.check_row.Goals as goal

pub returns-then-short_row : goal.returns-then-short_row
returns-then-short_row c =
    let a = c.args in
    c.accept.ensures
    ∙ row-short _ _ _ _ _ (λ j. omega (arith, c.type_inv.batch j)) (c.short_row.ensures.0 c.if-short_row.true)
    ∙ ap (λ (s : List ℕ). checked a.cpi a.listing.now a.batch.now s) c.loop-which.invariant

pub returns : goal.returns
returns c =
    let a = c.args in c.check_row.ensures ∙ ap (λ (s : List ℕ). checked a.cpi a.listing.now a.batch.now s) c.loop-which.invariant
