-- `judge::fill_and_check` meets its contract: the filler's answer picks the case, and demand 3 speaks of what it filled. That words are
-- below 2^64 comes from the slice.
-- Assumes nothing.
use Rattle.std.proofs.Common.{sym, subst, arith}
use Rattle.layout.specs.Questions.{Answer}
use Rattle.layout.specs.Laws.Questions.{handed-on}
use Rattle.verdict.specs.declared.Verdict.{Verdict}
use Rattle.judge.specs.FillCheck.{Promised}
use Rattle.judge.proofs.Laws.FillCheck.{promised-no, promised-yes}
use Rattle.judge.proofs.fill_and_check.Goals as goal

pub returns-in_err-fill : goal.returns-in_err-fill
returns-in_err-fill c =
    let a = c.args in
    subst (λ (r : Answer Verdict). Promised a.which a.cpi a.batch.now r c.fill.new.batch) (sym (handed-on _ c.from_residual.ensures.1))
    (promised-no _ _ _ c.fill.ensures c.in_err-fill.was)

pub returns : goal.returns
returns c =
    promised-yes _ _ _ c.fill.ensures c.in_ok-fill.was (λ i. omega (arith, c.slice_known-1.given i)) c.check_known.ensures
