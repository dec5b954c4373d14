-- `judge::cycle::judge_cycles` meets its contract: what is left to judge from here on is what was to judge at all.
-- Assumes nothing.
use mathlib.Core.Path.{sym, ◌∙◌}
use native.Mathlib.Omega.{arith}
use Rattle.judge.specs.Laws.WordsSame.{judged-chunk}
use Rattle.judge.specs.Laws.WordsWalk.{judged-stops, judged-goes, judged-ends}
use Rattle.judge.proofs.cycle.judge_cycles.Goals as goal

pub returns-then-not-judge : goal.returns-then-not-judge
returns-then-not-judge c =
    let t = c.loop-d in let a = c.args in
    sym
    (judged-stops a.which a.words.now a.output a.cpi t.d c.loop-d-test.true
    (judged-chunk _ _ _ _ _ c.as_chunks.ensures.front (omega arith) ∙ sym c.judge.ensures ∙ c.if-not-judge.true))
    ∙ t.invariant.1

pub loop-d-preserved : goal.loop-d-preserved
loop-d-preserved c =
    let t = c.loop-d in let a = c.args in (
      omega arith,
      sym
          (judged-goes a.which a.words.now a.output a.cpi t.d c.loop-d-test.true
          (judged-chunk _ _ _ _ _ c.as_chunks.ensures.front (omega arith) ∙ sym c.judge.ensures ∙ c.if-not-judge.false))
          ∙ t.invariant.1,
    )

pub returns : goal.returns
returns c =
    let t = c.loop-d in let a = c.args in
    sym (judged-ends a.which a.words.now a.output a.cpi t.d c.loop-d-test.false) ∙ t.invariant.1
