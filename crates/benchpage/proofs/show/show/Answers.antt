-- `benchpage::show::show` meets its contract: each arm puts what is printed of its answer, and there is room for it.
-- Assumes nothing.
use native.Mathlib.Omega.{arith}
use borrow.Author.Rules.{rules}
use Rattle.text.specs.Laws.Put.{put-fits, placed-as}
use Rattle.page.proofs.Laws.Line.{verdict-short, line-short}
use Rattle.benchpage.specs.Laws.Printed.{refused-printed, accepted-printed, failed-printed, failed-named}
use Rattle.benchpage.proofs.show.show.Goals as goal

pub put_failing-requires : goal.put_failing-requires
put_failing-requires c =
    let n = failed-named c.args.bytes.now _ c.check_bytes-answer.ensures _ _ _ _ c.in-Ok.is c.in-Failed.is in
    (search rules, (n.whole, n.few))

pub returns-in-Err : goal.returns-in-Err
returns-in-Err c =
    placed-as _ _ _ _ _ _ (refused-printed c.args.bytes.now _ c.check_bytes-answer.ensures _ c.in-Err.is)
    (put-fits _ _ _ _ _ (omega (arith, line-short c.check_bytes-answer.result)) c.put_answer.ensures)

pub returns-in-Accepted : goal.returns-in-Accepted
returns-in-Accepted c =
    placed-as _ _ _ _ _ _
    (accepted-printed c.args.bytes.now _ c.check_bytes-answer.ensures _ _ c.in-Ok.is c.in-Accepted.is)
    (put-fits _ _ _ _ _ (omega (arith, verdict-short c.in-Ok.v)) c.put_answer-in-Accepted.ensures)

pub returns-in-Failed : goal.returns-in-Failed
returns-in-Failed c =
    placed-as _ _ _ _ _ _
    (failed-printed c.args.bytes.now _ c.check_bytes-answer.ensures _ _ _ _ c.in-Ok.is c.in-Failed.is)
    c.put_failing.ensures
