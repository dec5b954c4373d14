-- `witness::row::write_word` meets its contract: the columns passed hold the bits of w, and `rest` is w without them.
-- Assumes nothing.
use Rattle.std.proofs.Common.{◌≡◌, ℕ, ◌+◌, ◌*◌, ◌%◌, ap, ◌∙◌, arith}
use Rattle.base.specs.Laws.Words.{half-turn}
use Rattle.base.specs.Laws.Written.{written-more, written-to}
use Rattle.witness.specs.Laws.RowWords.{low_word, high_word}
use Rattle.witness.proofs.row.write_word.Goals as goal

pub loop-i-preserved : goal.loop-i-preserved
loop-i-preserved c =
    let l = c.loop-i in let a = c.args in
    let i = l.i in
    let next : a.start + 2 * i + 1 + 1 ≡ a.start + 2 * (i + 1) = omega arith in
    let low = written-more _ _ _ _ _ (l.rest % 2) (ap (λ (r : ℕ). r % 2) l.invariant.0 ∙ low_word a.start a.w i) (omega arith)
    (omega arith) l.invariant.1 in
    let both = written-more _ _ _ _ _ 0 (high_word a.start a.w i) (omega arith) (omega arith) low in
    (half-turn a.w i l.invariant.0, written-to _ _ _ _ _ _ next both)
