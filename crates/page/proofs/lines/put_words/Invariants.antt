-- `page::lines::put_words` meets its contract: as far as the loop has come, the lines of the words stand one behind the other.
-- Assumes nothing.
use Rattle.std.proofs.Common.{◌+◌, ◌*◌, ◌≤◌, take}
use Rattle.base.specs.Lists.{joined}
use Rattle.text.specs.Put.{Placed}
use Rattle.page.specs.Promises.{word_lines}
use Rattle.page.proofs.lines.put_words.Given as goal

abbrev pub invariant-loop-w : goal.invariant-loop-w
invariant-loop-w l = (l.k ≤ l.at + 60 * l.w-index)
    × Placed l.at (joined (word_lines l.cycle.cpi l.cycle.batch.now l.cycle.number (take l.w-index l.words))) l.initial.page l.page l.k
