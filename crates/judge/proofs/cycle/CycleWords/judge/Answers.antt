-- `judge::cycle::CycleWords::judge` meets its contract: the conditions and the derived words are those of the words that were read.
-- Assumes nothing.
use Rattle.judge.specs.Laws.WordsSame.{judged-from}
use Rattle.judge.proofs.cycle.CycleWords.judge.Goals as goal

pub returns : goal.returns
returns c = search judged-from
