-- `witness::row::write_row` meets its contract: both halves, one behind the other.
-- Assumes nothing.
use Rattle.std.proofs.Common.{refl}
use Rattle.layout.specs.Batch.{ROW-WORDS}
use Rattle.witness.specs.Row.{bit_word}
use Rattle.witness.specs.RowWords.{bit_in}
use Rattle.witness.specs.Laws.Halves.{halves-written}
use Rattle.witness.proofs.row.write_row.Goals as goal

pub returns : goal.returns
returns c =
    let a = c.args in
    halves-written ROW-WORDS 2048 refl (bit_word (bit_in a.words.now)) a.public.now 4096 refl a.row.now _ _ c.requires.0
    c.write_words.ensures
    c.write_upper.ensures
