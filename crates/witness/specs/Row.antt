-- The made row, column by column, and the row maker as it is called.
-- Assumes nothing.
use Rattle.std.specs.Prelude.{ℕ, ◌/◌, ◌%◌, Bool, cond, List, length, ◌==◌}
use Rattle.base.specs.Bits.{digit}
use Rattle.base.specs.Lists.{joined, from}
use Rattle.base.specs.Blocks.{column_bit}
use Rattle.layout.specs.Questions.{Called, after, Asked}
use Rattle.layout.specs.Batch.{ROW-WORDS}
use Rattle.witness.specs.declared.records.CycleRecord.{CycleRecord}
use Rattle.witness.specs.declared.records.RomRow.{RomRow}
use Rattle.witness.specs.Upper.{public_asked, batch_word}
use Rattle.witness.specs.Table.{table}

-- questions 2 and 3, of the numbers of words, the public values' and the row's: a row is a batch of one cycle
abbrev pub row_asked : ℕ → ℕ → Asked
row_asked public row = public_asked 1 public row

-- a column below the one column: the bit of the table's field that has it, else 0
unfoldable pub row_bit : CycleRecord → RomRow → ℕ → Bool
row_bit r m c = column_bit (joined (table r m)) c

-- word k of columns that are bits: a column's low word is its bit, its high word 0
unfoldable pub bit_word : (ℕ → Bool) → ℕ → ℕ
bit_word bit k = cond (k % 2 == 0) (digit (bit (k / 2))) 0

abbrev pub row_word : (ℕ → Bool) → List ℕ → ℕ → ℕ
row_word bit public = batch_word 2048 (bit_word bit) public

-- all 4,096 elements, of two words each
unfoldable pub made_row : CycleRecord → RomRow → List ℕ → List ℕ
made_row r m public = from 0 ROW-WORDS (row_word (row_bit r m) public)

-- the call, with every slice as it is lent
unfoldable pub row_called : CycleRecord → RomRow → List ℕ → List ℕ → Called
row_called r m public row = after (row_asked (length public) (length row)) (made_row r m public) row
