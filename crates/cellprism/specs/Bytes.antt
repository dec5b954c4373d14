-- Reading the bytes of a row into its words.
-- Assumes nothing.
use Rattle.std.specs.Prelude.{cond, List, ℕ, eqb, length, Err, Ok}
use Rattle.layout.specs.Batch.{ROW-WORDS}
use Rattle.layout.specs.Questions.{no, Called, after, Asked}
use Rattle.layout.specs.declared.questions.Question.TheVariants.{BatchLength}
unfoldable pub use Rattle.packed.specs.Bytes.{number_of, words_of}
pub use Rattle.packed.specs.Bytes.{row_of}

-- question 2, of the bytes that are read and of the words that they are read into
abbrev pub read_asked : ℕ → ℕ → Asked
read_asked bytes words = cond (eqb bytes 65536) (cond (eqb words ROW-WORDS) (Ok tt) (Err (no BatchLength 0))) (Err (no BatchLength 0))

-- reading a row: its words, or, after a no, what was there
unfoldable pub read_called : List ℕ → List ℕ → Called
read_called bytes there = after (read_asked (length bytes) (length there)) (row_of bytes) there
