-- `build_circuit_batched`: what a word of the listing stands for in cycle d of a batch; `unmap_row`: the way back from a batch row.
-- Assumes nothing.
use Rattle.std.specs.Prelude.{cond, ℕ, ◌+◌, ◌*◌, ◌/◌, ◌%◌, ltb, Err, Ok}
use Rattle.layout.specs.Batch.{allowed, mapped}
use Rattle.layout.specs.Questions.{no, Answer}
use Rattle.circuit.specs.declared.Relation.{Relation}
use Rattle.circuit.specs.declared.Coefficient.{Coefficient}
use Rattle.circuit.specs.declared.Side.{Side}
use Rattle.circuit.specs.declared.Word.{Word}
use Rattle.circuit.specs.declared.Word.TheVariants.{Mark, Term as OneTerm}
use Rattle.circuit.specs.declared.batch.BatchWord.{BatchWord}
use Rattle.circuit.specs.declared.batch.BatchWord.TheVariants.{Row, Term}
use Rattle.circuit.specs.Words.{clean_of, word_of}
use Rattle.circuit.specs.Found.{rows_a_cycle}
use Rattle.layout.specs.declared.questions.Question.TheVariants.{BatchSize, ColumnRange, CycleRange, MarkOrder, WordBits}
use Rattle.circuit.specs.declared.batch.CycleRow.{CycleRow}

-- each cycle has its rows and their padding: 512 · d + r in bin, 32 · d + r in fld
abbrev pub batch_row : Relation → ℕ → ℕ → ℕ
batch_row rel d r = rows_a_cycle rel * d + r

-- a mark's row fits its relation (9), and the cycle the batch (15)
unfoldable pub row_in : ℕ → ℕ → Relation → ℕ → Answer BatchWord
row_in cpi d rel r =
    cond (ltb r (rows_a_cycle rel))
    (cond (ltb d cpi) (Ok (Row rel (batch_row rel d r)))
    (Err (no CycleRange 0)))
    (Err (no MarkOrder 0))

-- a term stands on the batch column of its column
abbrev pub term_on : Side → Coefficient → Answer ℕ → Answer BatchWord
term_on side k (Ok c) = Ok (Term side k c)
term_on side k (Err r) = Err r

abbrev pub in_cycle : ℕ → ℕ → Word → Answer BatchWord
in_cycle cpi d (Mark rel r) = row_in cpi d rel r
in_cycle cpi d (OneTerm side k c) = term_on side k (mapped 4096 cpi c d)

-- questions 1, 7, 9 and 15; of one word the place is 0
unfoldable pub batched : ℕ → ℕ → ℕ → Answer BatchWord
batched cpi d w =
    cond (allowed cpi)
    (cond (clean_of w) (in_cycle cpi d (word_of w))
    (Err (no WordBits 0)))
    (Err (no BatchSize 0))

abbrev pub cycle_row : ℕ → ℕ → Answer CycleRow
cycle_row cycle row = Ok (record { cycle = cycle; row = row })

-- the cycle and the row of a batch row that the batch has: questions 1, 14
unfoldable pub unmapped_row : ℕ → Relation → ℕ → Answer CycleRow
unmapped_row cpi rel b =
    cond (allowed cpi)
    (cond (ltb b (rows_a_cycle rel * cpi)) (cycle_row (b / rows_a_cycle rel) (b % rows_a_cycle rel))
    (Err (no ColumnRange 0)))
    (Err (no BatchSize 0))
