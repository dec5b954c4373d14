-- Document 01's questions. They are asked in order, as `cond test next refusal`: the first no ends the asking.
-- Assumes nothing.
use Rattle.std.specs.Prelude.{◌≡◌, List, ℕ, Result, Ok, Err}
use Rattle.layout.specs.declared.questions.Question.{Question}
use Rattle.layout.specs.declared.questions.Question.TheVariants.{BatchSize, BatchLength, PublicLength, CyclesLength, ScratchLength, ListingLength, WordBits, FirstMark, MarkOrder, TermOrder, GivenBits, OneColumn, RowSought, ColumnRange, CycleRange, PageLength, LowerBits, PackedLength, MergeSizes, PublicColumns}
use Rattle.layout.specs.declared.questions.Refusal.{Refusal}

-- the number of a question: document 01's, and from 16 on document 02's
abbrev pub number_of : Question → ℕ
number_of BatchSize = 1
number_of BatchLength = 2
number_of PublicLength = 3
number_of CyclesLength = 4
number_of ScratchLength = 5
number_of ListingLength = 6
number_of WordBits = 7
number_of FirstMark = 8
number_of MarkOrder = 9
number_of TermOrder = 10
number_of GivenBits = 11
number_of OneColumn = 12
number_of RowSought = 13
number_of ColumnRange = 14
number_of CycleRange = 15
number_of PageLength = 16
number_of LowerBits = 17
number_of PackedLength = 18
number_of MergeSizes = 19
number_of PublicColumns = 20

-- a no to a question, at a place
abbrev pub no : Question → ℕ → Refusal
no q p = record { question = q; place = p }

-- what is answered where every question is answered with yes, else the refusal
abbrev pub Answer : Type 0 → Type 0
Answer A = Result A Refusal

-- what a row of questions comes to
abbrev pub Asked : Type 0
Asked = Answer (Unit {0})

-- an answer of any kind after questions: it is given where all were answered with yes
abbrev pub if_yes : {A : Type 0} → (Refusal → A) → Asked → A → A
if_yes refuse (Ok _) answer = answer
if_yes refuse (Err r) answer = refuse r

-- the answer and the batch afterwards: a yes leaves what was made, a no what was there
pub record Called : Type 0 where
  pub answer : Asked
  pub batch : List ℕ

abbrev pub after : Asked → List ℕ → List ℕ → Called
after (Ok _) made there = record { answer = Ok tt; batch = made }
after (Err r) made there = record { answer = Err r; batch = there }

-- a call that was answered with yes, and what it left
abbrev pub Left : Called → List ℕ → Type 0
Left call made = call ≡ record { answer = Ok tt; batch = made }
