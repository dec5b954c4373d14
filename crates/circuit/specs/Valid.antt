-- Questions 6 to 10, asked of a listing first word first, and of each word in their order.
-- Assumes nothing.
use Rattle.std.specs.Prelude.{cond, List, [], ◌∷◌, ℕ, suc, ◌+◌, ◌*◌, ◌%◌, ◌^◌, eqb, leb, ltb, length, Result, Err, Ok}
use Rattle.layout.specs.Questions.{no, Asked}
use Rattle.circuit.specs.declared.questions.Progress.{Progress}
use Rattle.layout.specs.declared.questions.Question.{Question}
use Rattle.circuit.specs.Words.{kind_of, is_mark, flag_of, clean_of}
use Rattle.layout.specs.declared.questions.Question.TheVariants.{ListingLength, WordBits, FirstMark, MarkOrder, TermOrder}

-- a mark's place in the order of marks: bin before fld, and each by row
abbrev pub order_of : ℕ → ℕ
order_of w = flag_of w * 512 + w % 2 ^ 9

-- a word that is in order, and what is known behind it
abbrev pub go : ℕ → ℕ → Result Progress Question
go low kind = Ok (record { low = low; kind = kind })

-- 9: a mark comes after the one before, and a fld row is at most 31, which makes the largest place 543
unfoldable pub after_mark : ℕ → ℕ → Result Progress Question
after_mark low w =
    cond (ltb (order_of w) low) (Err MarkOrder)
    (cond (ltb 543 (order_of w)) (Err MarkOrder)
    (go (order_of w + 1) 0))

-- 8: a mark has come; 10: the kind is at least that of the term before it in its row
unfoldable pub after_term : ℕ → ℕ → ℕ → Result Progress Question
after_term low kind w =
    cond (eqb low 0) (Err FirstMark)
    (cond (ltb (kind_of w) kind) (Err TermOrder)
    (go low (kind_of w)))

-- 7: the must-be-zero bits are zero
unfoldable pub after_word : ℕ → ℕ → ℕ → Result Progress Question
after_word low kind w = cond (clean_of w) (cond (is_mark w) (after_mark low w) (after_term low kind w)) (Err WordBits)

-- a word that stops the asking refuses at its place i, and any other hands over what is known
abbrev pub onward : Result Progress Question → ℕ → (ℕ → ℕ → Asked) → Asked
onward (Ok p) i next = next p.low p.kind
onward (Err question) i next = Err (no question i)

unfoldable pub valid_from : ℕ → ℕ → ℕ → List ℕ → Asked
valid_from i low kind [] = Ok tt
valid_from i low kind (w ∷ ws) = onward (after_word low kind w) i (λ l k. valid_from (suc i) l k ws)

-- 6: at most 16,384 words
unfoldable pub validated : List ℕ → Asked
validated ws = cond (leb (length ws) 16384) (valid_from 0 0 0 ws) (Err (no ListingLength 0))
