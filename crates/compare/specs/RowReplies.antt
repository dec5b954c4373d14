-- What the search for a row, the listing reader and the bench page answer, as numbers.
-- Assumes nothing.
use Rattle.std.specs.Prelude.{cond, List, [], ◌∷◌, ◌++◌, ℕ, ◌^◌, eqb, ltb, length, drop, Err, Ok}
use Rattle.layout.specs.Questions.{no, Answer}
use Rattle.circuit.specs.declared.Relation.{Relation}
use Rattle.circuit.specs.Valid.{validated}
use Rattle.circuit.specs.Found.{found, part_of, place_at}
use Rattle.circuit.specs.Reader.{admitted, position_after, row_read}
use Rattle.page.specs.Pages.{Laid}
use Rattle.compare.specs.declared.reader.TwoRows.{TwoRows}
use Rattle.compare.specs.Numbers.{one_of, refused_at, entry_of}
use Rattle.compare.specs.Replies.{Reply, reply, asked_number}
use Rattle.layout.specs.declared.questions.Question.TheVariants.{RowSought}
use Rattle.circuit.specs.declared.search.Place.{Place}

-- words are opened and asked for a row, and then for another: each is sought in all the words that the reader has, and of each
-- part word i is read
abbrev pub two_rows : List ℕ → Relation → ℕ → Relation → ℕ → ℕ → TwoRows
two_rows ws rel n rel' n' i = record {
  asked = validated ws;
  first = found (admitted (validated ws) ws) rel n;
  first_word = entry_of i (part_of (found (admitted (validated ws) ws) rel n) (admitted (validated ws) ws));
  between = position_after (found (admitted (validated ws) ws) rel n) 0;
  second = found (admitted (validated ws) ws) rel' n';
  second_word = entry_of i (part_of (found (admitted (validated ws) ws) rel' n') (admitted (validated ws) ws));
  last = position_after (found (admitted (validated ws) ws) rel' n') (position_after (found (admitted (validated ws) ws) rel n) 0);
}

-- where a row starts
abbrev pub start_number : Answer Place → ℕ
start_number (Ok place) = place.start
start_number (Err r) = refused_at r

-- the index just after its last word, 0 for a refusal
abbrev pub end_number : Answer Place → ℕ
end_number (Ok place) = place.end
end_number (Err r) = 0

-- part 0 is where a row starts, any other its end
abbrev pub found_number : ℕ → Answer Place → ℕ
found_number part f = one_of part (start_number f) (end_number f)

-- a row sought in any words for 0, else in words that are opened first
abbrev pub sought : ℕ → List ℕ → Relation → ℕ → Answer Place
sought opened ws rel n = cond (eqb opened 0) (found ws rel n) (row_read ws rel n)

-- any start and end for 0, else a refusal
abbrev pub chosen_place : ℕ → ℕ → ℕ → Answer Place
chosen_place refused start end = cond (eqb refused 0) (place_at start end) (Err (no RowSought 0))

-- eight words: of each row its start, its end, the word of its part, and the position afterwards
abbrev pub row_words : TwoRows → List ℕ
row_words t =
    start_number t.first
    ∷ end_number t.first
    ∷ t.first_word
    ∷ t.between
    ∷ start_number t.second
    ∷ end_number t.second
    ∷ t.second_word
    ∷ t.last
    ∷ []

-- what the opening answered, and the words over the first eight; with no room for eight nothing is asked, and the answer is 2^63
abbrev pub reader_reply : TwoRows → List ℕ → Reply
reader_reply t out = cond (ltb (length out) 8) (reply (2 ^ 63) out) (reply (asked_number t.asked) (row_words t ++ drop 8 out))

-- ---- the bench page

abbrev pub bytes_number : Answer ℕ → ℕ
bytes_number (Ok n) = n
bytes_number (Err r) = refused_at r

-- laid out: 0
abbrev pub page_reply : Laid → Reply
page_reply l = reply (asked_number l.answer) l.page
