-- Packed storage of a batch (document 02, request 4): one bit a column below one_col, 64 to a word, 32 words a cycle. In batch order
-- bit x is batch column x; in cycle order bit 2,048 · d + c is column c of cycle d. From the one to the other the bits go by the
-- layout's mapping, and back by its way back.
-- Assumes nothing.
use Rattle.std.specs.Prelude.{ℕ, ◌+◌, ◌*◌, ◌/◌, ◌%◌, ◌^◌, ◌<◌, Bool, cond, List, length, ◌==◌, nat_lt, slice_index, Err, Ok}
use Rattle.base.specs.Lists.{from}
use Rattle.base.specs.Bits.{digit, word, bit_at}
use Rattle.layout.specs.Questions.{no, if_yes, Called, after, Asked}
use Rattle.layout.specs.Batch.{allowed, column_at}
use Rattle.verdict.specs.Row.{element_at, as_bit, bits_of}
use Rattle.packed.specs.Packed.{bits_from, room_asked, pack_asked}
use Rattle.layout.specs.declared.questions.Question.TheVariants.{BatchSize, LowerBits, PackedLength}

-- ---- bits in words of 64

-- bit x of packed words
unfoldable pub bit_in : List ℕ → ℕ → Bool
bit_in words x = bit_at (slice_index words (x / 64)) (x % 64)

-- n words whose bit x is f x
unfoldable pub words_with : (ℕ → Bool) → ℕ → List ℕ
words_with f n = from 0 n (λ k. word f (64 * k) 64)

-- words of 64 bits, as every slice of the code holds
abbrev pub Fit : List ℕ → Type 0
Fit words = (k : ℕ) → k < length words → slice_index words k < 2 ^ 64

-- ---- batch order

-- bit j of word k is batch column 64 k + j
unfoldable pub packed : ℕ → List ℕ → List ℕ
packed cpi batch = words_with (λ x. as_bit (element_at batch x)) (32 * cpi)

-- word i of a batch that words were unpacked into. Below one_col an element's low word is its bit, and its high word 0; from there on stands
-- what stood there
unfoldable pub unpacked_word : ℕ → List ℕ → List ℕ → ℕ → ℕ
unpacked_word cpi words batch i =
    cond (nat_lt i (4096 * cpi)) (cond (i % 2 == 0) (digit (bit_in words (i / 2))) 0) (slice_index batch i)

unfoldable pub unpacked : ℕ → List ℕ → List ℕ → List ℕ
unpacked cpi words batch = from 0 (length batch) (unpacked_word cpi words batch)

-- ---- cycle order

-- the place in batch order of bit y of cycle order, which is column y % 2048 of cycle y / 2048
abbrev pub in_batch : ℕ → ℕ → ℕ
in_batch cpi y = column_at cpi (y % 2048) (y / 2048)

-- the place in cycle order of bit x of batch order, which is column x / cpi of cycle x % cpi
abbrev pub in_cycles : ℕ → ℕ → ℕ
in_cycles cpi x = 2048 * (x % cpi) + x / cpi

-- words in batch order rearranged into cycle order, and the other way round
unfoldable pub by_cycle : ℕ → List ℕ → List ℕ
by_cycle cpi words = words_with (λ y. bit_in words (in_batch cpi y)) (32 * cpi)

unfoldable pub by_batch : ℕ → List ℕ → List ℕ
by_batch cpi words = words_with (λ x. bit_in words (in_cycles cpi x)) (32 * cpi)

-- a batch packed straight into cycle order
unfoldable pub packed_by_cycle : ℕ → List ℕ → List ℕ
packed_by_cycle cpi batch = words_with (λ y. bits_of cpi batch (y / 2048) (y % 2048)) (32 * cpi)

-- are all columns below one_col bits?
abbrev pub lower_bits : ℕ → List ℕ → Bool
lower_bits cpi batch = bits_from batch 0 (2048 * cpi)

-- ---- the calls: the answer, and as `Called`'s batch the slice that is written, packed or not

-- questions 1, 2, 18 and 17
unfoldable pub store_asked : ℕ → List ℕ → ℕ → Asked
store_asked cpi batch room =
    if_yes Err (pack_asked cpi (length batch) room) (cond (lower_bits cpi batch) (Ok tt) (Err (no LowerBits 0)))

unfoldable pub pack_called : ℕ → List ℕ → List ℕ → Called
pack_called cpi batch out = after (store_asked cpi batch (length out)) (packed cpi batch) out

unfoldable pub pack_cycles_called : ℕ → List ℕ → List ℕ → Called
pack_cycles_called cpi batch out = after (store_asked cpi batch (length out)) (packed_by_cycle cpi batch) out

-- questions 1, 2 and 18
unfoldable pub unpack_called : ℕ → List ℕ → List ℕ → Called
unpack_called cpi words batch = after (pack_asked cpi (length batch) (length words)) (unpacked cpi words batch) batch

-- questions 1 and 18, of the slice that is read and of the one that is written
unfoldable pub order_asked : ℕ → ℕ → ℕ → Asked
order_asked cpi read written = cond (allowed cpi) (cond (read == 32 * cpi) (room_asked cpi written) (Err (no PackedLength 0))) (Err (no BatchSize 0))

unfoldable pub to_cycles_called : ℕ → List ℕ → List ℕ → Called
to_cycles_called cpi words out = after (order_asked cpi (length words) (length out)) (by_cycle cpi words) out

unfoldable pub to_batch_called : ℕ → List ℕ → List ℕ → Called
to_batch_called cpi words out = after (order_asked cpi (length words) (length out)) (by_batch cpi words) out
