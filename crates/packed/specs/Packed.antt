-- Packed words: 64 columns of a cycle a word, the lowest column in the lowest bit. In cycle order, column c of cycle d is bit c % 64 of
-- word 32 · d + c / 64.
-- Assumes nothing.
use Rattle.std.specs.Prelude.{ℕ, zero, suc, ◌+◌, ◌*◌, ◌/◌, ◌%◌, ◌^◌, Bool, true, cond, not, ◌&&◌, List, length, ◌==◌, nat_lt, slice_index, Err, Ok}
use Rattle.base.specs.Lists.{from}
use Rattle.field.specs.Gf.{is_bit}
use Rattle.layout.specs.declared.questions.Refusal.{Refusal}
use Rattle.layout.specs.Batch.{batch_asked}
use Rattle.layout.specs.Questions.{no, if_yes, Answer, Asked}
use Rattle.verdict.specs.Row.{element_at}
use Rattle.layout.specs.declared.questions.Question.TheVariants.{PackedLength}

-- n numbers one above the other, a bit apart: f o + 2 · f (o + 1) + 4 · f (o + 2) + ..
unfoldable pub stacked : (ℕ → ℕ) → ℕ → ℕ → ℕ
stacked f o zero = 0
stacked f o (suc n) = f o + 2 * stacked f (suc o) n

-- the low word of column c of cycle d
abbrev pub low_at : ℕ → List ℕ → ℕ → ℕ → ℕ
low_at cpi batch d c = slice_index batch (2 * (c * cpi + d))

-- word k of cycle d: columns 64 k to 64 k + 63. Of bits it is the word that they spell; of anything else a sum that wraps at 2^64
unfoldable pub packed_word : ℕ → List ℕ → ℕ → ℕ → ℕ
packed_word cpi batch d k = stacked (low_at cpi batch d) (64 * k) 64 % 2 ^ 64

-- the words that hold columns which rows name: 0 to 14, 16 and 17
abbrev pub named_word : ℕ → Bool
named_word k = nat_lt k 18 && not (k == 15)

-- 32 words a cycle; the other words stay as they came
abbrev pub packed_at : ℕ → List ℕ → List ℕ → ℕ → ℕ
packed_at cpi batch out x = cond (named_word (x % 32)) (packed_word cpi batch (x / 32) (x % 32)) (slice_index out x)

unfoldable pub packed_named : ℕ → List ℕ → List ℕ → List ℕ
packed_named cpi batch out = from 0 (length out) (packed_at cpi batch out)

-- are the n batch columns from x on bits?
unfoldable pub bits_from : List ℕ → ℕ → ℕ → Bool
bits_from batch x zero = true
bits_from batch x (suc n) = is_bit (element_at batch x) && bits_from batch (suc x) n

-- those of the named words, in every cycle: columns 0 to 959 and 1,024 to 1,151
unfoldable pub named_bits : ℕ → List ℕ → Bool
named_bits cpi batch = bits_from batch 0 (960 * cpi) && bits_from batch (1024 * cpi) (128 * cpi)

-- question 18, of the number of a packed slice's words
abbrev pub room_asked : ℕ → ℕ → Asked
room_asked cpi room = cond (room == 32 * cpi) (Ok tt) (Err (no PackedLength 0))

-- questions 1, 2 and 18: a batch of so many words, and room for so many
unfoldable pub pack_asked : ℕ → ℕ → ℕ → Asked
pack_asked cpi words room = if_yes Err (batch_asked cpi words) (room_asked cpi room)

-- the call: the answer, and the packed slice afterwards
pub record NamedCalled : Type 0 where
  pub answer : Answer Bool
  pub out : List ℕ

abbrev pub not_packed : List ℕ → Refusal → NamedCalled
not_packed out r = record { answer = Err r; out = out }

unfoldable pub named_called : ℕ → List ℕ → List ℕ → NamedCalled
named_called cpi batch out =
    if_yes (not_packed out) (pack_asked cpi (length batch) (length out))
    (record { answer = Ok (named_bits cpi batch); out = packed_named cpi batch out })
