-- A batch of two cycles, all zero but for column 65 of cycle 1, which is batch column 131: in batch order bit 3 of word 2 is set, in cycle
-- order bit 1 of word 33, and nothing else. With a 2 there instead, it is refused with 17.
-- Assumes nothing.
use Rattle.std.specs.Prelude.{◌≡◌, ℕ, ◌+◌, ◌*◌, ◌/◌, ◌%◌, Bool, true, false, cond, List, length, ◌==◌, ◌≢◌, nat_eq, slice_index, slice_index_or, refl, Err}
use Rattle.std.proofs.Math.Path.{sym}
use Rattle.std.proofs.Common.{ap, ◌∙◌, zero-add, arith, eq-eqb, ne_eqb}
use Rattle.std.proofs.Math.Decide.{ℕ_discrete, dec_lt}
use Rattle.std.proofs.Math.ListN.{get_or-eq_default}
use Rattle.base.specs.Lists.{from}
use Rattle.base.specs.Bits.{val}
use Rattle.base.specs.Laws.Cases.{no_true}
use Rattle.base.specs.Laws.From.{length_from, get_or-from}
use Rattle.field.specs.Gf.Laws.{low-words}
use Rattle.layout.specs.Questions.{no as refusal, after}
use Rattle.layout.specs.Batch.{allowed, batch_words}
use Rattle.layout.specs.Laws.Mapping.{witness-column}
use Rattle.layout.specs.Laws.Questions.{called-yes, called-no}
use Rattle.verdict.specs.Row.{element_at, as_bit}
use Rattle.packed.specs.Storage.{bit_in, words_with, packed, unpacked, in_batch, by_cycle, packed_by_cycle, lower_bits, store_asked, order_asked, pack_called, pack_cycles_called, to_cycles_called, to_batch_called}
use Rattle.packed.specs.Named.{NamedIn}
use Rattle.packed.specs.RoundTrips.{Left, Joins}
use Rattle.packed.specs.Laws.InWords.{with-length, with-bit, with-fit, same-words}
use Rattle.packed.specs.Laws.Named.{bits_each}
use Rattle.packed.proofs.Laws.StorageCalls.{yes-store, yes-order, columns-last, calls-kept}
use Rattle.layout.specs.declared.questions.Question.TheVariants.{LowerBits}

-- v in the low word of batch column 131
unfoldable pub lone : ℕ → List ℕ
lone v = from 0 (batch_words 2) (λ i. cond (i == 262) v 0)

-- words of which bit x alone is set
abbrev pub only : ℕ → List ℕ
only x = words_with (λ y. nat_eq y x) 64

pub record StorageExamples (out : List ℕ) : Type 0 where
  -- where the bit is
  pub batch-word : slice_index_or (only 131) 2 0 ≡ 8
  pub cycle-word : slice_index_or (only 2113) 33 0 ≡ 2
  pub other_word : slice_index_or (only 2113) 2 0 ≡ 0
  -- packed in batch order, and rearranged; packed straight in cycle order; and back
  pub packs : Left (pack_called 2 (lone 1) out) (only 131)
  pub to-cycles : Left (to_cycles_called 2 (only 131) out) (only 2113)
  pub straight : Left (pack_cycles_called 2 (lone 1) out) (only 2113)
  pub to-batch : Left (to_batch_called 2 (only 2113) out) (only 131)
  pub unpacks : (target : List ℕ) → length target ≡ batch_words 2 → Joins 2 (unpacked 2 (only 131) target) (lone 1) target
  -- no bit
  pub refused : pack_called 2 (lone 2) out ≡ record { answer = Err (refusal LowerBits 0); batch = out }
  pub refused-straight : pack_cycles_called 2 (lone 2) out ≡ record { answer = Err (refusal LowerBits 0); batch = out }

-- ---- the batch by its words and columns

lone-length : (v : ℕ) → length (lone v) ≡ batch_words 2
unfolding lone
lone-length v = length_from (λ i. cond (i == 262) v 0) (batch_words 2) 0

word_at : (v i : ℕ) → slice_index (lone v) i ≡ cond (i == 262) v 0
unfolding lone
word_at v i =
    elim (dec_lt i 16384) [
      | yes l ↦ get_or-from (λ i. cond (i == 262) v 0) 0 (batch_words 2) 0 i l ∙ ap (λ (j : ℕ). cond (j == 262) v 0) (zero-add i)
      | no l ↦
          get_or-eq_default (lone v) 0 (omega (arith, lone-length v))
          ∙ sym (ap (λ (t : Bool). cond t v 0) (ne_eqb i 262 (λ e. omega arith)))
    ]

column-word : (v : ℕ) → slice_index (lone v) 262 ≡ v
column-word v = word_at v 262

other-words : (v i : ℕ) → (i ≢ 262) → slice_index (lone v) i ≡ 0
other-words v i f = word_at v i ∙ ap (λ (t : Bool). cond t v 0) (ne_eqb i 262 f)

bits : lower_bits 2 (lone 1) ≡ true
bits =
    (bits_each (lone 1) 4096 0).1
    (λ x _ _. (
      elim (ℕ_discrete x 131) [
        | yes e ↦ omega (arith, ap (λ (n : ℕ). slice_index (lone 1) (2 * n)) e, column-word 1)
        | no f ↦ omega (arith, other-words 1 (2 * x) (λ e. f (omega arith)))
      ],
      omega (arith, other-words 1 (2 * x + 1) (λ e. omega arith)),
    ))

no_bits : lower_bits 2 (lone 2) ≡ false
no_bits =
    no_true (lower_bits 2 (lone 2))
    (λ e. omega (arith, ((bits_each (lone 2) 4096 0).0 e 131 (omega arith) (omega arith)).0, column-word 2))

column-bit : (x : ℕ) → as_bit (element_at (lone 1) x) ≡ (x == 131)
column-bit x =
    ap (λ (n : ℕ). nat_eq n 1) (low-words _ _)
    ∙ elim (ℕ_discrete x 131) [
      | yes e ↦ ap (λ (n : ℕ). nat_eq (slice_index (lone 1) (2 * n)) 1) e ∙ ap (λ (n : ℕ). nat_eq n 1) (column-word 1) ∙ sym (eq-eqb x 131 e)
      | no f ↦ ap (λ (n : ℕ). nat_eq n 1) (other-words 1 (2 * x) (λ e. f (omega arith))) ∙ sym (ne_eqb x 131 f)
    ]

packed-is : packed 2 (lone 1) ≡ only 131
unfolding packed
packed-is = same-words (λ x. as_bit (element_at (lone 1) x)) (λ x. nat_eq x 131) 64 (λ x _. column-bit x)

-- ---- the one bit in both orders

place : (y : ℕ) → in_batch 2 y ≡ y % 2048 * 2 + y / 2048
place y = witness-column 2 (y % 2048) (y / 2048) (omega arith)

by-cycle-is : by_cycle 2 (only 131) ≡ only 2113
unfolding by_cycle
by-cycle-is =
    same-words (λ y. bit_in (only 131) (in_batch 2 y)) (λ y. nat_eq y 2113) 64
    (λ y l.
    with-bit (λ x. nat_eq x 131) 64 (in_batch 2 y) (omega (arith, place y))
    ∙ elim (ℕ_discrete y 2113) [
      | yes e ↦ eq-eqb (in_batch 2 y) 131 (place y ∙ omega arith) ∙ sym (eq-eqb y 2113 e)
      | no f ↦ ne_eqb (in_batch 2 y) 131 (λ e. f (omega (arith, e, place y))) ∙ sym (ne_eqb y 2113 f)
    ])

size : allowed 2 ≡ true
unfolding allowed
size = refl

module _ (out : List ℕ) (room : length out ≡ 64) where
  lent : (v : ℕ) → NamedIn 2 (lone v) out
  lent v = record { size = size; words = lone-length v; room = room }

  packs : Left (pack_called 2 (lone 1) out) (only 131)
  unfolding pack_called
  packs =
      sym (called-yes (store_asked 2 (lone 1) (length out)) (packed 2 (lone 1)) out (only 131) (yes-store 2 (lone 1) out (lent 1) bits) (sym packed-is))

  to-cycles : Left (to_cycles_called 2 (only 131) out) (only 2113)
  unfolding to_cycles_called
  to-cycles =
      sym
      (called-yes (order_asked 2 (length (only 131)) (length out)) (by_cycle 2 (only 131)) out (only 2113)
      (yes-order 2 (length (only 131)) (length out) size (with-length _ 64) room) (sym by-cycle-is))

  refused : (made : List ℕ) → after (store_asked 2 (lone 2) (length out)) made out ≡ record { answer = Err (refusal LowerBits 0); batch = out }
  refused made = sym (called-no (store_asked 2 (lone 2) (length out)) (refusal LowerBits 0) made out (columns-last 2 (lone 2) out (lent 2) no_bits))

  pub storage-examples : StorageExamples out
  unfolding pack_called pack_cycles_called words_with from val
  storage-examples =
      record {
        batch-word = refl;
        cycle-word = refl;
        other_word = refl;
        packs = packs;
        to-cycles = to-cycles;
        straight = sym ((calls-kept 2).pack-rearrange (lone 1) out (only 131) out packs) ∙ to-cycles;
        to-batch = (calls-kept 2).cycles-batch (only 131) out (only 2113) out (with-fit (λ y. nat_eq y 131) 64) room to-cycles;
        unpacks = λ target s. ((calls-kept 2).pack-unpack (lone 1) out (only 131) target s packs).1;
        refused = refused (packed 2 (lone 2));
        refused-straight = refused (packed_by_cycle 2 (lone 2));
      }
