-- Packed storage keeps what it is given, for every batch size: words are told by their bits, and bits go by the mapping and back.
-- Assumes nothing.
use Rattle.std.specs.Prelude.{◌≡◌, ℕ, ◌+◌, ◌*◌, ◌/◌, ◌%◌, ◌<◌, ◌≤◌, Bool, true, false, cond, List, length, ◌==◌, nat_eq, slice_index, refl}
use Rattle.std.proofs.Math.Path.{sym, ap, ap₂}
use Rattle.std.proofs.Common.{◌∙◌, zero-add, arith, lt-ltb, le-ltb}
use Rattle.std.proofs.Math.Decide.{dec_lt}
use Rattle.std.proofs.Math.ListN.{get_or-eq_default}
use Rattle.base.specs.Bits.{digit}
use Rattle.base.specs.Laws.Tests.{passed, refused}
use Rattle.base.specs.Laws.Values.{digit_lt, val_same}
use Rattle.base.specs.Laws.From.{length_from, get_or-from}
use Rattle.field.specs.Gf.{of_words}
use Rattle.field.specs.Gf.Laws.{low-words}
use Rattle.layout.specs.Batch.{allowed, batch_words}
use Rattle.layout.specs.Laws.Sizes.{allowed-range}
use Rattle.verdict.specs.Row.{element_at, as_bit, cycle_of, bits_of}
use Rattle.packed.specs.Packed.{named_word, packed_named, named_bits}
use Rattle.packed.specs.Storage.{bit_in, Fit, packed, unpacked_word, unpacked, in_batch, in_cycles, by_cycle, by_batch, packed_by_cycle, lower_bits}
use Rattle.packed.specs.RoundTrips.{Joins, Kept}
use Rattle.packed.specs.Laws.InWords.{bit_is, with-word, with-bit, same-words, of-bits}
use Rattle.packed.specs.Laws.Places.{in-batch-lt, in-cycles-lt, cycles-of-batch, batch-of-cycles}
use Rattle.packed.specs.Laws.Seen.{as-digit}
use Rattle.packed.specs.Laws.Named.{bits_each}
use Rattle.packed.specs.Laws.Words.{named-range, packed-at, packed-word}

-- ---- bit x of what is packed or rearranged

packed-bit : (cpi : ℕ) (batch : List ℕ) (x : ℕ) → x < 2048 * cpi → bit_in (packed cpi batch) x ≡ as_bit (element_at batch x)
unfolding packed
packed-bit cpi batch x l = with-bit (λ (x : ℕ). as_bit (element_at batch x)) (32 * cpi) x (omega arith)

by-cycle-bit : (cpi : ℕ) (words : List ℕ) (y : ℕ) → y < 2048 * cpi → bit_in (by_cycle cpi words) y ≡ bit_in words (in_batch cpi y)
unfolding by_cycle
by-cycle-bit cpi words y l = with-bit (λ (y : ℕ). bit_in words (in_batch cpi y)) (32 * cpi) y (omega arith)

by-batch-bit : (cpi : ℕ) (words : List ℕ) (x : ℕ) → x < 2048 * cpi → bit_in (by_batch cpi words) x ≡ bit_in words (in_cycles cpi x)
unfolding by_batch
by-batch-bit cpi words x l = with-bit (λ (x : ℕ). bit_in words (in_cycles cpi x)) (32 * cpi) x (omega arith)

-- ---- a batch that words were unpacked into

module _ (cpi : ℕ) (words batch : List ℕ) where
  pub unpacked-length : length (unpacked cpi words batch) ≡ length batch
  unfolding unpacked
  unpacked-length = length_from (unpacked_word cpi words batch) (length batch) 0

  word_at : (i : ℕ) → i < length batch → slice_index (unpacked cpi words batch) i ≡ unpacked_word cpi words batch i
  unfolding unpacked
  word_at i l = get_or-from (unpacked_word cpi words batch) 0 (length batch) 0 i l ∙ ap (unpacked_word cpi words batch) (zero-add i)

  module _ (s : length batch ≡ batch_words cpi) where
    low-at : (x : ℕ) → x < 2048 * cpi → slice_index (unpacked cpi words batch) (2 * x) ≡ digit (bit_in words x)
    unfolding unpacked_word
    low-at x l =
        word_at (2 * x) (omega arith) ∙ sym (passed _ _ _ (lt-ltb (2 * x) (4096 * cpi) (omega arith)))
        ∙ ap₂ (λ (r q : ℕ). cond (r == 0) (digit (bit_in words q)) 0) {x = 2 * x % 2} {y = 0} (omega arith) (omega arith)

    high-at : (x : ℕ) → x < 2048 * cpi → slice_index (unpacked cpi words batch) (2 * x + 1) ≡ 0
    unfolding unpacked_word
    high-at x l =
        word_at (2 * x + 1) (omega arith) ∙ sym (passed _ _ _ (lt-ltb (2 * x + 1) (4096 * cpi) (omega arith)))
        ∙ ap (λ (r : ℕ). cond (r == 0) (digit (bit_in words ((2 * x + 1) / 2))) 0) {x = (2 * x + 1) % 2} {y = 1} (omega arith)

    -- its lower columns are bits
    pub unpacked-bits : lower_bits cpi (unpacked cpi words batch) ≡ true
    unpacked-bits =
        (bits_each (unpacked cpi words batch) (2048 * cpi) 0).1
        (λ x l m. let n : x < 2048 * cpi = omega arith in (omega (arith, low-at x n, digit_lt (bit_in words x)), omega (arith, high-at x n)))

  public-at : (i : ℕ) → 4096 * cpi ≤ i → slice_index (unpacked cpi words batch) i ≡ slice_index batch i
  unfolding unpacked_word
  public-at i l =
      elim (dec_lt i (length batch)) [
        | yes m ↦ word_at i m ∙ sym (refused _ _ _ (le-ltb i (4096 * cpi) l))
        | no m ↦
            get_or-eq_default (unpacked cpi words batch) 0 (omega (arith, unpacked-length))
            ∙ sym (get_or-eq_default batch 0 (omega arith))
      ]

-- the words of a column that is a bit
bit-words : (batch : List ℕ) (x : ℕ) (n : ℕ) → lower_bits n batch ≡ true → x < 2048 * n
    → (slice_index batch (2 * x) ≡ digit (as_bit (element_at batch x))) × (slice_index batch (2 * x + 1) ≡ 0)
bit-words batch x n e l =
    let b = (bits_each batch (2048 * n) 0).0 e x (omega arith) (omega arith) in
    (as-digit (slice_index batch (2 * x)) b.0 ∙ ap (λ (k : ℕ). digit (k == 1)) (sym (low-words _ _)), omega (arith, b.1))

digit-bit : (b : Bool) → (digit b == 1) ≡ b
digit-bit true = refl
digit-bit false = refl

-- ---- the round trips

module _ (cpi : ℕ) (ok : allowed cpi ≡ true) where
  joined : (batch target : List ℕ) → lower_bits cpi batch ≡ true → length target ≡ batch_words cpi
      → Joins cpi (unpacked cpi (packed cpi batch) target) batch target
  joined batch target b s =
      let words = packed cpi batch in
      record {
        lengths = unpacked-length cpi words target;
        below = λ x l. let w = bit-words batch x cpi b l in
            ap₂ of_words (low-at cpi words target s x l ∙ ap (λ (t : Bool). digit t) (packed-bit cpi batch x l) ∙ sym w.0)
            (high-at cpi words target s x l ∙ sym w.1);
        from_one = λ x l. ap₂ of_words (public-at cpi words target (2 * x) (omega arith)) (public-at cpi words target (2 * x + 1) (omega arith));
      }

  words-again : (words batch : List ℕ) → length words ≡ 32 * cpi → Fit words → length batch ≡ batch_words cpi
      → packed cpi (unpacked cpi words batch) ≡ words
  unfolding packed
  words-again words batch e h s =
      same-words (λ x. as_bit (element_at (unpacked cpi words batch) x)) (bit_in words) (32 * cpi)
      (λ x l. ap (λ (n : ℕ). nat_eq n 1) (low-words _ _ ∙ low-at cpi words batch s x (omega arith)) ∙ digit-bit (bit_in words x))
      ∙ of-bits words (32 * cpi) e h

  named-words : (batch out : List ℕ) → length out ≡ 32 * cpi → named_bits cpi batch ≡ true → (d k : ℕ) → d < cpi → named_word k ≡ true
      → slice_index (packed_named cpi batch out) (32 * d + k) ≡ slice_index (packed_by_cycle cpi batch) (32 * d + k)
  unfolding packed_by_cycle
  named-words batch out room b d k l e =
      let inside = (named-range k e).0 in
      packed-at cpi batch out room d k l e ∙ packed-word cpi (allowed-range cpi ok).0 batch b d l k e
      ∙ val_same _ _ 64 (λ i m. ap₂ (bits_of cpi batch) (omega arith) (omega arith))
      ∙ sym (with-word (λ (y : ℕ). bits_of cpi batch (y / 2048) (y % 2048)) (32 * cpi) (32 * d + k) (omega arith))

  pub kept : Kept cpi
  unfolding by_batch by_cycle packed_by_cycle bits_of cycle_of
  kept =
      record {
        batch-order = λ batch k j l m. sym (bit_is (packed cpi batch) k j m) ∙ packed-bit cpi batch (64 * k + j) (omega arith);
        unpacked-packed = joined;
        packed-unpacked = words-again;
        batch-again = λ words e h.
            same-words _ (bit_in words) (32 * cpi)
            (λ x l. by-cycle-bit cpi words (in_cycles cpi x) (in-cycles-lt cpi ok x (omega arith))
            ∙ ap (bit_in words) (batch-of-cycles cpi ok x (omega arith)))
            ∙ of-bits words (32 * cpi) e h;
        cycles-again = λ words e h.
            same-words _ (bit_in words) (32 * cpi)
            (λ y l. by-batch-bit cpi words (in_batch cpi y) (in-batch-lt cpi ok y (omega arith))
            ∙ ap (bit_in words) (cycles-of-batch cpi ok y (omega arith)))
            ∙ of-bits words (32 * cpi) e h;
        straight = λ batch.
            same-words _ _ (32 * cpi) (λ y l. sym (packed-bit cpi batch (in_batch cpi y) (in-batch-lt cpi ok y (omega arith))));
        column-at = λ batch c d hc hd.
            with-bit (λ (y : ℕ). bits_of cpi batch (y / 2048) (y % 2048)) (32 * cpi) (2048 * d + c) (omega arith)
            ∙ ap₂ (bits_of cpi batch) (omega arith) (omega arith);
        named = named-words;
      }
