-- Packed words laid out as elements, turn by turn, and the batch that they make.
-- Assumes nothing.
use Rattle.std.specs.Prelude.{◌≡◌, ℕ, ◌+◌, ◌-◌, ◌*◌, ◌/◌, ◌%◌, ◌^◌, ◌<◌, ◌≤◌, Bool, List, length, ◌≢◌, slice_index, slice_set, refl, Err, Ok}
use Rattle.std.proofs.Common.{sym, ap, ◌∙◌, zero-add, div-one, arith, lt-ltb, le-ltb, eq-eqb, ne_eqb, length-set, shr-shr, ext_get_or, get_or-set_same, get_or-set_other}
use Rattle.std.proofs.Math.Decide.{ℕ_discrete, dec_lt}
use Rattle.base.specs.Bits.{digit, bit_at}
use Rattle.base.specs.Lists.{from}
use Rattle.base.specs.Laws.Numbers.{digit-of}
use Rattle.base.specs.Laws.Tests.{passed, refused}
use Rattle.base.specs.Laws.From.{length_from, get_or-from}
use Rattle.layout.specs.declared.questions.Refusal.{Refusal}
use Rattle.layout.specs.Laws.Questions.{called-yes, called-no}
use Rattle.layout.specs.Laws.Sizes.{allowed-range}
use Rattle.packed.specs.Packed.{pack_asked}
use Rattle.packed.specs.Storage.{bit_in, unpacked_word, unpacked, unpack_called}
use Rattle.packed.specs.Unpack.{Laid, UnpackIn, Unpacked}
use Rattle.packed.specs.Laws.InWords.{bit_is}
use Rattle.packed.specs.Laws.Named.{asked-yes-in}

-- ---- a word, bit by bit

-- what is left of w after its lowest n bits
pub first_rest : (w : ℕ) → w ≡ w / 2 ^ 0
first_rest w = sym (div-one w)

pub next-rest : (w n rest : ℕ) → rest ≡ w / 2 ^ n → rest / 2 ≡ w / 2 ^ (n + 1)
next-rest w n rest e = ap (λ (r : ℕ). r / 2) e ∙ shr-shr w n 1

pub no-laid : (w at : ℕ) (batch : List ℕ) → Laid w at 0 batch batch
no-laid w at batch =
    record {
      lengths = refl;
      low = λ j l. absurd (omega arith);
      high = λ j l. absurd (omega arith);
      below = λ i l. refl;
      behind = λ i l. refl;
    }

pub next-laid : (w at n : ℕ) (before now : List ℕ) (rest : ℕ) → rest ≡ w / 2 ^ n → at + 2 * n + 1 < length before → Laid w at n before now
    → Laid w at (n + 1) before (slice_set (slice_set now (at + 2 * n) (rest % 2)) (at + 2 * n + 1) 0)
next-laid w at n before now rest e l h =
    record {
      lengths = length-set one (at + 2 * n + 1) 0 ∙ length-set now (at + 2 * n) (rest % 2) ∙ h.lengths;
      low = λ j m. low j m (ℕ_discrete j n);
      high = λ j m. high j m (ℕ_discrete j n);
      below = λ i m. other i (λ q. omega arith) (λ q. omega arith) ∙ h.below i m;
      behind = λ i m. other i (λ q. omega arith) (λ q. omega arith) ∙ h.behind i (omega arith);
    }
  where
    one : List ℕ
    one = slice_set now (at + 2 * n) (rest % 2)

    new : List ℕ
    new = slice_set one (at + 2 * n + 1) 0

    other : (i : ℕ) → (i ≢ at + 2 * n) → (i ≢ at + 2 * n + 1) → slice_index new i ≡ slice_index now i
    other i f g = get_or-set_other one (at + 2 * n + 1) i 0 0 g ∙ get_or-set_other now (at + 2 * n) i (rest % 2) 0 f

    low : (j : ℕ) → j < n + 1 → Dec (j ≡ n) → slice_index new (at + 2 * j) ≡ digit (bit_at w j)
    low j m (yes q) =
        ap (λ (x : ℕ). slice_index new (at + 2 * x)) q ∙ get_or-set_other one (at + 2 * n + 1) (at + 2 * n) 0 0 (λ z. omega arith)
        ∙ get_or-set_same now (at + 2 * n) (rest % 2) 0 (omega (arith, h.lengths))
        ∙ ap (λ (r : ℕ). r % 2) e ∙ digit-of (w / 2 ^ n % 2) (omega arith) ∙ ap (λ (x : ℕ). digit (bit_at w x)) (sym q)
    low j m (no f) = other (at + 2 * j) (λ q. f (omega arith)) (λ q. omega arith) ∙ h.low j (omega arith)

    high : (j : ℕ) → j < n + 1 → Dec (j ≡ n) → slice_index new (at + 2 * j + 1) ≡ 0
    high j m (yes q) =
        ap (λ (x : ℕ). slice_index new (at + 2 * x + 1)) q
        ∙ get_or-set_same one (at + 2 * n + 1) 0 0 (omega (arith, length-set now (at + 2 * n) (rest % 2), h.lengths))
    high j m (no f) = other (at + 2 * j + 1) (λ q. omega arith) (λ q. f (omega arith)) ∙ h.high j (omega arith)

pub all_laid : (w at n : ℕ) (before after : List ℕ) → n ≤ 64 → 64 ≤ n → Laid w at n before after → Laid w at 64 before after
all_laid w at n before after l m h = let e : n ≡ 64 = omega arith in rw (sym e) h

-- ---- word after word

pub none-unpacked : (words batch : List ℕ) → Unpacked words 0 batch batch
none-unpacked words batch =
    record { lengths = refl; low = λ x l. absurd (omega arith); high = λ x l. absurd (omega arith); behind = λ i l. refl }

pub next-unpacked : (words : List ℕ) (n : ℕ) (before now new : List ℕ) → Unpacked words n before now → Laid (slice_index words n) (128 * n) 64 now new
    → Unpacked words (n + 1) before new
next-unpacked words n before now new h g =
    record {
      lengths = g.lengths ∙ h.lengths;
      low = λ x l. low x l (dec_lt x (64 * n));
      high = λ x l. high x l (dec_lt x (64 * n));
      behind = λ i l. g.behind i (omega arith) ∙ h.behind i (omega arith);
    }
  where
    low : (x : ℕ) → x < 64 * (n + 1) → Dec (x < 64 * n) → slice_index new (2 * x) ≡ digit (bit_in words x)
    low x l (yes m) = g.below (2 * x) (omega arith) ∙ h.low x m
    low x l (no f) =
        let j = x - 64 * n in let e : 64 * n + j ≡ x = omega arith in
        ap (λ (i : ℕ). slice_index new i) (omega arith) ∙ g.low j (omega arith) ∙ ap (λ (b : Bool). digit b) (sym (bit_is words n j (omega arith)))
        ∙ ap (λ (y : ℕ). digit (bit_in words y)) e

    high : (x : ℕ) → x < 64 * (n + 1) → Dec (x < 64 * n) → slice_index new (2 * x + 1) ≡ 0
    high x l (yes m) = g.below (2 * x + 1) (omega arith) ∙ h.high x m
    high x l (no f) = ap (λ (i : ℕ). slice_index new i) (omega arith) ∙ g.high (x - 64 * n) (omega arith)

pub all-unpacked : (words : List ℕ) (n : ℕ) (before after : List ℕ) → n ≤ length words → length words ≤ n → Unpacked words n before after
    → Unpacked words (length words) before after
all-unpacked words n before after l m h = let e : n ≡ length words = omega arith in rw (sym e) h

-- the batch as a whole
unpacked-out : (cpi : ℕ) (words before after : List ℕ) → length words ≡ 32 * cpi → Unpacked words (length words) before after
    → after ≡ unpacked cpi words before
unfolding unpacked unpacked_word
unpacked-out cpi words before after s h =
    ext_get_or 0 after (from 0 (length before) (unpacked_word cpi words before))
    (h.lengths ∙ sym (length_from (unpacked_word cpi words before) (length before) 0))
    (λ i l. at i (dec_lt i (4096 * cpi)) (ℕ_discrete (i % 2) 0) ∙ ap (unpacked_word cpi words before) (sym (zero-add i))
    ∙ sym (get_or-from (unpacked_word cpi words before) 0 (length before) 0 i (omega (arith, h.lengths))))
  where
    at : (i : ℕ) → Dec (i < 4096 * cpi) → Dec (i % 2 ≡ 0) → slice_index after i ≡ unpacked_word cpi words before i
    at i (yes l) (yes e) =
        ap (λ (x : ℕ). slice_index after x) (omega arith) ∙ h.low (i / 2) (omega (arith, s))
        ∙ passed _ _ _ (eq-eqb (i % 2) 0 e) ∙ passed _ _ _ (lt-ltb i (4096 * cpi) l)
    at i (yes l) (no f) =
        ap (λ (x : ℕ). slice_index after x) (omega arith) ∙ h.high (i / 2) (omega (arith, s))
        ∙ refused _ _ _ (ne_eqb (i % 2) 0 f) ∙ passed _ _ _ (lt-ltb i (4096 * cpi) l)
    at i (no f) e = h.behind i (omega (arith, s)) ∙ refused _ _ _ (le-ltb i (4096 * cpi) (omega arith))

-- ---- the call

module _ (cpi : ℕ) (words batch : List ℕ) where
  pub unpack-in : pack_asked cpi (length batch) (length words) ≡ Ok tt → UnpackIn words batch
  unpack-in e =
      let h = asked-yes-in cpi batch words e in let few = (allowed-range cpi h.size).1 in
      record { few = omega (arith, h.words, few); inside = omega (arith, h.words, h.room) }

  pub unpack-none : (r : Refusal) → pack_asked cpi (length batch) (length words) ≡ Err r
      → record { answer = Err r; batch = batch } ≡ unpack_called cpi words batch
  unfolding unpack_called
  unpack-none r e = called-no (pack_asked cpi (length batch) (length words)) r (unpacked cpi words batch) batch e

  pub unpack-yes : (new : List ℕ) → pack_asked cpi (length batch) (length words) ≡ Ok tt → Unpacked words (length words) batch new
      → record { answer = Ok tt; batch = new } ≡ unpack_called cpi words batch
  unfolding unpack_called
  unpack-yes new e h =
      called-yes (pack_asked cpi (length batch) (length words)) (unpacked cpi words batch) batch new e
      (unpacked-out cpi words batch new (asked-yes-in cpi batch words e).room h)
