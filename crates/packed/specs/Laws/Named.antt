-- The packed words of the columns that rows name, and whether these are bits, from both ranges.
-- Assumes nothing.
use Rattle.std.specs.Prelude.{◌≡◌, ℕ, zero, suc, ◌+◌, ◌*◌, ◌/◌, ◌%◌, ◌^◌, ◌<◌, ◌≤◌, Bool, true, cond, not, ◌&&◌, ◌↔◌, List, length, ◌==◌, ◌≢◌, bit_or, slice_index, refl, Err, Ok}
use Rattle.std.proofs.Math.Path.{sym, ap, ap₂}
use Rattle.std.proofs.Common.{subst, ◌∙◌, ⊎_elim, eq-or-lt_of_le, mod-lt, div-add-mod', div-lt_iff_lt-mul, le-div_iff_mul-le, mul-le-mul_right, zero-add, zero-mul, add-mul, mul-div_cancel, arith, ext_get_or}
use Rattle.std.proofs.Math.Decide.{ℕ_discrete, dec_lt}
use borrow.Author.Tests.{lt-ltb, le-ltb, eqb-true, eq-eqb, ne_eqb}
use Rattle.std.proofs.Math.Arith.{digits_lt}
use Rattle.base.specs.Lists.{from}
use Rattle.base.specs.Laws.Cases.{no_true}
use Rattle.base.specs.Laws.Tests.{passed, refused, both}
use Rattle.base.specs.Laws.From.{length_from, get_or-from}
use Rattle.base.specs.Laws.Compared.{or-none}
use Rattle.field.specs.Gf.{is_bit}
use Rattle.layout.specs.Batch.{allowed, exponent_of, batch_words, batch_asked}
use Rattle.layout.specs.Questions.{no as refusal, Answer}
use Rattle.layout.specs.Laws.Questions.{answered, both_yes, if_yes_lem, if_no, batch-yes, yes-batch}
use Rattle.layout.specs.Laws.Sizes.{allowed-range}
use Rattle.layout.specs.Laws.Exponent.{shift-and-mask}
use Rattle.verdict.specs.Row.{element_at}
use Rattle.packed.specs.Packed.{pack_asked, NamedCalled, not_packed, named_called, packed_word, named_word, packed_at, packed_named, bits_from, named_bits}
use Rattle.packed.specs.Seen.{BitAt}
use Rattle.packed.specs.Columns.{BitsIn}
use Rattle.packed.specs.Ranges.{RangeIn, Ranged}
use Rattle.packed.specs.One.{InRow}
use Rattle.packed.specs.Named.{NamedIn, Named}
use Rattle.packed.specs.Laws.Seen.{bit-words-are}
use Rattle.packed.specs.Laws.One.{row-range}
use Rattle.layout.specs.declared.questions.Question.TheVariants.{PackedLength}

-- ---- the test of a stretch of batch columns, by column and cycle

pub bits_each : (batch : List ℕ) (n x : ℕ) → (bits_from batch x n ≡ true) ↔ ((y : ℕ) → x ≤ y → y < x + n → BitAt batch (2 * y))
unfolding bits_from
bits_each batch zero x = (λ _ y l m. absurd (omega arith), λ _. refl)
bits_each batch (suc n) x = (
  λ e y l m.
      let p = both (is_bit (element_at batch x)) (bits_from batch (suc x) n) e in
      ⊎_elim (λ q. subst (λ (k : ℕ). BitAt batch (2 * k)) q ((bit-words-are batch x).0 p.0))
      (λ k. (bits_each batch n (suc x)).0 p.1 y (omega arith) (omega arith))
      (eq-or-lt_of_le l),
  λ h.
      ap₂ ◌&&◌ ((bit-words-are batch x).1 (h x (omega arith) (omega arith)))
      ((bits_each batch n (suc x)).1 (λ y l m. h y (omega arith) (omega arith))),
)

pub bits_in : (cpi : ℕ) (batch : List ℕ) (o n : ℕ) → 0 < cpi → (bits_from batch (o * cpi) (n * cpi) ≡ true) ↔ BitsIn cpi batch o (o + n)
bits_in cpi batch o n some = (
  λ e c d l m k.
      (bits_each batch (n * cpi) (o * cpi)).0 e (c * cpi + d) (omega (arith, mul-le-mul_right {m = o} {n = c} cpi l))
      (omega (arith, digits_lt {q = c} {m = o + n} {r = d} {c = cpi} m k, sum)),
  λ h.
      (bits_each batch (n * cpi) (o * cpi)).1
      (λ y l m. subst (λ (k : ℕ). BitAt batch (2 * k)) (div-add-mod' y cpi)
      (h (y / cpi) (y % cpi) ((le-div_iff_mul-le some).1 l) ((div-lt_iff_lt-mul some).1 (omega (arith, m, sum))) (mod-lt y some))),
)
  where
    sum : (o + n) * cpi ≡ o * cpi + n * cpi
    sum = add-mul o n cpi

module _ (cpi : ℕ) (batch out : List ℕ) (h : NamedIn cpi batch out) where
  pub some-cycles : 0 < cpi
  some-cycles = (allowed-range cpi h.size).0

  -- the length holds two words for each of 4,096 columns of each cycle
  pub two-words : (k : ℕ) → k ≡ exponent_of cpi → length batch / 2 ^ k / 4096 ≡ 2
  two-words k e =
      ap (λ (n : ℕ). n / 4096) (ap (λ (i : ℕ). length batch / 2 ^ i) e ∙ (shift-and-mask cpi (length batch) h.size).0
      ∙ ap (λ (n : ℕ). n / cpi) h.words ∙ mul-div_cancel 8192 {n = cpi} some-cycles)

  pub range-in : (first last : ℕ) (now : List ℕ) → length now ≡ length out → first ≤ last → last ≤ 32 → RangeIn cpi batch first last now
  range-in first last now e l m =
      record { few = (allowed-range cpi h.size).1; words = h.words; order = l; inside = m; room = e ∙ h.room }

pub both-ranges : (cpi : ℕ) (batch before now after : List ℕ) (bad r : ℕ) → 0 < cpi
    → Ranged cpi batch 0 15 before now bad → Ranged cpi batch 16 18 now after r
    → Named cpi batch before after (bit_or bad r)
unfolding named_bits
both-ranges cpi batch before now after bad r some h g =
    record {
      lengths = g.lengths ∙ h.lengths;
      words = λ d k l m. words d k l m (dec_lt k 15) (dec_lt k 16) (dec_lt k 18);
      bits = (
        λ z. let p = (or-none bad r).0 z in ap₂ ◌&&◌ (low.1 (h.bits.0 p.0)) (high.1 (g.bits.0 p.1)),
        λ e.
            let p = both (bits_from batch 0 (960 * cpi)) (bits_from batch (1024 * cpi) (128 * cpi)) e in
            (or-none bad r).1 (h.bits.1 (low.0 p.0), g.bits.1 (high.0 p.1)),
      );
    }
  where
    low : (bits_from batch 0 (960 * cpi) ≡ true) ↔ BitsIn cpi batch 0 960
    low = subst (λ (x : ℕ). (bits_from batch x (960 * cpi) ≡ true) ↔ BitsIn cpi batch 0 960) (zero-mul cpi) (bits_in cpi batch 0 960 some)

    high : (bits_from batch (1024 * cpi) (128 * cpi) ≡ true) ↔ BitsIn cpi batch 1024 1152
    high = bits_in cpi batch 1024 128 some

    named : (k : ℕ) → k < 18 → (k ≢ 15) → named_word k ≡ true
    named k l f = ap₂ (λ (x y : Bool). x && not y) (lt-ltb k 18 l) (ne_eqb k 15 f)

    words : (d k : ℕ) → d < cpi → k < 32 → Dec (k < 15) → Dec (k < 16) → Dec (k < 18)
        → slice_index after (32 * d + k) ≡ cond (named_word k) (packed_word cpi batch d k) (slice_index before (32 * d + k))
    words d k l m (yes a) b c =
        g.left d k m (omega arith) ∙ h.here d k l (omega arith) a
        ∙ ap (λ (t : Bool). cond t (packed_word cpi batch d k) (slice_index before (32 * d + k))) (sym (named k (omega arith) (λ q. omega arith)))
    words d k l m (no a) (yes b) c =
        g.left d k m b ∙ h.right d k m (omega arith)
        ∙ ap (λ (t : Bool). cond t (packed_word cpi batch d k) (slice_index before (32 * d + k)))
        (sym (ap₂ (λ (x y : Bool). x && not y) (lt-ltb k 18 (omega arith)) (eq-eqb k 15 (omega arith))))
    words d k l m (no a) (no b) (yes c) =
        g.here d k l (omega arith) c
        ∙ ap (λ (t : Bool). cond t (packed_word cpi batch d k) (slice_index before (32 * d + k))) (sym (named k c (λ q. omega arith)))
    words d k l m (no a) (no b) (no c) =
        g.right d k m (omega arith) ∙ h.right d k m (omega arith)
        ∙ ap (λ (t : Bool). cond t (packed_word cpi batch d k) (slice_index before (32 * d + k)))
        (sym (ap (λ (x : Bool). x && not (k == 15)) (le-ltb k 18 (omega arith))))

-- of columns that stand one after the other
pub both-rows : (batch before now after : List ℕ) (bad r : ℕ) → InRow batch 0 15 before now bad → InRow batch 16 18 now after r
    → Named 1 batch before after (bit_or bad r)
both-rows batch before now after bad r h g =
    both-ranges 1 batch before now after bad r (omega arith) (row-range batch 0 15 before now bad (omega arith) h)
    (row-range batch 16 18 now after r (omega arith) g)

-- the slice as a whole
pub named-out : (cpi : ℕ) (batch before after : List ℕ) (bad : ℕ) → length before ≡ 32 * cpi → Named cpi batch before after bad
    → after ≡ packed_named cpi batch before
unfolding packed_named
named-out cpi batch before after bad s n =
    ext_get_or 0 after (from 0 (length before) (packed_at cpi batch before))
    (n.lengths ∙ sym (length_from (packed_at cpi batch before) (length before) 0))
    (λ i l.
    let e : 32 * (i / 32) + i % 32 ≡ i = omega arith in
    ap (λ (x : ℕ). slice_index after x) (sym e)
    ∙ n.words (i / 32) (i % 32) (omega (arith, n.lengths)) (omega arith)
    ∙ ap (λ (x : ℕ). cond (named_word (i % 32)) (packed_word cpi batch (i / 32) (i % 32)) (slice_index before x)) e
    ∙ ap (packed_at cpi batch before) (sym (zero-add i))
    ∙ sym (get_or-from (packed_at cpi batch before) 0 (length before) 0 i (omega (arith, n.lengths))))

-- a batch of one cycle
pub of_one_lem : {cpi : ℕ} {batch out : List ℕ} → cpi ≡ 1 → NamedIn cpi batch out → NamedIn 1 batch out
of_one_lem {batch = b} {out = o} e h = subst (λ (n : ℕ). NamedIn n b o) e h

pub one-named : {cpi bad : ℕ} {batch before after : List ℕ} → cpi ≡ 1 → Named 1 batch before after bad → Named cpi batch before after bad
one-named {bad = r} {batch = b} {before = p} {after = q} e h = subst (λ (n : ℕ). Named n b p q r) (sym e) h

-- ---- the call

module _ (cpi : ℕ) (batch out : List ℕ) where
  pub asked-yes-in : pack_asked cpi (length batch) (length out) ≡ Ok tt → NamedIn cpi batch out
  unfolding pack_asked
  asked-yes-in e =
      let y = both_yes (batch_asked cpi (length batch)) _ e in let b = batch-yes cpi (length batch) y.0 in
      let r = answered (length out == 32 * cpi) (Ok tt) (refusal PackedLength 0) y.1 in
      record { size = b.0; words = b.1; room = eqb-true (length out) (32 * cpi) r.0 }

  pub in-asked-yes : NamedIn cpi batch out → pack_asked cpi (length batch) (length out) ≡ Ok tt
  unfolding pack_asked
  in-asked-yes h =
      sym (passed _ _ _ (eq-eqb (length out) (32 * cpi) h.room) ∙ if_yes_lem Err _ (yes-batch cpi (length batch) h.size h.words))

  -- any other room is refused with 18, and what is there stays
  pub room-refused : allowed cpi ≡ true → length batch ≡ batch_words cpi → (length out ≢ 32 * cpi)
      → named_called cpi batch out ≡ record { answer = Err (refusal PackedLength 0); out = out }
  unfolding named_called pack_asked
  room-refused size words other =
      let first = if_yes_lem Err (cond (length out == 32 * cpi) (Ok tt) (Err (refusal PackedLength 0))) (yes-batch cpi (length batch) size words) in
      let asked = refused _ (Ok tt) (Err (refusal PackedLength 0)) (ne_eqb (length out) (32 * cpi) other) ∙ first in
      sym (if_no (not_packed out) (record { answer = Ok (named_bits cpi batch); out = packed_named cpi batch out }) (sym asked))

  pub none-bad : {after : List ℕ} (bad : ℕ) → Named cpi batch out after bad → (bad == 0) ≡ named_bits cpi batch
  none-bad bad n = go (ℕ_discrete bad 0)
    where
      go : Dec (bad ≡ 0) → (bad == 0) ≡ named_bits cpi batch
      go (yes e) = eq-eqb bad 0 e ∙ sym (n.bits.0 e)
      go (no f) = ne_eqb bad 0 f ∙ sym (no_true (named_bits cpi batch) (λ e. f (n.bits.1 e)))

  pub called-named : NamedIn cpi batch out → {after : List ℕ} {bad : ℕ} → Named cpi batch out after bad → {p : Answer Bool}
      → p ≡ Ok (bad == 0) → ◌≡◌ {A = NamedCalled} (record { answer = p; out = after }) (named_called cpi batch out)
  unfolding named_called
  called-named h {after} {bad} n e =
      ap₂ (λ (a : Answer Bool) (o : List ℕ). record { answer = a; out = o }) (e ∙ ap Ok (none-bad bad n))
      (named-out cpi batch out after bad h.room n) ∙ if_yes_lem (not_packed out) _ (in-asked-yes h)

  -- what the call says, read back where the questions are passed
  pub called_is : NamedIn cpi batch out → {a : Answer Bool} {after : List ℕ}
      → ◌≡◌ {A = NamedCalled} (record { answer = a; out = after }) (named_called cpi batch out)
      → (a ≡ Ok (named_bits cpi batch)) × (after ≡ packed_named cpi batch out)
  unfolding named_called
  called_is h e =
      let f = e ∙ sym (if_yes_lem (not_packed out) _ (in-asked-yes h)) in
      (ap (λ (q : NamedCalled). q.answer) f, ap (λ (q : NamedCalled). q.out) f)
