-- What the short way says yes to, the check accepts; of bits it says yes to nothing less.
-- Assumes nothing.
use Rattle.std.proofs.Math.Path.{◌≡◌, refl, ap, ap₂}
use Rattle.std.proofs.Common.{sym, subst, ◌∙◌, arith}
use Rattle.std.specs.Prelude.{◌↔◌, Bool, ◌&&◌, ℕ, zero, suc, ◌+◌, ◌*◌, ◌^◌, ◌≤◌, ◌<◌, get_or, take, replicate, Err, Ok}
use Rattle.std.proofs.Math.Bool.{true, false}
use Rattle.std.proofs.lemmas.Bool.{false≢true}
use mathlib.Core.List.{List, ◌∷◌}
use Rattle.std.proofs.Math.ListN.{length}
use Rattle.std.proofs.lemmas.List.{length-replicate}
use Rattle.base.specs.Laws.Cases.{no_true}
use Rattle.base.specs.Laws.Tests.{passed, both}
use Rattle.base.specs.Laws.From.{length_from}
use Rattle.field.specs.declared.Gf128.{Gf128}
use Rattle.field.specs.Gf.{one, same}
use Rattle.field.specs.Gf.Tests.{same_true, same_self}
use Rattle.layout.specs.declared.questions.Refusal.{Refusal}
use Rattle.layout.specs.Batch.{allowed, batch_words, batch_asked}
use Rattle.layout.specs.Laws.Questions.{if_yes_lem, batch-yes, yes-batch}
use Rattle.layout.specs.Laws.Sizes.{allowed-range}
use Rattle.circuit.specs.declared.Relation.{Relation}
use Rattle.circuit.specs.declared.Relation.TheVariants.{Bin, Fld}
use Rattle.circuit.specs.Valid.{validated}
use Rattle.strict.specs.declared.Known.{Known}
use Rattle.strict.specs.declared.Known.TheVariants.{House, Strict}
use Rattle.strict.specs.Known.{listing_of, rows_each}
use Rattle.strict.proofs.Laws.Known.{in_order}
use Rattle.verdict.specs.declared.Verdict.{Verdict}
use Rattle.verdict.specs.declared.Verdict.TheVariants.{Accepted}
use Rattle.verdict.specs.Row.{element_at}
use Rattle.verdict.specs.Counts.{every_row_of}
use Rattle.verdict.specs.Check.{Checked, after, asked, judged, checked, known_checked}
use Rattle.packed.specs.Packed.{NamedCalled, named_called, packed_at, packed_named, bits_from, named_bits}
use Rattle.packed.specs.Named.{NamedIn}
use Rattle.packed.specs.Laws.Named.{called_is, bits_each}
use Rattle.packed.specs.Laws.Seen.{bit-words-are}
use Rattle.packed.specs.Laws.Words.{packed-at, column-bit, packed-word}
use Rattle.judge.specs.Judged.{JudgedYes}
use Rattle.judge.specs.Words.{all_judged}
use Rattle.judge.specs.Judges.{OverBits}
use Rattle.judge.specs.Named.{NamedBits}
use Rattle.judge.specs.Short.{short_bits, is_yes, short_yes, ShortIn, ShortRow}
use Rattle.judge.specs.Laws.WordsSame.{packed-batch}
use Rattle.judge.specs.Laws.Named.{named-packed, judges-named, over-named}
use Rattle.layout.specs.Questions.{Answer, Asked}

-- ---- a yes

is-yes : (q : Asked) → is_yes q ≡ true → q ≡ Ok tt
is-yes (Ok _) e = refl
is-yes (Err r) e = absurd (false≢true e)

pub record Parts (k : Known) (cpi : ℕ) (batch : List ℕ) : Type 0 where
  pub asked : batch_asked cpi (length batch) ≡ Ok tt
  pub one-is : element_at batch (2048 * cpi) ≡ one
  pub bits : named_bits cpi batch ≡ true
  pub cycles : all_judged k (packed_named cpi batch (replicate (32 * cpi) 0)) (element_at batch (2048 * cpi + 1)) cpi 0 ≡ true

parts : (k : Known) (cpi : ℕ) (batch : List ℕ) → short_yes k cpi batch ≡ true → Parts k cpi batch
unfolding short_yes short_bits
parts k cpi batch e =
    let a = both _ _ e in let b = both _ _ a.1 in let c = both _ _ b.1 in
    record { asked = is-yes _ a.0; one-is = same_true _ _ b.0; bits = c.0; cycles = c.1 }

-- the cycles are judged from what is packed into zeros
packed-cycles : (k : Known) (cpi : ℕ) → 0 < cpi → (batch : List ℕ) → named_bits cpi batch ≡ true
    → (all_judged k (packed_named cpi batch (replicate (32 * cpi) 0)) (element_at batch (2048 * cpi + 1)) cpi 0 ≡ true) ↔ JudgedYes k cpi batch
packed-cycles k cpi some batch bits =
    packed-batch k cpi batch (packed_named cpi batch (replicate (32 * cpi) 0))
    (λ d i l t.
    packed-at cpi batch (replicate (32 * cpi) 0) (length-replicate (32 * cpi) 0) d i l t ∙ packed-word cpi some batch bits d l i t)

-- a word of the code has 64 bits
pub short-accepts : (k : Known) (cpi : ℕ) (batch : List ℕ) → ((i : ℕ) → get_or batch i 0 < 2 ^ 64) → short_yes k cpi batch ≡ true
    → judged cpi (listing_of k) batch ≡ Accepted (every_row_of k cpi)
short-accepts k cpi batch fit e = (judges-named k cpi size.0 batch named-bits).0 yes
  where
    p : Parts k cpi batch
    p = parts k cpi batch e

    size : (allowed cpi ≡ true) × (length batch ≡ batch_words cpi)
    size = batch-yes cpi (length batch) p.asked

    some : 0 < cpi
    some = (allowed-range cpi size.0).0

    named-bits : NamedBits cpi batch
    named-bits =
        record {
          words = size.1;
          fit = fit;
          bits = λ c d l n m. (bit-words-are batch (c * cpi + d)).1 (column-bit cpi some batch p.bits c d (named-packed c n l) m);
          one-is = p.one-is;
        }

    yes : JudgedYes k cpi batch
    yes = (packed-cycles k cpi some batch p.bits).0 p.cycles

-- ---- and nothing is missed: of named columns that are bits it says yes exactly where the check accepts

pub short-exactly : (k : Known) (cpi : ℕ) (batch : List ℕ) → allowed cpi ≡ true → NamedBits cpi batch → named_bits cpi batch ≡ true
    → (short_yes k cpi batch ≡ true) ↔ (judged cpi (listing_of k) batch ≡ Accepted (every_row_of k cpi))
unfolding short_yes short_bits
short-exactly k cpi batch size n bits = (
  short-accepts k cpi batch n.fit,
  λ a.
      ap₂ ◌&&◌ (ap is_yes (yes-batch cpi (length batch) size n.words))
      (ap₂ ◌&&◌ (ap (λ (x : Gf128). same x one) n.one-is ∙ same_self one)
      (ap₂ ◌&&◌ bits ((packed-cycles k cpi (allowed-range cpi size).0 batch bits).1 ((judges-named k cpi size batch n).1 a)))),
)

-- so over bits, whatever stands in columns that no row names
pub short-over : (k : Known) (cpi : ℕ) (batch : List ℕ) → allowed cpi ≡ true → OverBits cpi batch
    → (short_yes k cpi batch ≡ true) ↔ (judged cpi (listing_of k) batch ≡ Accepted (every_row_of k cpi))
unfolding named_bits
short-over k cpi batch size o =
    short-exactly k cpi batch size (over-named cpi batch o)
    (ap₂ ◌&&◌ (stretch 0 (960 * cpi) (omega arith)) (stretch (1024 * cpi) (128 * cpi) (omega arith)))
  where
    stretch : (x n : ℕ) → x + n ≤ 2048 * cpi → bits_from batch x n ≡ true
    stretch x n l = (bits_each batch n x).1 (λ y _ m. (bit-words-are batch y).0 (o.bits y (omega arith)))

-- ---- as the entries have it

module _ (k : Known) (cpi : ℕ) where
  pub known-short : (batch : List ℕ) → ((i : ℕ) → get_or batch i 0 < 2 ^ 64) → short_yes k cpi batch ≡ true
      → Ok (Accepted (every_row_of k cpi)) ≡ known_checked k cpi batch
  unfolding known_checked
  known-short batch fit e =
      ap Ok (sym (short-accepts k cpi batch fit e)) ∙ if_yes_lem Err _ (parts k cpi batch e).asked

  pub row-short : (listing batch scratch : List ℕ) → ((i : ℕ) → get_or batch i 0 < 2 ^ 64) → ShortRow k cpi listing batch (length scratch)
      → ◌≡◌ {A = Checked} (after (Ok tt) (Accepted (every_row_of k cpi)) scratch) (checked cpi listing batch scratch)
  unfolding checked asked
  row-short listing batch scratch fit h =
      ap (λ (v : Verdict). after (Ok tt) v scratch)
      (sym (short-accepts k cpi batch fit h.yes) ∙ ap (λ (ws : List ℕ). judged cpi ws batch) (sym h.known))
      ∙ ap (λ (q : Asked). after q (judged cpi listing batch) scratch)
      (sym (in_order k) ∙ ap validated (sym h.known) ∙ passed _ _ _ h.scratch ∙ if_yes_lem Err _ (parts k cpi batch h.yes).asked)

  -- a count fits in a word
  pub rows-room : (rel : Relation) → cpi ≤ 256 → rows_each k rel * cpi < 2 ^ 32
  rows-room rel l = go k rel
    where
      go : (j : Known) (rel : Relation) → rows_each j rel * cpi < 2 ^ 32
      go House Bin = omega arith
      go Strict Bin = omega arith
      go House Fld = omega arith
      go Strict Fld = omega arith

  pub short-few : (batch : List ℕ) → short_yes k cpi batch ≡ true → cpi ≤ 256
  short-few batch e = (allowed-range cpi (batch-yes cpi (length batch) (parts k cpi batch e).asked).0).1

-- ---- by what the packing answers

module _ (k : Known) (cpi : ℕ) (batch out : List ℕ) (h : NamedIn cpi batch out) where
  abbrev cycles : Bool
  cycles = all_judged k (packed_named cpi batch out) (element_at batch (2048 * cpi + 1)) cpi 0

  -- what the packing answered, and left in the slice
  abbrev Packs : Answer Bool → List ℕ → Type 0
  Packs a after = ◌≡◌ {A = NamedCalled} (record { answer = a; out = after }) (named_called cpi batch out)

  pub of-bits : {a : Answer Bool} {after : List ℕ} {x : Gf128} {r : Bool}
      → Packs a after → a ≡ Ok true → x ≡ element_at batch (2048 * cpi + 1) → r ≡ all_judged k after x cpi 0 → r ≡ short_bits k cpi batch out
  unfolding short_bits
  of-bits {after = after} {x = x} e b f j =
      let p = called_is cpi batch out h e in
      j ∙ ap₂ (λ (u : List ℕ) (y : Gf128). all_judged k u y cpi 0) p.1 f
      ∙ ap (λ (t : Bool). t && cycles) (sym (bits_are (sym p.0 ∙ b)))
    where
      bits_are : {t : Bool} → ◌≡◌ {A = Answer Bool} (Ok t) (Ok true) → t ≡ true
      bits_are e = cc e

  pub packed-room : {a : Answer Bool} {after : List ℕ} → Packs a after → length after ≡ 32 * cpi
  unfolding packed_named
  packed-room e = ap length (called_is cpi batch out h e).1 ∙ length_from (packed_at cpi batch out) (length out) 0 ∙ h.room

  -- anything else is a no
  pub not-of-bits : {a : Answer Bool} {after : List ℕ} → Packs a after → (a ≡ Ok true → ⊥) → false ≡ short_bits k cpi batch out
  unfolding short_bits
  not-of-bits e f =
      ap (λ (t : Bool). t && cycles) (sym (no_true (named_bits cpi batch) (λ q. f ((called_is cpi batch out h e).0 ∙ ap Ok q))))

pub not-bits : {a : Answer Bool} → a ≡ Ok false → a ≡ Ok true → ⊥
not-bits e f = let z : ◌≡◌ {A = ℕ} 0 1 = cc in omega arith

pub refused-bits : {a : Answer Bool} {r : Refusal} → a ≡ Err r → a ≡ Ok true → ⊥
refused-bits e f = let z : ◌≡◌ {A = ℕ} 0 1 = cc in omega arith

-- ---- the tests in their order

module _ (k : Known) (cpi : ℕ) (batch : List ℕ) where
  pub not-asked : {r : Refusal} → batch_asked cpi (length batch) ≡ Err r → false ≡ short_yes k cpi batch
  unfolding short_yes
  not-asked e = rw e

  pub no_one : batch_asked cpi (length batch) ≡ Ok tt → same (element_at batch (2048 * cpi)) one ≡ false → false ≡ short_yes k cpi batch
  unfolding short_yes
  no_one a e = rw (a, e)

  pub left-bits : batch_asked cpi (length batch) ≡ Ok tt → same (element_at batch (2048 * cpi)) one ≡ true
      → short_bits k cpi batch (replicate (32 * cpi) 0) ≡ short_yes k cpi batch
  unfolding short_yes
  left-bits a e = rw (a, e)

pub short-in : (cpi : ℕ) (batch : List ℕ) → batch_asked cpi (length batch) ≡ Ok tt → ShortIn cpi batch
short-in cpi batch e = let y = batch-yes cpi (length batch) e in record { size = y.0; words = y.1 }

-- a batch of one cycle
pub of_one_lem : {cpi : ℕ} {batch : List ℕ} → cpi ≡ 1 → ShortIn cpi batch → ShortIn 1 batch
of_one_lem {batch = b} e h = subst (λ (n : ℕ). ShortIn n b) e h

pub named_in : (cpi : ℕ) (batch : List ℕ) → ShortIn cpi batch → (out : List ℕ) → length out ≡ 32 * cpi → NamedIn cpi batch out
named_in cpi batch h out e = record { size = h.size; words = h.words; room = e }

pub in-range : (cpi : ℕ) (batch : List ℕ) → ShortIn cpi batch → cpi ≤ 256
in-range cpi batch h = (allowed-range cpi h.size).1

-- part of a slice of zeros
pub zeros-taken : (n m : ℕ) → n ≤ m → ◌≡◌ {A = List ℕ} (take n (replicate m 0)) (replicate n 0)
zeros-taken zero m l = refl
zeros-taken (suc n) zero l = absurd (omega arith)
zeros-taken (suc n) (suc m) l = ap {B = List ℕ} (λ (r : List ℕ). 0 ∷ r) (zeros-taken n m (omega arith))
