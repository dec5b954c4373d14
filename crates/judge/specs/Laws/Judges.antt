-- Over bits, every cycle is judged with yes exactly when the check accepts, over the house listing and over the strict one.
-- Assumes nothing.
use Rattle.std.specs.Prelude.{◌≡◌, refl, ◌↔◌, Bool, true, List, ℕ, ◌+◌, ◌*◌, ◌/◌, ◌%◌, ◌^◌, ◌≤◌, ◌<◌, eqb, length, get_or}
use Rattle.std.proofs.Math.Path.{sym, ap}
use Rattle.std.proofs.Common.{subst, ◌∙◌, mod-lt, div-add-mod', div-lt_iff_lt-mul, arith}
use Rattle.std.proofs.Math.Decide.{dec_lt}
use Rattle.std.proofs.Math.Arith.{digits_lt}
use Rattle.base.specs.Lists.{All}
use Rattle.base.specs.Laws.Values.{digit_lt}
use Rattle.field.specs.declared.Gf128.{Gf128}
use Rattle.field.specs.Gf.{one, low, is_bit, odd, of_bit}
use Rattle.field.specs.Gf.Tests.{is_bit-true}
use Rattle.field.specs.Gf.Bits.{as-bit, bit-words}
use Rattle.field.specs.Gf.Laws.{words-injective}
use Rattle.layout.specs.Columns.{ONE-COL}
use Rattle.layout.specs.Batch.{allowed, batch_words}
use Rattle.layout.specs.Laws.Sizes.{allowed-range}
use Rattle.layout.specs.Laws.Mapping.{witness-column}
use Rattle.strict.specs.declared.Known.{Known}
use Rattle.strict.specs.Known.{listing_of, further_rows}
use Rattle.verdict.specs.declared.Verdict.TheVariants.{Accepted}
use Rattle.verdict.specs.Row.{element_at, cycle_of, holds, bits_of}
use Rattle.verdict.specs.Counts.{every_row_of}
use Rattle.verdict.specs.Check.{judged}
use Rattle.verdict.specs.Laws.Known.{every-known}
use Rattle.verdict.specs.Laws.Verdicts.{EveryRowHolds}
use Rattle.step.specs.Step.{Step}
use Rattle.step.specs.Strict.{ConditionsOf}
use Rattle.step.specs.Derived.{derived}
use Rattle.step.specs.Solve.{Holds}
use Rattle.step.specs.Determining.{determining, filled_bits}
use Rattle.step.specs.Filling.{SameElsewhere, filling, filler_bits, filled}
use Rattle.step.specs.Demand3.{Premises}
use Rattle.step.proofs.Laws.Derived.{derived-below}
use Rattle.step.proofs.Laws.Determining.{filled-only}
use Rattle.step.proofs.Laws.FillingElements.{each_word, is-filling}
use Rattle.step.proofs.Laws.Cycle.{OfBits, all-bin}
use Rattle.step.proofs.Laws.Batch.{RowsHold, one_bit, of-bits, split, is-filled, rows-or-conditions}
use Rattle.step.proofs.Laws.Listings.{cycle-rows, listed}
use Rattle.step.proofs.Laws.Strict.{meaning}
use Rattle.judge.specs.Judged.{judged_cycle, JudgedYes}
use Rattle.judge.specs.Judges.{OverBits}
use Rattle.judge.specs.Laws.Exactly.{judged-exactly}
use Rattle.verdict.specs.Laws.Verdicts as verdicts

-- the words of bits fit, and so do others' words where elements are the same
bits_fit : (cpi : ℕ) (u w : List ℕ) → ((x : ℕ) → x < 2048 * cpi → is_bit (element_at u x) ≡ true)
    → ((x : ℕ) → 2048 * cpi ≤ x → element_at u x ≡ element_at w x) → ((i : ℕ) → get_or w i 0 < 2 ^ 64) → (i : ℕ) → get_or u i 0 < 2 ^ 64
bits_fit cpi u w bits same fit = each_word (λ (i : ℕ). get_or u i 0 < 2 ^ 64) (λ x. go x (dec_lt x (2048 * cpi)))
  where
    go : (x : ℕ) → Dec (x < 2048 * cpi) → (get_or u (2 * x) 0 < 2 ^ 64) × (get_or u (2 * x + 1) 0 < 2 ^ 64)
    go x (yes l) =
        let b = odd (element_at u x) in let e = words-injective _ _ _ _ (is_bit-true (element_at u x) (bits x l) ∙ sym (bit-words b)) in
        (omega (arith, e.0, digit_lt b), omega (arith, e.1))
    go x (no f) =
        let e = words-injective _ _ _ _ (same x (omega arith)) in (omega (arith, e.0, fit (2 * x)), omega (arith, e.1, fit (2 * x + 1)))

-- bits below the one column, and the rest as in a batch whose words fit
pub bits-over : (cpi : ℕ) (u w : List ℕ) → length u ≡ batch_words cpi → ((x : ℕ) → x < 2048 * cpi → is_bit (element_at u x) ≡ true)
    → ((x : ℕ) → 2048 * cpi ≤ x → element_at u x ≡ element_at w x) → ((i : ℕ) → get_or w i 0 < 2 ^ 64) → element_at w (2048 * cpi) ≡ one
    → OverBits cpi u
bits-over cpi u w words bits same fit one-is =
    record { words = words; fit = bits_fit cpi u w bits same fit; bits = bits; one-is = same (2048 * cpi) (omega arith) ∙ one-is }

module _ (k : Known) (cpi : ℕ) (size : allowed cpi ≡ true) (batch : List ℕ) (o : OverBits cpi batch) where
  some : 0 < cpi
  some = (allowed-range cpi size).0

  -- its own bits
  abbrev v : ℕ → Bool
  v x = eqb (low (element_at batch x)) 1

  is-bit : (x : ℕ) → x < 2048 * cpi → element_at batch x ≡ of_bit (v x)
  is-bit x l = as-bit (odd (element_at batch x)) (is_bit-true (element_at batch x) (o.bits x l))

  premises : Premises cpi batch
  unfolding cycle_of
  premises =
      record {
        words = o.words;
        fit = o.fit;
        given = λ c d l h e. ap (λ (x : ℕ). is_bit (element_at batch x)) (witness-column cpi c d l) ∙ o.bits (c * cpi + d) (digits_lt l h);
        one-is = o.one-is;
      }

  itself : SameElsewhere cpi batch batch
  itself = record { lengths = refl; elements = λ x n. refl }

  abbrev pub bits : ℕ → ℕ → Bool
  bits d = bits_of cpi batch d

  abbrev output : ℕ → Gf128
  output d = cycle_of cpi batch d (ONE-COL + 1)

  abbrev DerivedFilled : ℕ → Type 0
  DerivedFilled d = (c : ℕ) → derived c ≡ true → bits d c ≡ filled_bits (bits d) c

  exactly : (d : ℕ) → d < cpi → (judged_cycle k (bits d) (output d) ≡ true) ↔ (ConditionsOf k (bits d) (output d) × DerivedFilled d)
  exactly d l = judged-exactly cpi batch o.words d l (one_bit cpi some batch premises d) k (output d)

  -- it is a filling, with its own bits
  own : batch ≡ filling cpi v batch
  own = is-filling cpi v batch batch o.words itself (λ x l e. is-bit x l)

  -- ---- the rows that the listing adds, and what they say

  abbrev Further : ℕ → Type 0
  Further d = All (λ s. holds (cycle_of cpi batch d) s ≡ true) (further_rows k)

  conditions-are : (d : ℕ) → d < cpi → ConditionsOf k (bits d) (output d) ↔ (Step (bits d) (output d) × Further d)
  conditions-are d l =
      let of = subst (λ (u : List ℕ). OfBits (cycle_of cpi u d) (bits_of cpi u d)) (sym own) (of-bits cpi some batch premises v d l) in
      let over = all-bin (cycle_of cpi batch d) (bits d) of (further_rows k) (listed k).over-bits in
      let m = meaning k (bits d) (output d) (one_bit cpi some batch premises d) in
      (λ c. let s = m.0 c in (s.0, over.1 s.1), λ s. m.1 (s.0, over.0 s.1))

  -- ---- judged with yes, it is its own filling, and the rows hold of what meets the conditions

  at-column : (x : ℕ) → x < 2048 * cpi → v x ≡ bits (x % cpi) (x / cpi)
  unfolding bits_of cycle_of
  at-column x l =
      ap v (sym (div-add-mod' x cpi) ∙ sym (witness-column cpi (x / cpi) (x % cpi) ((div-lt_iff_lt-mul some).1 l)))

  own-filling : ((d : ℕ) → d < cpi → DerivedFilled d) → batch ≡ filled cpi batch
  unfolding filled
  own-filling h =
      is-filling cpi (filler_bits cpi batch) batch batch o.words itself
      (λ x l e. is-bit x l ∙ ap (λ (b : Bool). of_bit b) (at-column x l ∙ h (x % cpi) (mod-lt x some) (x / cpi) e))

  yes-accepts : JudgedYes k cpi batch → judged cpi (listing_of k) batch ≡ Accepted (every_row_of k cpi)
  yes-accepts y =
      let e = own-filling (λ d l. ((exactly d l).0 (y d l)).1) in
      verdicts.accepts cpi (listing_of k) batch
      (λ d l. let met = (conditions-are d l).0 ((exactly d l).0 (y d l)).0 in
      (cycle-rows (listing_of k) (further_rows k) (listed k) (cycle_of cpi batch d)).1 (
        subst (λ (u : List ℕ). RowsHold (cycle_of cpi u d)) (sym e) ((rows-or-conditions cpi some batch premises d l).1 met.0),
        met.1,
      ))
      ∙ ap Accepted (every-known k cpi)

  -- ---- and back: where every row holds, the determining rows do

  module _ (h : EveryRowHolds cpi (listing_of k) batch) where
    all-rows : (d : ℕ) → d < cpi → RowsHold (cycle_of cpi batch d) × Further d
    all-rows d l = (cycle-rows (listing_of k) (further_rows k) (listed k) (cycle_of cpi batch d)).0 (h d l)

    rows-hold : (d : ℕ) → d < cpi → RowsHold (cycle_of cpi batch d)
    rows-hold d l = (all-rows d l).0

    determined : (d : ℕ) → d < cpi → All (Holds (bits_of cpi (filling cpi v batch) d)) determining
    determined d l = (split cpi some batch premises v d l (subst (λ (u : List ℕ). RowsHold (cycle_of cpi u d)) own (rows-hold d l))).0

    derived-filled : (d : ℕ) → d < cpi → DerivedFilled d
    derived-filled d l c e =
        filled-only (bits d) (one_bit cpi some batch premises d) (bits d) (λ c _. refl)
        (subst (λ (u : List ℕ). All (Holds (bits_of cpi u d)) determining) (sym own) (determined d l)) c (derived-below c e)

    meets : (d : ℕ) → d < cpi → Step (bits d) (output d)
    meets d l =
        (rows-or-conditions cpi some batch premises d l).0
        (subst (λ (u : List ℕ). RowsHold (cycle_of cpi u d)) (own ∙ is-filled cpi some batch premises v determined) (rows-hold d l))

    judged-again : JudgedYes k cpi batch
    judged-again d l = (exactly d l).1 ((conditions-are d l).1 (meets d l, (all-rows d l).1), derived-filled d l)

  pub judges : JudgedYes k cpi batch ↔ (judged cpi (listing_of k) batch ≡ Accepted (every_row_of k cpi))
  judges = (yes-accepts, λ e. judged-again (verdicts.accepted cpi (listing_of k) batch (every_row_of k cpi) e))
