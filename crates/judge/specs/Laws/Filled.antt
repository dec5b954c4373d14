-- What the filler makes of a batch: it is over bits, and is judged with yes exactly when every cycle meets the conditions.
-- Assumes nothing.
use Rattle.std.specs.Prelude.{◌≡◌, refl, ◌↔◌, Bool, true, List, ℕ, ◌+◌, ◌*◌, ◌/◌, ◌%◌, ◌≤◌, ◌<◌, length}
use Rattle.std.proofs.Math.Path.{sym, ap}
use Rattle.std.proofs.Common.{subst, ◌∙◌, mod-lt, div-add-mod', div-lt_iff_lt-mul, arith}
use Rattle.field.specs.Gf.{is_bit}
use Rattle.field.specs.Gf.Tests.{is_bit-bit}
use Rattle.layout.specs.Columns.{ONE-COL}
use Rattle.layout.specs.Laws.Mapping.{witness-column}
use Rattle.layout.specs.Batch.{batch_words}
use Rattle.strict.specs.declared.Known.{Known}
use Rattle.verdict.specs.Row.{element_at, cycle_of, bits_of}
use Rattle.step.specs.Strict.{ConditionsOf}
use Rattle.step.specs.Filling.{filler_bits, filled}
use Rattle.step.specs.Demand3.{Premises}
use Rattle.step.proofs.Laws.Derived.{derived-below, one-given}
use Rattle.step.proofs.Laws.Determining.{filled-only}
use Rattle.step.proofs.Laws.Given.{SameGiven}
use Rattle.step.proofs.Laws.Strict.{same-conditions}
use Rattle.step.proofs.Laws.FillingElements.{filling-length, filling-elsewhere}
use Rattle.step.proofs.Laws.Batch.{one_bit, same-given, same-public, of-bits, filled-meets}
use Rattle.judge.specs.Judged.{JudgedYes}
use Rattle.judge.specs.Judges.{OverBits}
use Rattle.judge.specs.Laws.Exactly.{judged-exactly}
use Rattle.judge.specs.Laws.Judges.{bits-over}

module _ (cpi : ℕ) (some : 0 < cpi) (batch : List ℕ) (p : Premises cpi batch) where
  abbrev W : List ℕ
  W = filled cpi batch

  abbrev f : ℕ → Bool
  f = filler_bits cpi batch

  same-as-given : (d : ℕ) → d < cpi → SameGiven (bits_of cpi W d) (bits_of cpi batch d)
  unfolding filled
  same-as-given = same-given cpi some batch p f

  one_set : (d : ℕ) → d < cpi → bits_of cpi W d ONE-COL ≡ true
  one_set d l = same-as-given d l ONE-COL one-given ∙ one_bit cpi some batch p d

  output-same : (d : ℕ) → d < cpi → cycle_of cpi W d (ONE-COL + 1) ≡ cycle_of cpi batch d (ONE-COL + 1)
  unfolding filled
  output-same = same-public cpi some batch p f

  filled-words : length W ≡ batch_words cpi
  unfolding filled
  filled-words = filling-length cpi f batch ∙ p.words

  filled-bits : (x : ℕ) → x < 2048 * cpi → is_bit (element_at W x) ≡ true
  unfolding filled cycle_of
  filled-bits x l =
      let c = x / cpi in let d = x % cpi in let m = (div-lt_iff_lt-mul some).1 l in
      ap (λ (k : ℕ). is_bit (element_at W k)) (sym (div-add-mod' x cpi) ∙ sym (witness-column cpi c d m))
      ∙ ap is_bit ((of-bits cpi some batch p f d (mod-lt x some)).bits c (omega arith)) ∙ is_bit-bit (bits_of cpi W d c)

  public-same : (x : ℕ) → 2048 * cpi ≤ x → element_at W x ≡ element_at batch x
  unfolding filled
  public-same x l = filling-elsewhere cpi f batch x (λ m _. omega (arith, m))

  -- it is over bits
  pub filled-over : OverBits cpi (filled cpi batch)
  filled-over = bits-over cpi W batch filled-words filled-bits public-same p.fit p.one-is

  -- it is judged with yes exactly when every cycle meets the conditions
  pub judges-filled : (k : Known) → JudgedYes k cpi (filled cpi batch)
      ↔ ((d : ℕ) → d < cpi → ConditionsOf k (bits_of cpi batch d) (cycle_of cpi batch d (ONE-COL + 1)))
  judges-filled k = (
    λ y d l. let j = (judged-exactly cpi W filled-words d l (one_set d l) k _).0 (y d l) in
        same-conditions k (bits_of cpi W d) (bits_of cpi batch d) (same-as-given d l) _
        (subst (ConditionsOf k (bits_of cpi W d)) (output-same d l) j.0),
    λ s d l. (judged-exactly cpi W filled-words d l (one_set d l) k _).1 (
      subst (ConditionsOf k (bits_of cpi W d)) (sym (output-same d l))
          (same-conditions k (bits_of cpi batch d) (bits_of cpi W d) (λ c e. sym (same-as-given d l c e)) _ (s d l)),
      λ c e.
          filled-only (bits_of cpi W d) (one_set d l) (bits_of cpi W d) (λ _ _. refl) (filled-meets cpi some batch p d l) c
          (derived-below c e),
    ),
  )
