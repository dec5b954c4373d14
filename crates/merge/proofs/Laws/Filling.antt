-- The filling of a merged batch is the merge of the fillings of its parts, and the filler refuses neither part exactly where it does not
-- refuse the merged batch.
-- Assumes nothing.
use Rattle.std.specs.Prelude.{◌≡◌, refl, Bool, false, not, ◌&&◌, length, Ok}
use Rattle.std.proofs.Math.Path.{sym, ap, subst, fun_ext}
use Rattle.std.proofs.Common.{ap₂, ◌∙◌, add-zero, mod-lt, div-add-mod', div-lt_iff_lt-mul, arith}
use Rattle.std.proofs.Math.Bool.{true}
use mathlib.Core.List.{List}
use Prim.Native.Nat.{ℕ, ◌+◌, ◌-◌, ◌*◌, ◌/◌, ◌%◌, ◌≤◌, ◌<◌}
use Rattle.std.proofs.Math.Decide.{dec_lt}
use Rattle.std.proofs.Math.Arith.{digits_div, digits_mod, digits_lt}
use Rattle.base.specs.Laws.First.{first-none, first-least}
use Rattle.field.specs.Gf.{of_bit}
use Rattle.layout.specs.Batch.{allowed, batch_words}
use Rattle.layout.specs.Questions.{Left}
use Rattle.layout.specs.Laws.Questions.{after-yes, called-yes}
use Rattle.verdict.specs.Row.{element_at, as_bit, bits_of}
use Rattle.step.specs.Derived.{derived, derived_in}
use Rattle.step.specs.Determining.{filled_bits}
use Rattle.step.specs.Filling.{NotDerived, filler_bits, filled}
use Rattle.step.specs.Fill.{faulty, first_faulty, fill_asked, called, Passed}
use Rattle.step.proofs.Laws.FillAnswers.{all-passed, passed-all}
use Rattle.step.proofs.Laws.FillingElements.{filling-length, filling-elsewhere, filling-here, is-filling}
use Rattle.merge.specs.Merged.{merged}
use Rattle.merge.specs.Calls.{merge_asked, merge_called}
use Rattle.merge.specs.Merging.{Filled}
use Rattle.merge.specs.Laws.Answers.{twice-allowed, fitting-yes}
use Rattle.merge.proofs.Laws.Bits.{none-merged, above-first, above-second}
use Rattle.merge.specs.Laws.Columns.{SamePublic, merged-length, first-element, second-element, public-element, seen_first, seen-second}

-- ---- a column of the merged batch is one of the first's, one of the second's, or a public one

module _ (cpi : ℕ) (some : 0 < cpi) (P : ℕ → Type 0)
    (in-first : (c d : ℕ) → c < 2048 → d < cpi → P (c * (2 * cpi) + d))
    (in-second : (c d : ℕ) → c < 2048 → d < cpi → P (c * (2 * cpi) + (cpi + d))) where
  below : (x : ℕ) → x < 2048 * (2 * cpi) → P x
  below x h =
      let twice : 0 < 2 * cpi = omega arith in
      let c = x / (2 * cpi) in let d = x % (2 * cpi) in
      let hc : c < 2048 = (div-lt_iff_lt-mul twice).1 h in let hd : d < 2 * cpi = mod-lt x twice in
      let place : c * (2 * cpi) + d ≡ x = div-add-mod' x (2 * cpi) in
      elim (dec_lt d cpi) [
        | yes l ↦ subst P place (in-first c d hc l)
        | no f ↦
            let back : cpi + (d - cpi) ≡ d = omega arith in
            subst P (ap (λ (e : ℕ). c * (2 * cpi) + e) back ∙ place) (in-second c (d - cpi) hc (omega arith))
      ]

module _ (cpi : ℕ) (first second : List ℕ) (some : 0 < cpi) (len : length first ≡ batch_words cpi) (long : length second ≡ batch_words cpi)
    (same : SamePublic cpi first second) where
  abbrev batch : List ℕ
  batch = merged cpi first second

  abbrev u : List ℕ
  u = filled cpi first

  abbrev w : List ℕ
  w = filled cpi second

  -- ---- each cycle is seen as in its part, as bits too

  bits-first : (d : ℕ) → d < cpi → bits_of (2 * cpi) batch d ≡ bits_of cpi first d
  unfolding bits_of
  bits-first d l = fun_ext (λ c. ap as_bit (seen_first cpi first second len d l c))

  bits-second : (d : ℕ) → d < cpi → bits_of (2 * cpi) batch (cpi + d) ≡ bits_of cpi second d
  unfolding bits_of
  bits-second d l = fun_ext (λ c. ap as_bit (seen-second cpi first second len long same d l c))

  -- the filler's bits of a column of a cycle
  bit-of : (n : ℕ) (words : List ℕ) (c d : ℕ) → d < n → filler_bits n words (c * n + d) ≡ filled_bits (bits_of n words d) c
  bit-of n words c d h = ap₂ (λ (i j : ℕ). filled_bits (bits_of n words i) j) (digits_mod c h) (digits_div c h)

  -- ---- the merge of the filled batches, column by column

  filled-length : (words : List ℕ) → length (filled cpi words) ≡ length words
  unfolding filled
  filled-length words = filling-length cpi (filler_bits cpi words) words

  -- a column that is derived holds the filler's bit
  put : (words : List ℕ) → length words ≡ batch_words cpi → (c d : ℕ) → c < 2048 → d < cpi → derived c ≡ true
      → element_at (filled cpi words) (c * cpi + d) ≡ of_bit (filled_bits (bits_of cpi words d) c)
  unfolding filled
  put words k c d hc hd e =
      filling-here cpi (filler_bits cpi words) words (c * cpi + d) (digits_lt hc hd) (ap derived (digits_div c hd) ∙ e) k
      ∙ ap of_bit (bit-of cpi words c d hd)

  -- every other what stood there
  kept : (words : List ℕ) (c d : ℕ) → d < cpi → (derived c ≡ true → ⊥)
      → element_at (filled cpi words) (c * cpi + d) ≡ element_at words (c * cpi + d)
  unfolding filled
  kept words c d hd f =
      filling-elsewhere cpi (filler_bits cpi words) words (c * cpi + d) (λ m e. f (sym (ap derived (digits_div c hd)) ∙ e))

  pub kept-public : (words : List ℕ) (x : ℕ) → 2048 * cpi ≤ x → element_at (filled cpi words) x ≡ element_at words x
  unfolding filled
  kept-public words x h = filling-elsewhere cpi (filler_bits cpi words) words x (λ m e. absurd (omega arith))

  abbrev v : ℕ → Bool
  v = filler_bits (2 * cpi) batch

  pub merged-filling : merged cpi u w ≡ filled (2 * cpi) batch
  unfolding filled
  merged-filling =
      is-filling (2 * cpi) v (merged cpi u w) batch (merged-length cpi first second)
      (record { lengths = merged-length cpi u w ∙ sym (merged-length cpi first second); elements = elsewhere })
      (λ x l. here x l)
    where
      here : (x : ℕ) → x < 2048 * (2 * cpi) → derived_in (2 * cpi) x ≡ true → element_at (merged cpi u w) x ≡ of_bit (v x)
      here =
          below cpi some (λ (x : ℕ). derived_in (2 * cpi) x ≡ true → element_at (merged cpi u w) x ≡ of_bit (v x))
          (λ c d hc hd e.
          first-element cpi u w c d hc hd ∙ put first len c d hc hd (sym (ap derived (digits_div c (omega arith))) ∙ e)
          ∙ ap of_bit (sym (bit-of (2 * cpi) batch c d (omega arith) ∙ ap (λ (b : ℕ → Bool). filled_bits b c) (bits-first d hd))))
          (λ c d hc hd e.
          second-element cpi u w c d hc hd ∙ put second long c d hc hd (sym (ap derived (digits_div c (omega arith))) ∙ e)
          ∙ ap of_bit (sym (bit-of (2 * cpi) batch c (cpi + d) (omega arith) ∙ ap (λ (b : ℕ → Bool). filled_bits b c) (bits-second d hd))))

      lower : (x : ℕ) → x < 2048 * (2 * cpi) → (derived_in (2 * cpi) x ≡ true → ⊥) → element_at (merged cpi u w) x ≡ element_at batch x
      lower =
          below cpi some (λ (x : ℕ). (derived_in (2 * cpi) x ≡ true → ⊥) → element_at (merged cpi u w) x ≡ element_at batch x)
          (λ c d hc hd f.
          first-element cpi u w c d hc hd ∙ kept first c d hd (λ e. f (ap derived (digits_div c (omega arith)) ∙ e))
          ∙ sym (first-element cpi first second c d hc hd))
          (λ c d hc hd f.
          second-element cpi u w c d hc hd ∙ kept second c d hd (λ e. f (ap derived (digits_div c (omega arith)) ∙ e))
          ∙ sym (second-element cpi first second c d hc hd))

      elsewhere : (x : ℕ) → NotDerived (2 * cpi) x → element_at (merged cpi u w) x ≡ element_at batch x
      elsewhere x n =
          elim (dec_lt x (2048 * (2 * cpi))) [
            | yes h ↦ lower x h (n h)
            | no f ↦
                let p = x - 2048 * (2 * cpi) in let at : 2048 * (2 * cpi) + p ≡ x = omega arith in
                subst (λ (y : ℕ). element_at (merged cpi u w) y ≡ element_at batch y) at
                (public-element cpi u w (filled-length first ∙ len) p ∙ kept-public first (2048 * cpi + p) (omega arith)
                ∙ sym (public-element cpi first second len p))
          ]

  -- ---- the filler as it is called

  module _ (size : allowed cpi ≡ true) (few : cpi ≤ 128) where
    faulty-first : (c d : ℕ) → c < 2048 → d < cpi → faulty (2 * cpi) batch (c * (2 * cpi) + d) ≡ faulty cpi first (c * cpi + d)
    faulty-first c d hc hd =
        ap₂ (λ (a b : Bool). a && not b) (above-first cpi first second c d hc hd)
        (ap derived (digits_div c (omega arith)) ∙ sym (ap derived (digits_div c hd)))

    faulty-second : (c d : ℕ) → c < 2048 → d < cpi
        → faulty (2 * cpi) batch (c * (2 * cpi) + (cpi + d)) ≡ faulty cpi second (c * cpi + d)
    faulty-second c d hc hd =
        ap₂ (λ (a b : Bool). a && not b) (above-second cpi first second c d hc hd)
        (ap derived (digits_div c (omega arith)) ∙ sym (ap derived (digits_div c hd)))

    no-fault : (words : List ℕ) → Passed cpi words → (k : ℕ) → k < 2048 * cpi → faulty cpi words k ≡ false
    no-fault words p k h = first-least (faulty cpi words) (2048 * cpi) 0 k (omega arith) (omega (arith, p.bits))

    passed-merged : Passed cpi first → Passed cpi second → Passed (2 * cpi) batch
    passed-merged p q =
        let none : first_faulty (2 * cpi) batch ≡ 0 + 2048 * (2 * cpi) =
        first-none (faulty (2 * cpi) batch) (2048 * (2 * cpi)) 0
        (λ k l h. none-merged cpi some (faulty (2 * cpi) batch) (faulty cpi first) (faulty cpi second) faulty-first faulty-second
        (no-fault first p) (no-fault second q) k (omega arith)) in
        record {
          size = twice-allowed cpi size few;
          words = merged-length cpi first second;
          bits = omega arith;
          one-is = ap (element_at batch) (sym (add-zero (2048 * (2 * cpi)))) ∙ public-element cpi first second len 0
              ∙ ap (element_at first) (add-zero (2048 * cpi)) ∙ p.one-is;
        }

    -- both calls leave the merge of two batches
    abbrev Both : List ℕ → List ℕ → List ℕ → Type 0
    Both there a b =
        Left (called (2 * cpi) batch) (merged cpi a b) × Left (merge_called cpi a cpi b there) (merged cpi a b)

    both : (there : List ℕ) → length there ≡ batch_words (2 * cpi) → fill_asked cpi first ≡ Ok tt → fill_asked cpi second ≡ Ok tt → Both there u w
    unfolding called merge_called
    both there room p q = (
      sym
          (called-yes (fill_asked (2 * cpi) batch) (filled (2 * cpi) batch) batch (merged cpi u w)
          (passed-all (2 * cpi) batch (passed-merged (all-passed cpi first p) (all-passed cpi second q))) merged-filling),
      sym
          (called-yes (merge_asked cpi u cpi w (length there)) (merged cpi u w) there (merged cpi u w)
          (fitting-yes cpi u w (length there) size few (filled-length first ∙ len) (filled-length second ∙ long) room
          (λ x l h. kept-public first x l ∙ same x l h ∙ sym (kept-public second x l))) refl),
    )

    pub filled-merged : Filled cpi first second batch
    unfolding called
    filled-merged a b there x y room =
        let p = after-yes (fill_asked cpi first) u first a x in let q = after-yes (fill_asked cpi second) w second b y in
        subst (Both there a) (sym q.1) (subst (λ (l : List ℕ). Both there l w) (sym p.1) (both there room p.0 q.0))
