-- A batch's fillings, cycle by cycle: the only one that the determining rows allow is the filler's, and its other rows hold exactly when
-- the step conditions do. For any number of cycles: columns of different cycles do not meet.
-- Assumes nothing.
use Rattle.std.specs.Prelude.{◌≡◌, ◌↔◌, Bool, List, ℕ, ◌+◌, ◌*◌, ◌/◌, ◌%◌, ◌≤◌, ◌<◌}
use Rattle.std.proofs.Math.Path.{refl, sym, ap, ap₂, fun_ext}
use Rattle.std.proofs.Common.{subst, ◌∙◌, div-lt_iff_lt-mul, mod-lt, div-add-mod'}
use Rattle.std.proofs.Math.Bool.{true, false}
use Rattle.std.proofs.Math.Decide.{dec_lt}
use native.Mathlib.Omega.{arith}
use Rattle.std.proofs.Math.Arith.{digits_div, digits_mod}
use Rattle.std.proofs.Math.Dec.{eqb}
use Rattle.base.specs.Lists.{joined, All}
use Rattle.base.specs.Laws.Lists.{all-joined}
use Rattle.base.specs.Laws.Cases.{no_true}
use Rattle.field.specs.declared.Gf128.{Gf128}
use Rattle.field.specs.Gf.{low, Proper, odd, of_bit}
use Rattle.field.specs.Gf.Tests.{is_bit-true}
use Rattle.field.specs.Gf.Bits.{low_bit, as-bit}
use Rattle.field.specs.Gf.Laws.{proper-words}
use Rattle.layout.specs.Columns.{ONE-COL}
use Rattle.layout.specs.Batch.{column_at}
use Rattle.layout.specs.Laws.Mapping.{public-column}
use Rattle.circuit.specs.Circuit.{bin_families, fld_families}
use Rattle.verdict.specs.Row.{element_at, cycle_of, holds, bits_of}
use Rattle.step.specs.Step.{Step}
use Rattle.step.specs.Derived.{derived, derived_in}
use Rattle.step.specs.Solve.{Holds}
use Rattle.step.specs.Determining.{determining_families, determining, filled_bits}
use Rattle.step.specs.Filling.{SameElsewhere, filling, filler_bits, filled}
use Rattle.step.specs.Demand3.{Premises}
use Rattle.step.proofs.Laws.Derived.{derived-past, one-given}
use Rattle.step.proofs.Laws.Determining.{filled-holds, filled_keeps, filled-only}
use Rattle.step.proofs.Laws.Determined.{Determined, determined}
use Rattle.step.proofs.Laws.Conditions.{Others, conditions-hold, others-hold}
use Rattle.step.proofs.Laws.Given.{SameGiven, same_step}
use Rattle.step.proofs.Laws.Cycle.{OfBits, rows_split, rows-joined}
use Rattle.step.proofs.Laws.Count.{put-same-bits}
use Rattle.step.proofs.Laws.FillingElements.{not-derived, filling-length, filling-elsewhere, filling-here, filling-given, filling-derived, is-filling}
use Rattle.field.specs.Gf as gf

public-given : derived (ONE-COL + 1) ≡ false
public-given = derived-past (ONE-COL + 1) (omega arith)

-- where the batch's one column is 1, every cycle's is
one-column : (cpi : ℕ) (w : List ℕ) → element_at w (2048 * cpi) ≡ gf.one → (d : ℕ) → cycle_of cpi w d ONE-COL ≡ gf.one
unfolding cycle_of
one-column cpi w e d = ap (element_at w) (public-column cpi ONE-COL d (omega arith) ∙ omega arith) ∙ e

pub one-is-set : (cpi : ℕ) (w : List ℕ) → element_at w (2048 * cpi) ≡ gf.one → (d : ℕ) → bits_of cpi w d ONE-COL ≡ true
unfolding bits_of
one-is-set cpi w e d = ap (λ (x : Gf128). eqb (low x) 1) (one-column cpi w e d) ∙ low_bit true

-- the rows of the house listing hold
abbrev pub RowsHold : (ℕ → Gf128) → Type 0
RowsHold z = All (λ s. holds z s ≡ true) (joined bin_families) × All (λ s. holds z s ≡ true) (joined fld_families)

module _ (cpi : ℕ) (some : 0 < cpi) (w : List ℕ) (p : Premises cpi w) where
  pub one_bit : (d : ℕ) → bits_of cpi w d ONE-COL ≡ true
  one_bit = one-is-set cpi w p.one-is

  proper-public : (d : ℕ) → Proper (cycle_of cpi w d (ONE-COL + 1))
  unfolding cycle_of
  proper-public d = proper-words _ _ (p.fit _) (p.fit _)

  -- ---- any filling

  module _ (v : ℕ → Bool) where
    abbrev u : List ℕ
    u = filling cpi v w

    pub same-given : (d : ℕ) → d < cpi → SameGiven (bits_of cpi u d) (bits_of cpi w d)
    unfolding bits_of
    same-given d h c e = ap (λ (x : Gf128). eqb (low x) 1) (filling-given cpi v w c d h e)

    filling-one : (d : ℕ) → d < cpi → bits_of cpi u d ONE-COL ≡ true
    filling-one d h = same-given d h ONE-COL one-given ∙ one_bit d

    pub same-public : (d : ℕ) → d < cpi → cycle_of cpi u d (ONE-COL + 1) ≡ cycle_of cpi w d (ONE-COL + 1)
    same-public d h = filling-given cpi v w (ONE-COL + 1) d h public-given

    -- up to the one column it holds bits
    filling-bits : (d : ℕ) → d < cpi → (c : ℕ) → c ≤ ONE-COL → cycle_of cpi u d c ≡ of_bit (bits_of cpi u d c)
    unfolding bits_of
    filling-bits d h c l = go (derived c) refl
      where
        go : (k : Bool) → derived c ≡ k → cycle_of cpi u d c ≡ of_bit (eqb (low (cycle_of cpi u d c)) 1)
        go true e = as-bit (v (c * cpi + d)) (filling-derived cpi v w c d h e p.words)
        go false e =
            elim (dec_lt c 2048) [
              | yes m ↦ as-bit (odd (cycle_of cpi w d c)) (filling-given cpi v w c d h e ∙ is_bit-true _ (p.given c d m h e))
              | no f ↦
                  let q : c ≡ ONE-COL = omega arith in
                  as-bit true (filling-given cpi v w c d h e ∙ ap (cycle_of cpi w d) q ∙ one-column cpi w p.one-is d)
            ]

    pub of-bits : (d : ℕ) → d < cpi → OfBits (cycle_of cpi u d) (bits_of cpi u d)
    of-bits d h = record { bits = filling-bits d h; one = filling-one d h; public = subst Proper (sym (same-public d h)) (proper-public d) }

    bit-at : (c d : ℕ) → d < cpi → derived c ≡ true → bits_of cpi u d c ≡ v (c * cpi + d)
    unfolding bits_of
    bit-at c d h e = ap (λ (x : Gf128). eqb (low x) 1) (filling-derived cpi v w c d h e p.words) ∙ low_bit (v (c * cpi + d))

    -- ---- one filling alone: where the determining rows hold in every cycle, it is the filler's

    abbrev Meets : Type 0
    Meets = (d : ℕ) → d < cpi → All (Holds (bits_of cpi u d)) determining

    pub same-bits-as-filler : Meets → (x : ℕ) → x < 2048 * cpi → derived_in cpi x ≡ true → v x ≡ filler_bits cpi w x
    same-bits-as-filler h x l e =
        let d = x % cpi in let m = mod-lt x some in
        sym (bit-at (x / cpi) d m e ∙ ap v (div-add-mod' x cpi))
        ∙ filled-only (bits_of cpi w d) (one_bit d) (bits_of cpi u d) (same-given d m) (h d m) (x / cpi) ((div-lt_iff_lt-mul some).1 l)

    pub is-filled : Meets → filling cpi v w ≡ filled cpi w
    unfolding filling filled
    is-filled h = put-same-bits (derived_in cpi) (2048 * cpi) 0 v (filler_bits cpi w) w (λ c l m k. same-bits-as-filler h c (omega arith) k)

    -- ---- its rows, as they are over bits

    abbrev OthersHold : ℕ → Type 0
    OthersHold d = Others (bits_of cpi u d) (cycle_of cpi u d (ONE-COL + 1))

    pub split : (d : ℕ) → d < cpi → RowsHold (cycle_of cpi u d) → All (Holds (bits_of cpi u d)) determining × OthersHold d
    split d h r = rows_split (cycle_of cpi u d) (bits_of cpi u d) (of-bits d h) r.0 r.1

    pub join : (d : ℕ) → d < cpi → All (Holds (bits_of cpi u d)) determining → OthersHold d → RowsHold (cycle_of cpi u d)
    join d h = rows-joined (cycle_of cpi u d) (bits_of cpi u d) (of-bits d h)

  -- ---- the filler's

  -- whatever stood in the derived columns
  pub same-filled : (u : List ℕ) → SameElsewhere cpi u w → filled cpi u ≡ filled cpi w
  unfolding filled bits_of cycle_of
  same-filled u s =
      is-filling cpi (filler_bits cpi w) (filling cpi (filler_bits cpi u) u) w p.words
      (record {
        lengths = filling-length cpi (filler_bits cpi u) u ∙ s.lengths;
        elements = λ x n. filling-elsewhere cpi (filler_bits cpi u) u x n ∙ s.elements x n;
      })
      (λ x l e. filling-here cpi (filler_bits cpi u) u x l e (s.lengths ∙ p.words) ∙ ap (λ (b : Bool). of_bit b) (same x l))
    where
      given : (d : ℕ) → d < cpi → SameGiven (bits_of cpi u d) (bits_of cpi w d)
      given d h c e = ap (λ (x : Gf128). eqb (low x) 1) (s.elements (column_at cpi c d) (not-derived cpi c d h e))

      same : (x : ℕ) → x < 2048 * cpi → filler_bits cpi u x ≡ filler_bits cpi w x
      same x l =
          let d = x % cpi in let h = mod-lt x some in let one : bits_of cpi u d ONE-COL ≡ true = given d h ONE-COL one-given ∙ one_bit d in
          filled-only (bits_of cpi w d) (one_bit d) (filled_bits (bits_of cpi u d))
          (λ c e. filled_keeps (bits_of cpi u d) one c e ∙ given d h c e)
          (filled-holds (bits_of cpi u d) one) (x / cpi) ((div-lt_iff_lt-mul some).1 l)

  abbrev v : ℕ → Bool
  v = filler_bits cpi w

  pub filled-cycle : (d : ℕ) → d < cpi → bits_of cpi (filled cpi w) d ≡ filled_bits (bits_of cpi w d)
  unfolding filled
  filled-cycle d h = fun_ext (λ c. go c (derived c) refl)
    where
      go : (c : ℕ) (k : Bool) → derived c ≡ k → bits_of cpi (filling cpi v w) d c ≡ filled_bits (bits_of cpi w d) c
      go c true e = bit-at v c d h e ∙ ap₂ (λ (i j : ℕ). filled_bits (bits_of cpi w i) j) (digits_mod c h) (digits_div c h)
      go c false e = same-given v d h c e ∙ sym (filled_keeps (bits_of cpi w d) (one_bit d) c e)

  -- up to the one column it holds bits, so that what is not 1 is 0
  pub filled-bit : (d : ℕ) → d < cpi → (c : ℕ) → c ≤ ONE-COL → cycle_of cpi (filled cpi w) d c ≡ of_bit (bits_of cpi (filled cpi w) d c)
  unfolding filled
  filled-bit = filling-bits v

  pub filled_zero : (d : ℕ) → d < cpi → (c : ℕ) → c ≤ ONE-COL → (cycle_of cpi (filled cpi w) d c ≡ gf.one → ⊥)
      → cycle_of cpi (filled cpi w) d c ≡ gf.zero
  filled_zero d h c l none =
      let bit = filled-bit d h c l in
      bit ∙ ap (λ (b : Bool). of_bit b) (no_true (bits_of cpi (filled cpi w) d c) (λ e. none (bit ∙ ap (λ (b : Bool). of_bit b) e)))

  pub filled-meets : (d : ℕ) → d < cpi → All (Holds (bits_of cpi (filled cpi w) d)) determining
  filled-meets d h = subst (λ (b : ℕ → Bool). All (Holds b) determining) (sym (filled-cycle d h))
      (filled-holds (bits_of cpi w d) (one_bit d))

  pub filled-determined : (d : ℕ) → d < cpi → Determined (bits_of cpi (filled cpi w) d)
  unfolding filled determining
  filled-determined d h =
      let b = bits_of cpi (filling cpi v w) d in determined b (filling-one v d h)
      ((all-joined (Holds b) determining_families).0 (filled-meets d h))

  -- of a filled batch, the rows of a cycle hold exactly when its ten conditions do
  pub rows-or-conditions : (d : ℕ) → d < cpi → RowsHold (cycle_of cpi (filled cpi w) d)
      ↔ Step (bits_of cpi w d) (cycle_of cpi w d (ONE-COL + 1))
  unfolding filled
  rows-or-conditions d h =
      let b = bits_of cpi (filling cpi v w) d in let out = cycle_of cpi (filling cpi v w) d (ONE-COL + 1) in let f = filled-determined d h in
      let same = same-given v d h in (
        λ r. same_step b (bits_of cpi w d) same _ (subst (Step b) (same-public v d h) (conditions-hold b out f (split v d h r).1)),
        λ s. join v d h (filled-meets d h)
            (others-hold b out f (subst (Step b) (sym (same-public v d h)) (same_step (bits_of cpi w d) b (λ c e. sym (same c e)) _ s))),
      )
