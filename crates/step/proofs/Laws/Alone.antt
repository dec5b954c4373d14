-- Conditions met or not: of all fillings of a batch, exactly the filler's makes fld row 2 and every bin row but RAM address and zero
-- extension hold (document 01, "Filling").
-- Assumes nothing.
use Rattle.std.specs.Prelude.{◌≡◌, refl, ◌↔◌, Bool, true, not, cond, ◌||◌, List, [], ◌∷◌, ◌++◌, map, ℕ, ◌<◌, eqb}
use Rattle.std.proofs.Common.{sym, subst}
use Rattle.base.specs.Lists.{joined, All, from, from_each}
use Rattle.base.specs.Laws.Lists.{all_append, all_left, all_right, all_map}
use Rattle.circuit.specs.declared.Relation.{Relation}
use Rattle.circuit.specs.declared.Relation.TheVariants.{Bin, Fld}
use Rattle.circuit.specs.Rows.{Sides, Row, numbered}
use Rattle.circuit.specs.Circuit.{halt_rows, first_carry_row, bin_families, fld_families, circuit_rows, circuit_words}
use Rattle.circuit.specs.Parse.{rows_of}
use Rattle.circuit.specs.Laws.House.{words-read}
use Rattle.verdict.specs.Row.{cycle_of, holds, bits_of}
use Rattle.step.specs.Derived.{within}
use Rattle.step.specs.Solve.{Holds}
use Rattle.step.specs.Determining.{before_halt, after_halt, determining_bin, determining}
use Rattle.step.specs.Filling.{filling, filled}
use Rattle.step.specs.Demand3.{Premises}
use Rattle.step.proofs.Laws.Cycle.{determining-rows}
use Rattle.step.proofs.Laws.Batch.{of-bits, is-filled, filled-meets}

-- fld row 2; every bin row but 255..262 (RAM address) and 322..377 (zero extension)
abbrev pub determines : Relation → ℕ → Bool
determines Bin n = not (within 255 262 n || within 322 377 n)
determines Fld n = eqb n 2

unfoldable pub that_determine : List Row → List Row
that_determine [] = []
that_determine (r ∷ rs) = cond (determines r.relation r.number) (r ∷ that_determine rs) (that_determine rs)

-- by one computed test
these-determine : map (λ (r : Row). r.sides) (that_determine circuit_rows) ≡ joined (determining_bin halt_rows) ++ (first_carry_row ∷ [])
unfolding that_determine circuit_rows bin_families fld_families before_halt after_halt from from_each joined numbered
these-determine = refl

rows_are : (P : Sides → Type 0)
    → All (λ r. P r.sides) (that_determine (rows_of circuit_words)) ↔ (All P (joined (determining_bin halt_rows)) × P first_carry_row)
rows_are P =
    let bins = joined (determining_bin halt_rows) in
    let k = all_map P (λ (r : Row). r.sides) (that_determine circuit_rows) in (
      λ h. let a = subst (All P) these-determine (k.1 (subst (λ (rs : List Row). All (λ r. P r.sides)
          (that_determine rs)) words-read h)) in
          (all_left P bins (first_carry_row ∷ []) a, (all_right P bins (first_carry_row ∷ []) a).0),
      λ h. subst (λ (rs : List Row). All (λ r. P r.sides) (that_determine rs)) (sym words-read)
          (k.0 (subst (All P) (sym these-determine) (all_append P bins (first_carry_row ∷ []) h.0 (h.1, tt)))),
    )

module _ (cpi : ℕ) (some : 0 < cpi) (batch : List ℕ) (p : Premises cpi batch) (v : ℕ → Bool) where
  -- the determining rows hold in a cycle of a filling
  abbrev pub RowsDetermine : ℕ → Type 0
  RowsDetermine d = All (λ r. holds (cycle_of cpi (filling cpi v batch) d) r.sides ≡ true) (that_determine (rows_of circuit_words))

  over-bits : (d : ℕ) → d < cpi → RowsDetermine d ↔ All (Holds (bits_of cpi (filling cpi v batch) d)) determining
  over-bits d h =
      let z = cycle_of cpi (filling cpi v batch) d in let k = rows_are (λ s. holds z s ≡ true) in
      let j = determining-rows z (bits_of cpi (filling cpi v batch) d) (of-bits cpi some batch p v d h) in
      (λ a. j.0 (k.0 a), λ a. k.1 (j.1 a))

  pub filler-alone : (filling cpi v batch ≡ filled cpi batch) ↔ ((d : ℕ) → d < cpi → RowsDetermine d)
  filler-alone = (
    λ e d h. (over-bits d h).1 (subst (λ (u : List ℕ). All (Holds (bits_of cpi u d)) determining) (sym e)
        (filled-meets cpi some batch p d h)),
    λ r. is-filled cpi some batch p v (λ d h. (over-bits d h).0 (r d h)),
  )
