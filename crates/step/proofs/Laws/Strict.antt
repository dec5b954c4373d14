-- The eight rows of the strict listing say of a cycle's flags what the strict conditions say; and these read given columns alone.
-- Assumes nothing.
use Rattle.std.specs.Prelude.{◌≡◌, refl, ◌↔◌, Bool, true, false, not, ◌&&◌, List, [], ◌∷◌, ℕ, ◌+◌, eqb}
use Rattle.std.proofs.Common.{sym, ap, ap₂, ◌∙◌}
use Rattle.std.proofs.Math.Logic.Iff.{trans as iff_trans}
use Rattle.std.proofs.lemmas.Bool.{false≢true, not-true}
use Rattle.base.specs.Lists.{All}
use Rattle.base.specs.Bits.{digit, ◌⊻◌}
use Rattle.base.specs.Laws.Tests.{both, both_so}
use Rattle.base.specs.Laws.Cases.{of-five}
use Rattle.field.specs.declared.Gf128.{Gf128}
use Rattle.layout.specs.Columns.{ONE-COL, IS-LOAD, IS-STORE, LD-BYTE, LD-HALF, LD-WORD}
use Rattle.strict.specs.declared.Known.{Known}
use Rattle.strict.specs.declared.Known.TheVariants.{House, Strict}
use Rattle.strict.specs.Rows.{flag_rows}
use Rattle.strict.specs.Known.{further_rows}
use Rattle.verdict.specs.OverBits.{sum_bits}
use Rattle.step.specs.Step.{Step}
use Rattle.step.specs.Solve.{lacks, Holds}
use Rattle.step.specs.Derived.{derived}
use Rattle.step.specs.Strict.{widths, ConditionsOf}
use Rattle.step.proofs.Laws.Widths.{width-clauses}
use Rattle.step.proofs.Laws.Given.{SameGiven, same_step}

-- ---- the clauses on the flags as one test: load, store, byte, half, word

abbrev pub flags_test : Bool → Bool → Bool → Bool → Bool → Bool
flags_test l s y h w = not (l && s) && eqb (digit y + digit h + digit w) (digit l)

-- a test that says that something is not so
pub not-clause : (x : Bool) → (not x ≡ true) ↔ (x ≡ false)
not-clause x = (not-true x, λ e. ap not e)

module _ (b : ℕ → Bool) where
  abbrev pub flags_met : Bool
  flags_met = flags_test (b IS-LOAD) (b IS-STORE) (b LD-BYTE) (b LD-HALF) (b LD-WORD)

  pub flags-clauses : (flags_met ≡ true)
      ↔ (((b IS-LOAD && b IS-STORE) ≡ false) × ((b IS-LOAD ≡ true → widths b ≡ 1) × (b IS-LOAD ≡ false → widths b ≡ 0)))
  flags-clauses =
      both_so (not (b IS-LOAD && b IS-STORE)) (eqb (widths b) (digit (b IS-LOAD)))
      (not-clause (b IS-LOAD && b IS-STORE)) (width-clauses (b IS-LOAD) (widths b))

-- ---- the eight rows as one test

none_set : List Bool → Bool
none_set [] = true
none_set (x ∷ xs) = not x && none_set xs

none-set : (xs : List Bool) → All (λ (x : Bool). x ≡ false) xs ↔ (none_set xs ≡ true)
unfolding none_set
none-set [] = (λ _. refl, λ _. tt)
none-set (x ∷ xs) =
    let k = none-set xs in (
      λ h. ap (λ (y : Bool). not y && none_set xs) h.0 ∙ k.0 h.1,
      λ e. let p = both (not x) (none_set xs) e in (not-true x p.0, k.1 p.1),
    )

-- what each of the rows lacks, in their order, with o in the one column
abbrev lacking : Bool → Bool → Bool → Bool → Bool → Bool → List Bool
lacking o l s y h w =
    (((l ⊻ false) && (s ⊻ false)) ⊻ false)
    ∷ (((y ⊻ false) && (h ⊻ false)) ⊻ false)
    ∷ (((y ⊻ false) && (w ⊻ false)) ⊻ false)
    ∷ (((h ⊻ false) && (w ⊻ false)) ⊻ false)
    ∷ (((y ⊻ false) && (o ⊻ (l ⊻ false))) ⊻ false)
    ∷ (((h ⊻ false) && (o ⊻ (l ⊻ false))) ⊻ false)
    ∷ (((w ⊻ false) && (o ⊻ (l ⊻ false))) ⊻ false)
    ∷ (((l ⊻ false) && (o ⊻ (y ⊻ (h ⊻ (w ⊻ false))))) ⊻ false)
    ∷ []

-- by computing every case
rows-test : (l s y h w : Bool) → none_set (lacking true l s y h w) ≡ flags_test l s y h w
unfolding none_set
rows-test = of-five _ _ refl

pub flag-rows : (b : ℕ → Bool) → b ONE-COL ≡ true → All (Holds b) flag_rows ↔ (flags_met b ≡ true)
unfolding flag_rows lacks sum_bits
flag-rows b one =
    let test = none-set (lacking (b ONE-COL) (b IS-LOAD) (b IS-STORE) (b LD-BYTE) (b LD-HALF) (b LD-WORD)) in
    let e = ap (λ (o : Bool). none_set (lacking o (b IS-LOAD) (b IS-STORE) (b LD-BYTE) (b LD-HALF) (b LD-WORD))) one
    ∙ rows-test (b IS-LOAD) (b IS-STORE) (b LD-BYTE) (b LD-HALF) (b LD-WORD) in
    (λ h. sym e ∙ test.0 h, λ t. test.1 (e ∙ t))

-- ---- what a known listing's rows come to

pub meaning : (k : Known) (b : ℕ → Bool) (output : Gf128) → b ONE-COL ≡ true
    → ConditionsOf k b output ↔ (Step b output × All (Holds b) (further_rows k))
meaning House b output one = (λ s. (s, tt), λ m. m.0)
meaning Strict b output one =
    let rows = iff_trans (flag-rows b one) (flags-clauses b) in (
      λ s. (s.ten, rows.1 (s.apart, (s.one_width, s.no-width))),
      λ m. let c = rows.0 m.1 in record { ten = m.0; apart = c.0; one_width = c.1.0; no-width = c.1.1 },
    )

-- what stands in the derived columns does not matter to them
pub same-conditions : (k : Known) (y z : ℕ → Bool) → SameGiven y z → (output : Gf128) → ConditionsOf k y output → ConditionsOf k z output
unfolding derived
same-conditions House y z h output s = same_step y z h output s
same-conditions Strict y z h output s =
    let load = h IS-LOAD refl in let same : widths y ≡ widths z = cc (h LD-BYTE refl, h LD-HALF refl, h LD-WORD refl) in
    record {
      ten = same_step y z h output s.ten;
      apart = sym (ap₂ ◌&&◌ load (h IS-STORE refl)) ∙ s.apart;
      one_width = λ e. sym same ∙ s.one_width (load ∙ e);
      no-width = λ e. sym same ∙ s.no-width (load ∙ e);
    }

-- the ten are among the conditions of each; and they are enough where nothing is loaded and no width is set
pub the-ten : (k : Known) {b : ℕ → Bool} {output : Gf128} → ConditionsOf k b output → Step b output
the-ten House s = s
the-ten Strict s = s.ten

pub no-load : (k : Known) (b : ℕ → Bool) (output : Gf128) → Step b output → b IS-LOAD ≡ false → widths b ≡ 0 → ConditionsOf k b output
no-load House b output s load none = s
no-load Strict b output s load none =
    record {
      ten = s;
      apart = ap (λ (l : Bool). l && b IS-STORE) load;
      one_width = λ e. absurd (false≢true (sym load ∙ e));
      no-width = λ _. none;
    }
