-- The mapping and the way back undo each other below one_col, for every size, and refuse the rest; no two columns of cycles meet.
-- Assumes nothing.
use Rattle.std.specs.Prelude.{◌≡◌, refl, true, false, ℕ, ◌+◌, ◌-◌, ◌*◌, ◌/◌, ◌%◌, ◌≤◌, ◌<◌, Err, Ok}
use Rattle.std.proofs.Math.Path.{sym, ap, ap₂}
use Rattle.std.proofs.Common.{◌∙◌, mul-one, div-lt_iff_lt-mul, arith, lt-ltb, le-ltb}
use Rattle.std.proofs.Math.Decide.{dec_lt}
use Rattle.std.proofs.Math.Nat.{mod-lt, div-add-mod'}
use Rattle.std.proofs.Math.Arith.{digits_lt, digits_div, digits_mod}
use Rattle.base.specs.Laws.Tests.{passed, refused}
use Rattle.layout.specs.Questions.{no as refusal}
use Rattle.layout.specs.Batch.{allowed, column_at, mapped, unmapped, cycle_column}
use Rattle.layout.specs.Laws.Sizes.{allowed-range}
use Rattle.layout.specs.declared.questions.Question.TheVariants.{BatchSize, ColumnRange, CycleRange}

-- what the mapping gives for a witness column
pub witness-column : (cpi c d : ℕ) → c < 2048 → column_at cpi c d ≡ c * cpi + d
unfolding column_at
witness-column cpi c d h = sym (passed _ _ _ (lt-ltb c 2048 h))

-- and for a public one
pub public-column : (cpi c d : ℕ) → 2048 ≤ c → column_at cpi c d ≡ 2048 * cpi + (c - 2048)
unfolding column_at
public-column cpi c d h = sym (refused _ _ _ (le-ltb c 2048 h))

-- in a batch of one cycle every column stands at its own place
pub column-is : (c : ℕ) → column_at 1 c 0 ≡ c
column-is c =
    elim (dec_lt c 2048) [
      | yes h ↦ witness-column 1 c 0 h ∙ omega (arith, mul-one c)
      | no f ↦ public-column 1 c 0 (omega arith) ∙ omega arith
    ]

-- a column of cycle d is a public one, or its batch column leaves d
pub column-cycle : (cpi c d : ℕ) → d < cpi → column_at cpi c d < 2048 * cpi → column_at cpi c d % cpi ≡ d
column-cycle cpi c d h m =
    elim (dec_lt c 2048) [
      | yes k ↦ ap (λ (x : ℕ). x % cpi) (witness-column cpi c d k) ∙ digits_mod c h
      | no f ↦ absurd (omega (arith, m, public-column cpi c d (omega arith)))
    ]

pub column-below : (cpi c d : ℕ) → c < 2048 → d < cpi → column_at cpi c d < 2048 * cpi
column-below cpi c d hc hd = rw (witness-column cpi c d hc) (digits_lt hc hd)

-- a column of all cycles ends where the next begins, below one_col
pub column_fits : (cpi c : ℕ) → 0 < cpi → c < 2048 → c * cpi + cpi ≤ 2048 * cpi
column_fits cpi c some h = let last : c * cpi + (cpi - 1) < 2048 * cpi = digits_lt h (omega arith) in omega arith

-- any column of a cycle's row stands in the batch
pub column-inside : (cpi c d : ℕ) → c < 4096 → d < cpi → column_at cpi c d < 4096 * cpi
column-inside cpi c d hc hd =
    elim (dec_lt c 2048) [
      | yes k ↦ omega (arith, column-below cpi c d k hd)
      | no f ↦ omega (arith, public-column cpi c d (omega arith))
    ]

module _ (cpi : ℕ) (ok : allowed cpi ≡ true) where
  -- the mapping places every column of a cycle of the batch
  pub mapped_at : (c d : ℕ) → c < 4096 → d < cpi → mapped 4096 cpi c d ≡ Ok (column_at cpi c d)
  unfolding mapped
  mapped_at c d hc hd = sym (passed _ _ _ (lt-ltb d cpi hd) ∙ passed _ _ _ (lt-ltb c 4096 hc) ∙ passed _ _ _ ok)

  -- there and back
  pub back-of-mapped : (c d : ℕ) → c < 2048 → d < cpi → unmapped cpi (column_at cpi c d) ≡ cycle_column c d
  unfolding unmapped
  back-of-mapped c d hc hd =
      sym (passed _ _ _ (lt-ltb (column_at cpi c d) (2048 * cpi) (column-below cpi c d hc hd)) ∙ passed _ _ _ ok)
      ∙ ap₂ cycle_column
      (ap (λ (b : ℕ). b / cpi) (witness-column cpi c d hc) ∙ digits_div c hd)
      (ap (λ (b : ℕ). b % cpi) (witness-column cpi c d hc) ∙ digits_mod c hd)

  -- back and there
  pub mapped-of-back : (b : ℕ) → b < 2048 * cpi → mapped 2048 cpi (b / cpi) (b % cpi) ≡ Ok b
  unfolding mapped
  mapped-of-back b h =
      let some : 0 < cpi = (allowed-range cpi ok).0 in
      let hc : b / cpi < 2048 = (div-lt_iff_lt-mul some).1 h in let hd : b % cpi < cpi = mod-lt b some in
      sym
      (passed _ _ _ (lt-ltb (b % cpi) cpi hd) ∙ passed _ _ _ (lt-ltb (b / cpi) 2048 hc) ∙ passed _ _ _ ok)
      ∙ ap Ok (witness-column cpi (b / cpi) (b % cpi) hc ∙ div-add-mod' b cpi)

  -- ---- what is refused: a column past the limit, before a cycle past the batch; and, on the way back, a batch column from one_col on

  pub column-refused : (limit c d : ℕ) → limit ≤ c → mapped limit cpi c d ≡ Err (refusal ColumnRange 0)
  unfolding mapped
  column-refused limit c d h = sym (refused _ _ _ (le-ltb c limit h) ∙ passed _ _ _ ok)

  pub cycle-refused : (limit c d : ℕ) → c < limit → cpi ≤ d → mapped limit cpi c d ≡ Err (refusal CycleRange 0)
  unfolding mapped
  cycle-refused limit c d hc h = sym (refused _ _ _ (le-ltb d cpi h) ∙ passed _ _ _ (lt-ltb c limit hc) ∙ passed _ _ _ ok)

  pub back-refused : (b : ℕ) → 2048 * cpi ≤ b → unmapped cpi b ≡ Err (refusal ColumnRange 0)
  unfolding unmapped
  back-refused b h = sym (refused _ _ _ (le-ltb b (2048 * cpi) h) ∙ passed _ _ _ ok)

-- and first of all a number that is no size
pub size-refused : (cpi limit c d b : ℕ) → allowed cpi ≡ false
    → (mapped limit cpi c d ≡ Err (refusal BatchSize 0)) × (unmapped cpi b ≡ Err (refusal BatchSize 0))
unfolding mapped unmapped
size-refused cpi limit c d b e = (sym (refused _ _ _ e), sym (refused _ _ _ e))

-- by numbers: four cycles have batch columns 0 to 8,191, and three are no size
pub given-ways : (mapped 2048 4 5 2 ≡ Ok 22) × (unmapped 4 22 ≡ cycle_column 5 2) × (unmapped 4 8191 ≡ cycle_column 2047 3)
    × (unmapped 4 8192 ≡ Err (refusal ColumnRange 0)) × (unmapped 3 22 ≡ Err (refusal BatchSize 0))
    × (unmapped 3 8192 ≡ Err (refusal BatchSize 0))
unfolding mapped unmapped column_at allowed
given-ways = (refl, refl, refl, refl, refl, refl)

-- distinct columns of cycles stand at distinct batch columns
pub columns-apart : (cpi c d e f : ℕ) → c < 2048 → d < cpi → e < 2048 → f < cpi → column_at cpi c d ≡ column_at cpi e f → (c ≡ e) × (d ≡ f)
columns-apart cpi c d e f hc hd he hf q =
    let r : c * cpi + d ≡ e * cpi + f = sym (witness-column cpi c d hc) ∙ q ∙ witness-column cpi e f he in (
      sym (digits_div c hd) ∙ ap (λ (b : ℕ). b / cpi) r ∙ digits_div e hf,
      sym (digits_mod c hd) ∙ ap (λ (b : ℕ). b % cpi) r ∙ digits_mod e hf,
    )
