-- The verdict of the strict listing on the filler's batch where flags are wrong: it names the first cycle whose flags break one of rows 483
-- to 490, and there the first of these rows; 491 bin rows are counted for each cycle before.
-- Assumes nothing.
use Rattle.std.specs.Prelude.{◌≡◌, Bool, false, cond, ℕ, suc, ◌+◌, ◌*◌, ◌<◌, Ok}
use Rattle.std.proofs.Math.Path.{refl, sym, ap, ap₂}
use Rattle.std.proofs.Common.{◌∙◌, true≢false, arith, eq-eqb, ne_eqb}
use Rattle.std.proofs.Math.Bool.{true}
use mathlib.Core.List.{List, [], ◌∷◌, ◌++◌, map, map-append}
use Rattle.std.proofs.Math.ListN.{length, replicate}
use Rattle.base.specs.Lists.{joined, All, from, from_each}
use Rattle.base.specs.Laws.Tests.{both, passed, refused}
use Rattle.base.specs.Laws.Cases.{no_true}
use Rattle.base.specs.Laws.Lists.{all_append, all_map}
use Rattle.field.specs.declared.Gf128.{Gf128}
use Rattle.layout.specs.Columns.{ONE-COL}
use Rattle.layout.specs.Batch.{allowed, scratch_fits}
use Rattle.layout.specs.Laws.Sizes.{allowed-range}
use Rattle.circuit.specs.declared.Relation.TheVariants.{Bin, Fld}
use Rattle.circuit.specs.Rows.{Sides, Row, numbered, of_relation}
use Rattle.circuit.specs.Circuit.{bin_families, fld_families}
use Rattle.circuit.specs.Laws.Families.{all-numbered}
use Rattle.strict.specs.declared.Known.TheVariants.{House, Strict}
use Rattle.strict.specs.Rows.{flag_rows, strict_rows, strict_words}
use Rattle.strict.proofs.Laws.Strict.{in_order, words-read}
use Rattle.verdict.specs.declared.Counts.{Counts}
use Rattle.verdict.specs.declared.Verdict.TheVariants.{Failed}
use Rattle.verdict.specs.Row.{cycle_of, holds, bits_of}
use Rattle.verdict.specs.OverBits.{sum_bits}
use Rattle.verdict.specs.Counts.{counts, none, counted}
use Rattle.verdict.specs.Check.{in_cycle, in_cycles, constraints, met, run, judged, checked}
use Rattle.verdict.specs.Laws.Counts.{plus, of_one, tally, tally-numbered}
use Rattle.verdict.specs.Laws.Known.{tally-known}
use Rattle.verdict.specs.Laws.Run.{run_past, run-stops}
use Rattle.verdict.specs.Laws.Verdicts.{cycle-fails, answered-yes}
use Rattle.step.specs.Step.{Step}
use Rattle.step.specs.Strict.{StrictStep}
use Rattle.step.specs.Solve.{lacks}
use Rattle.step.specs.Filling.{filler_bits, filled}
use Rattle.step.specs.Demand3.{Premises}
use Rattle.step.proofs.Laws.Solvable.{reads_row, same-lacks}
use Rattle.step.proofs.Laws.Determining.{known-given}
use Rattle.step.proofs.Laws.Given.{SameGiven}
use Rattle.step.proofs.Laws.FieldRows.{over_bits, bin-row}
use Rattle.step.proofs.Laws.Cycle.{OfBits, all_over_bits, all-bin}
use Rattle.step.proofs.Laws.FillingElements.{filling-length}
use Rattle.step.proofs.Laws.Batch.{one_bit, same-given, of-bits, rows-or-conditions}
use Rattle.step.proofs.Laws.Listings.{all_read_given, same-further, listed}
use Rattle.step.proofs.Laws.Strict.{meaning}
use Rattle.step.proofs.Laws.Chosen.{with_one, premises-of}
use Rattle.step.proofs.Laws.StrictFlags.{flag_bits, flagged, ten-met, there, idle-there, bits-there}
use Rattle.circuit.specs.Laws.House as house
use Rattle.strict.proofs.Laws.Strict as strict

-- which of the rows is the first that a cycle's bits break: as many as there are where none is
unfoldable pub first_broken : (ℕ → Bool) → List Sides → ℕ
first_broken b [] = 0
first_broken b (s ∷ ss) = cond (lacks b s) 0 (suc (first_broken b ss))

-- it is told by the given columns
same-broken : (y z : ℕ → Bool) → SameGiven y z → (ss : List Sides) → all_read_given ss ≡ true → first_broken y ss ≡ first_broken z ss
unfolding first_broken
same-broken y z h [] e = refl
same-broken y z h (s ∷ ss) e =
    let p = both (reads_row [] s) (all_read_given ss) e in
    ap₂ (λ (t : Bool) (n : ℕ). cond t 0 (suc n)) (same-lacks [] s y z p.0 (λ c k. h c (known-given c k))) (same-broken y z h ss p.1)

-- ---- a walk over rows of one cycle, numbered from m, where n were tested before

module _ (view : ℕ → ℕ → Gf128) (e : ℕ) (b : ℕ → Bool) (o : OfBits (view e) b) where
  run-breaks : (ss : List Sides) (m : ℕ) (n : Counts) → all_over_bits ss ≡ true → first_broken b ss < length ss
      → run (met view) n (map (in_cycle e) (numbered Bin m ss))
      ≡ Failed Bin (512 * e + (m + first_broken b ss)) (plus n (of_one Bin (first_broken b ss + 1)))
  unfolding run numbered first_broken
  run-breaks [] m n t l = absurd (omega arith)
  run-breaks (s ∷ ss) m n t l = go (lacks b s) refl l (run-breaks ss (suc m) (counted Bin n) (both (over_bits s) (all_over_bits ss) t).1)
    where
      over : over_bits s ≡ true
      over = (both (over_bits s) (all_over_bits ss) t).0

      go : (k : Bool) → lacks b s ≡ k → cond k 0 (suc (first_broken b ss)) < suc (length ss)
          → (first_broken b ss < length ss
          → run (met view) (counted Bin n) (map (in_cycle e) (numbered Bin (suc m) ss))
          ≡ Failed Bin (512 * e + (suc m + first_broken b ss)) (plus (counted Bin n) (of_one Bin (first_broken b ss + 1))))
          → run (met view) n (map (in_cycle e) (numbered Bin m (s ∷ ss)))
          ≡ Failed Bin (512 * e + (m + cond k 0 (suc (first_broken b ss)))) (plus n (of_one Bin (cond k 0 (suc (first_broken b ss)) + 1)))
      go true q l later =
          sym (refused (holds (view e) s) _ _ (no_true _ (λ h. true≢false (sym q ∙ (bin-row (view e) b o.bits s over).0 h))))
          ∙ ap₂ (Failed Bin) (omega arith) (ap₂ counts (omega arith) (omega arith))
      go false q l later =
          sym (passed (holds (view e) s) _ _ ((bin-row (view e) b o.bits s over).1 q))
          ∙ later (omega arith)
          ∙ ap₂ (Failed Bin) (omega arith) (ap₂ counts (omega arith) (omega arith))

-- ---- the rows of a cycle

house_bins : List Row
house_bins = numbered Bin 0 (joined bin_families)

added_bins : List Row
added_bins = numbered Bin 483 flag_rows

-- by one computed test
bins-are : of_relation Bin strict_rows ≡ house_bins ++ added_bins
unfolding house_bins added_bins of_relation strict_rows flag_rows bin_families fld_families from from_each joined numbered
bins-are = refl

-- ---- the verdict

module _ (cpi : ℕ) (size : allowed cpi ≡ true) (w : List ℕ) (p : Premises cpi w) where
  some : 0 < cpi
  some = (allowed-range cpi size).0

  abbrev W : List ℕ
  W = filled cpi w

  abbrev view : ℕ → ℕ → Gf128
  view = cycle_of cpi W

  of : (d : ℕ) → d < cpi → OfBits (view d) (bits_of cpi W d)
  unfolding filled
  of = of-bits cpi some w p (filler_bits cpi w)

  given : (d : ℕ) → d < cpi → SameGiven (bits_of cpi W d) (bits_of cpi w d)
  unfolding filled
  given = same-given cpi some w p (filler_bits cpi w)

  -- the house's bin rows hold where the ten conditions do
  house-hold : (d : ℕ) → d < cpi → Step (bits_of cpi w d) (cycle_of cpi w d (ONE-COL + 1)) → All (λ r. met view (in_cycle d r) ≡ true) house_bins
  unfolding house_bins
  house-hold d l s = (all-numbered (λ t. holds (view d) t ≡ true) Bin 0 (joined bin_families)).1 ((rows-or-conditions cpi some w p d l).1 s).0

  -- and all of them where the strict conditions do
  all_hold_lem : (d : ℕ) → d < cpi → StrictStep (bits_of cpi w d) (cycle_of cpi w d (ONE-COL + 1))
      → All (λ r. met view (in_cycle d r) ≡ true) (house_bins ++ added_bins)
  unfolding added_bins
  all_hold_lem d l s =
      let flags = ((meaning Strict (bits_of cpi w d) _ (one_bit cpi some w p d)).0 s).1 in
      let filled-flags = same-further _ _ (λ c e. sym (given d l c e)) flag_rows (listed Strict).read-given flags in
      all_append _ house_bins added_bins (house-hold d l s.ten)
      ((all-numbered (λ t. holds (view d) t ≡ true) Bin 483 flag_rows).1
      ((all-bin (view d) (bits_of cpi W d) (of d l) flag_rows (listed Strict).over-bits).1 filled-flags))

  module _ (e : ℕ) (inside : e < cpi) (before : (d : ℕ) → d < e → StrictStep (bits_of cpi w d) (cycle_of cpi w d (ONE-COL + 1)))
      (ten : Step (bits_of cpi w e) (cycle_of cpi w e (ONE-COL + 1))) where
    abbrev j : ℕ
    j = first_broken (bits_of cpi w e) flag_rows

    cycle-breaks : j < 8 → run (met view) none (map (in_cycle e) (house_bins ++ added_bins))
        ≡ Failed Bin (512 * e + (483 + j)) (counts (484 + j) 0)
    unfolding house_bins added_bins
    cycle-breaks l =
        let same = same-broken _ _ (given e inside) flag_rows (listed Strict).read-given in
        let few : first_broken (bits_of cpi W e) flag_rows < length flag_rows = omega (arith, same, (strict.counts).added-rows) in
        ap (run (met view) none) (map-append (in_cycle e) house_bins added_bins)
        ∙ run_past (met view) (map (in_cycle e) house_bins) (map (in_cycle e) added_bins) none
        ((all_map (λ k. met view k ≡ true) (in_cycle e) house_bins).1 (house-hold e inside ten))
        ∙ run-breaks view e (bits_of cpi W e) (of e inside) flag_rows 483 (plus none (tally (map (in_cycle e) house_bins))) (listed Strict).over-bits
        few
        ∙ ap₂ (Failed Bin) (ap (λ (i : ℕ). 512 * e + (483 + i)) same)
        (ap₂ (λ (n : Counts) (i : ℕ). plus (plus none n) (of_one Bin (i + 1)))
        (tally-numbered Bin e 0 (joined bin_families) ∙ ap (of_one Bin) (house.counts).bin-rows) same ∙ ap₂ counts (omega arith) refl)

    -- the cycles before
    before-e : tally (in_cycles 0 e (house_bins ++ added_bins)) ≡ of_one Bin (e * 491)
    before-e =
        ap (λ (rs : List Row). tally (in_cycles 0 e rs)) (sym bins-are)
        ∙ ap (λ (rs : List Row). tally (in_cycles 0 e (of_relation Bin rs))) (sym words-read) ∙ tally-known Strict Bin e

    named-row : j < 8 → judged cpi strict_words W ≡ Failed Bin (512 * e + 483 + j) (counts (491 * e + 484 + j) 0)
    unfolding judged constraints
    named-row l =
        ap (λ (rs : List Row). run (met view) none (constraints cpi rs)) words-read
        ∙ run-stops (met view) (in_cycles 0 cpi (of_relation Bin strict_rows)) (in_cycles 0 cpi (of_relation Fld strict_rows)) none
        (ap (λ (rs : List Row). run (met view) none (in_cycles 0 cpi rs)) bins-are
        ∙ cycle-fails (met view) (house_bins ++ added_bins) cpi 0 e none inside (λ d _ m. all_hold_lem d (omega arith) (before d (omega arith)))
        (ap (λ (k : ℕ). run (met view) none (map (in_cycle k) (house_bins ++ added_bins))) (omega arith) ∙ cycle-breaks l))
        ∙ ap₂ (Failed Bin) (omega arith)
        (ap (λ (n : Counts). plus none (plus n (counts (484 + j) 0))) before-e ∙ ap₂ counts (omega arith) refl)

    -- of the check as it is called
    pub strict-names : (scratch : List ℕ) → scratch_fits (length scratch) ≡ true → first_broken (bits_of cpi w e) flag_rows < 8
        → checked cpi strict_words (filled cpi w) scratch
        ≡ record {
          answer = Ok (Failed Bin (512 * e + 483 + first_broken (bits_of cpi w e) flag_rows)
              (counts (491 * e + 484 + first_broken (bits_of cpi w e) flag_rows) 0));
          scratch = replicate (length scratch) 0;
        }
    unfolding filled
    strict-names scratch room l =
        answered-yes cpi strict_words W scratch size in_order room (filling-length cpi (filler_bits cpi w) w ∙ p.words)
        ∙ ap (λ v. record { answer = Ok v; scratch = replicate (length scratch) 0 }) (named-row l)

-- ---- so of flags in one cycle, with 0 elsewhere

-- the check of the filler's batch, with the flags of cycle e as they are given, names a bin row and counts so many of bin, and none of fld
abbrev pub Names : List ℕ → ℕ → ℕ → Bool → Bool → Bool → Bool → Bool → ℕ → ℕ → Type 0
Names scratch cpi e load store byte half word row bin =
    checked cpi strict_words (filled cpi (flagged cpi e load store byte half word)) scratch
    ≡ record { answer = Ok (Failed Bin row (counts bin 0)); scratch = replicate (length scratch) 0 }

module _ (cpi : ℕ) (size : allowed cpi ≡ true) (scratch : List ℕ) (room : scratch_fits (length scratch) ≡ true) (e : ℕ) (inside : e < cpi)
    (l s y h w : Bool) where
  flags-name : (j : ℕ) → first_broken (with_one (flag_bits l s y h w)) flag_rows ≡ j → j < 8
      → Names scratch cpi e l s y h w (512 * e + 483 + j) (491 * e + 484 + j)
  flags-name j broken few =
      let is-j : first_broken (bits_of cpi (flagged cpi e l s y h w) e) flag_rows ≡ j
      = ap (λ (b : ℕ → Bool). first_broken b flag_rows) (bits-there cpi size scratch room e inside l s y h w) ∙ broken in
      strict-names cpi size (flagged cpi e l s y h w) (premises-of cpi (allowed-range cpi size).0 _) e inside
      (λ d m. idle-there cpi size scratch room e inside l s y h w Strict d (omega arith) (ne_eqb d e (omega arith)))
      (there cpi size scratch room e inside l s y h w House e inside true (eq-eqb e e refl) (ten-met l s y h w)) scratch room
      (omega (arith, is-j))
      ∙ ap (λ (i : ℕ). record {
        answer = Ok (Failed Bin (512 * e + 483 + i) (counts (491 * e + 484 + i) 0));
        scratch = replicate (length scratch) 0;
      }) is-j

-- with all numbers written out, each of the eight rows named once: in one cycle a load that stores, loads of two widths, a byte and a half
-- without a load; a load without a width, in the last of four cycles; a word without a load, in the last of 256
pub record GivenNames (scratch : List ℕ) : Type 0 where
  pub stores : Names scratch 1 0 true true true false false 483 484
  pub byte-half : Names scratch 1 0 true false true true false 484 485
  pub byte_word : Names scratch 1 0 true false true false true 485 486
  pub half-word : Names scratch 1 0 true false false true true 486 487
  pub byte-alone : Names scratch 1 0 false false true false false 487 488
  pub half-alone : Names scratch 1 0 false false false true false 488 489
  pub no-width : Names scratch 4 3 true false false false false 2026 1964
  pub word-alone : Names scratch 256 255 false true false false true 131049 125695

pub given-names : (scratch : List ℕ) → scratch_fits (length scratch) ≡ true → GivenNames scratch
unfolding allowed first_broken flag_rows lacks sum_bits
given-names scratch room =
    record {
      stores = flags-name 1 refl scratch room 0 (omega arith) true true true false false 0 refl (omega arith);
      byte-half = flags-name 1 refl scratch room 0 (omega arith) true false true true false 1 refl (omega arith);
      byte_word = flags-name 1 refl scratch room 0 (omega arith) true false true false true 2 refl (omega arith);
      half-word = flags-name 1 refl scratch room 0 (omega arith) true false false true true 3 refl (omega arith);
      byte-alone = flags-name 1 refl scratch room 0 (omega arith) false false true false false 4 refl (omega arith);
      half-alone = flags-name 1 refl scratch room 0 (omega arith) false false false true false 5 refl (omega arith);
      no-width = flags-name 4 refl scratch room 3 (omega arith) true false false false false 7 refl (omega arith);
      word-alone = flags-name 256 refl scratch room 255 (omega arith) false true false false true 6 refl (omega arith);
    }
