-- P4 and P5 of the bench sheet, of the check's own result.
-- Assumes nothing.
use Rattle.std.specs.Prelude.{◌≡◌, refl, Bool, true, false, List, [], map, ℕ, zero, suc, ◌+◌, ◌*◌, ◌<◌, eqb, length, get_or, set, replicate, Ok}
use Rattle.std.proofs.Common.{sym, ap, ap₂, ◌∙◌, arith, eqb-true, length-set, get_or-set_same, get_or-set_other}
use Rattle.std.proofs.lemmas.Bool.{eqb-false}
use Rattle.std.proofs.lemmas.List.{length-replicate}
use Rattle.base.specs.Lists.{joined, from, from_each}
use Rattle.base.specs.Laws.Lists.{all-every}
use Rattle.field.specs.Gf.{of_words, of_bit}
use Rattle.field.specs.Gf.Laws.{words-zero, words-one}
use Rattle.layout.specs.Batch.{allowed, column_at, scratch_fits, ROW-WORDS}
use Rattle.layout.specs.Laws.Mapping.{column-is}
use Rattle.circuit.specs.declared.Relation.TheVariants.{Bin, Fld}
use Rattle.circuit.specs.Rows.{Row, numbered, of_relation}
use Rattle.circuit.specs.Circuit.{bin_families, fld_families, circuit_rows, circuit_words}
use Rattle.circuit.specs.Parse.{rows_of}
use Rattle.circuit.specs.Laws.House.{words-read, in_order}
use Rattle.strict.specs.declared.Known.{Known}
use Rattle.strict.specs.declared.Known.TheVariants.{House}
use Rattle.strict.specs.Known.{listing_of}
use Rattle.verdict.specs.declared.Verdict.TheVariants.{Accepted, Failed}
use Rattle.verdict.specs.Row.{element_at, cycle_of}
use Rattle.verdict.specs.Counts.{counts, none, every_row_of}
use Rattle.verdict.specs.Check.{in_cycle, in_cycles, constraints, met, run, judged, checked}
use Rattle.verdict.specs.Named.{named}
use Rattle.verdict.specs.OverBits.{plain, sum_bits}
use Rattle.verdict.specs.Sheet.{one_row}
use Rattle.verdict.specs.Laws.Run.{run-stops}
use Rattle.verdict.specs.Laws.Verdicts.{accepts, answered-yes}
use Rattle.verdict.specs.Laws.Known.{every-known}
use Rattle.verdict.specs.Laws.ColumnAlone.{holds-zero, test_alone, all_told, cycle-says}
use Rattle.field.specs.Gf as gf

-- ---- the questions are passed, whatever stands in batch and scratch

pub checked-is : (batch scratch : List ℕ) → length batch ≡ ROW-WORDS → scratch_fits (length scratch) ≡ true
    → checked 1 circuit_words batch scratch
    ≡ record { answer = Ok (judged 1 circuit_words batch); scratch = replicate (length scratch) 0 }
unfolding allowed
checked-is batch scratch b s = answered-yes 1 circuit_words batch scratch refl in_order s b

-- ---- P4: over zeros every row holds

-- a list of zeros, and past its end
pub zeros : (n i : ℕ) → ◌≡◌ {A = ℕ} (get_or (replicate n 0) i 0) 0
zeros zero i = refl
zeros (suc n) zero = refl
zeros (suc n) (suc i) = zeros n i

nothing : (n cpi d c : ℕ) → cycle_of cpi (replicate n 0) d c ≡ gf.zero
unfolding cycle_of
nothing n cpi d c = ap₂ of_words (zeros n (2 * column_at cpi c d)) (zeros n (2 * column_at cpi c d + 1)) ∙ words-zero

-- whatever the batch size, over either listing
pub zeros-accepted : (k : Known) (cpi n : ℕ) → judged cpi (listing_of k) (replicate n 0) ≡ Accepted (every_row_of k cpi)
zeros-accepted k cpi n =
    accepts cpi (listing_of k) (replicate n 0)
    (λ d h. all-every _ (λ r. holds-zero (cycle_of cpi (replicate n 0) d) (nothing n cpi d) r.sides) (rows_of (listing_of k)))
    ∙ ap Accepted (every-known k cpi)

pub p4 : (scratch : List ℕ) → scratch_fits (length scratch) ≡ true
    → checked 1 circuit_words (replicate ROW-WORDS 0) scratch
    ≡ record { answer = Ok (Accepted (counts 483 31)); scratch = replicate (length scratch) 0 }
p4 scratch s =
    checked-is (replicate ROW-WORDS 0) scratch (length-replicate {A = ℕ} ROW-WORDS 0) s
    ∙ ap (λ v. record { answer = Ok v; scratch = replicate (length scratch) 0 }) (zeros-accepted House 1 ROW-WORDS)

-- zeros, and 1 in element p: as bits
pub element-alone : (n p c : ℕ) → 2 * p < n → element_at (set (replicate n 0) (2 * p) 1) c ≡ of_bit (eqb p c)
element-alone n p c h = by-test (eqb p c) refl
  where
    word-other : (i : ℕ) → (i ≡ 2 * p → ⊥) → ◌≡◌ {A = ℕ} (get_or (set (replicate n 0) (2 * p) 1) i 0) 0
    word-other i f = get_or-set_other (replicate n 0) (2 * p) i 1 0 f ∙ zeros n i

    by-test : (b : Bool) → eqb p c ≡ b → element_at (set (replicate n 0) (2 * p) 1) c ≡ of_bit b
    by-test true e =
        ap (element_at (set (replicate n 0) (2 * p) 1)) (sym (eqb-true p c e))
        ∙ ap₂ of_words (get_or-set_same (replicate n 0) (2 * p) 1 0 (omega (arith, length-replicate {A = ℕ} n 0)))
        (word-other (2 * p + 1) (λ q. omega arith)) ∙ words-one
    by-test false e =
        let f = eqb-false p c e in
        ap₂ of_words (word-other (2 * c) (λ q. f (omega arith))) (word-other (2 * c + 1) (λ q. omega arith)) ∙ words-zero

one-view : (c : ℕ) → cycle_of 1 one_row 0 c ≡ of_bit (eqb 2048 c)
unfolding cycle_of
one-view c = ap (element_at one_row) (column-is c) ∙ element-alone ROW-WORDS 2048 c (omega arith)

-- the two computed tests of the bin rows
bins : List Row
bins = of_relation Bin circuit_rows

bins-told : all_told 2048 bins ≡ true
unfolding all_told plain named bins of_relation circuit_rows bin_families fld_families from from_each joined numbered
bins-told = refl

bins-run : run (λ k. test_alone 2048 k.row) none (map (in_cycle 0) bins) ≡ Failed Bin 263 (counts 264 0)
unfolding run sum_bits named bins of_relation circuit_rows bin_families fld_families from from_each joined numbered
bins-run = refl

pub one-judged : judged 1 circuit_words one_row ≡ Failed Bin 263 (counts 264 0)
unfolding judged constraints from_each bins
one-judged =
    ap (λ (rs : List Row). run (met (cycle_of 1 one_row)) none (constraints 1 rs)) words-read
    ∙ run-stops (met (cycle_of 1 one_row)) (in_cycles 0 1 bins) (in_cycles 0 1 (of_relation Fld circuit_rows)) none
    (run-stops (met (cycle_of 1 one_row)) (map (in_cycle 0) bins) [] none (cycle-says (cycle_of 1 one_row) 2048 0 one-view bins bins-told bins-run))

pub p5 : (scratch : List ℕ) → scratch_fits (length scratch) ≡ true
    → checked 1 circuit_words one_row scratch ≡ record { answer = Ok (Failed Bin 263 (counts 264 0)); scratch = replicate (length scratch) 0 }
p5 scratch s =
    checked-is one_row scratch (length-set {A = ℕ} (replicate ROW-WORDS 0) 4096 1 ∙ length-replicate {A = ℕ} ROW-WORDS 0) s
    ∙ ap (λ v. record { answer = Ok v; scratch = replicate (length scratch) 0 }) one-judged
