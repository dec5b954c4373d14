-- Failing verdicts of every cycle, with their numbers written out: of a batch that is 0 but for one column of cycle d the check names the
-- row of that cycle, 512 · d or 32 · d further on. It counts the rows before: where it fails in bin, 483 of bin for each cycle before and
-- none of fld; where it fails in fld, 483 of bin for every cycle of the batch, and 31 of fld for each before.
-- Assumes nothing.
use Rattle.std.specs.Prelude.{◌≡◌, refl, Bool, true, false, List, map, ℕ, ◌+◌, ◌*◌, ◌<◌, eqb, length, set, replicate, Ok}
use Rattle.std.proofs.Common.{sym, ap₂, subst, ◌∙◌, arith, eqb-true, eq-eqb, ne_eqb, length-set}
use Rattle.std.proofs.Math.Path.{ap}
use Rattle.std.proofs.Math.Decide.{dec_lt}
use Rattle.std.proofs.lemmas.Bool.{eqb-false}
use Rattle.std.proofs.lemmas.List.{length-replicate}
use Rattle.base.specs.Lists.{joined, All, from, from_each}
use Rattle.base.specs.Laws.Lists.{all-every, all_map}
use Rattle.field.specs.declared.Gf128.{Gf128}
use Rattle.field.specs.Gf.{of_bit}
use Rattle.layout.specs.Batch.{allowed, column_at, batch_words, scratch_fits}
use Rattle.layout.specs.Laws.Mapping.{witness-column, public-column, column-below, columns-apart}
use Rattle.circuit.specs.declared.Relation.{Relation}
use Rattle.circuit.specs.declared.Relation.TheVariants.{Bin, Fld}
use Rattle.circuit.specs.Rows.{Row, numbered, of_relation}
use Rattle.circuit.specs.Circuit.{bin_families, fld_families, circuit_rows, circuit_words}
use Rattle.circuit.specs.Batched.{batch_row}
use Rattle.circuit.specs.Laws.House.{words-read, in_order}
use Rattle.strict.specs.declared.Known.TheVariants.{House}
use Rattle.strict.specs.Known.{rows_each}
use Rattle.verdict.specs.declared.Counts.{Counts}
use Rattle.verdict.specs.declared.Verdict.{Verdict}
use Rattle.verdict.specs.declared.Verdict.TheVariants.{Accepted, Failed}
use Rattle.verdict.specs.Row.{cycle_of}
use Rattle.verdict.specs.Counts.{counts, none}
use Rattle.verdict.specs.Check.{in_cycle, in_cycles, constraints, met, run, judged, checked}
use Rattle.verdict.specs.Named.{named}
use Rattle.verdict.specs.OverBits.{plain, sum_bits}
use Rattle.verdict.specs.Laws.Run.{Met, run-stops, run_past, met-run}
use Rattle.verdict.specs.Laws.Counts.{plus, none-plus, of_one, tally}
use Rattle.verdict.specs.Laws.Known.{tally-known}
use Rattle.verdict.specs.Laws.Verdicts.{in-cycles, cycle-fails, answered-yes}
use Rattle.verdict.specs.Laws.ColumnAlone.{holds-zero, test_alone, all_told, cycle-says}
use Rattle.verdict.proofs.Laws.Sheet.{element-alone}
use Rattle.field.specs.Gf as gf

-- a batch of cpi cycles: 1 in column c of cycle d, and 0 everywhere else
abbrev pub alone : ℕ → ℕ → ℕ → List ℕ
alone cpi c d = set (replicate (batch_words cpi) 0) (2 * (c * cpi + d)) 1

-- ---- its cycles: in cycle d column c alone is 1, in the others nothing

module _ (cpi c d : ℕ) (hc : c < 2048) (hd : d < cpi) where
  abbrev view : ℕ → ℕ → Gf128
  view = cycle_of cpi (alone cpi c d)

  view-at : (e k : ℕ) → view e k ≡ of_bit (eqb (column_at cpi c d) (column_at cpi k e))
  unfolding cycle_of
  view-at e k =
      element-alone (batch_words cpi) (c * cpi + d) (column_at cpi k e) (omega (arith, column-below cpi c d hc hd, witness-column cpi c d hc))
      ∙ ap (λ (p : ℕ). of_bit (eqb p (column_at cpi k e))) (sym (witness-column cpi c d hc))

  -- only column c of cycle d stands there
  only : (e k : ℕ) → e < cpi → column_at cpi k e ≡ column_at cpi c d → (k ≡ c) × (e ≡ d)
  only e k he q =
      elim (dec_lt k 2048) [
        | yes l ↦ columns-apart cpi k e c d l he hc hd q
        | no f ↦ absurd (omega (arith, column-below cpi c d hc hd, public-column cpi k e (omega arith), q))
      ]

  other-view : (e k : ℕ) → e < cpi → (e ≡ d → ⊥) → view e k ≡ gf.zero
  other-view e k he f = view-at e k ∙ ap of_bit (ne_eqb (column_at cpi c d) (column_at cpi k e) (λ q. f (only e k he (sym q)).1))

  alone-view : (k : ℕ) → view d k ≡ of_bit (eqb c k)
  alone-view k = view-at d k ∙ ap of_bit (by-test (eqb c k) refl)
    where
      by-test : (b : Bool) → eqb c k ≡ b → eqb (column_at cpi c d) (column_at cpi k d) ≡ b
      by-test true e = eq-eqb (column_at cpi c d) (column_at cpi k d) (ap (λ (x : ℕ). column_at cpi x d) (eqb-true c k e))
      by-test false e = ne_eqb (column_at cpi c d) (column_at cpi k d) (λ q. eqb-false c k e (sym (only d k hd (sym q)).0))

  -- a cycle that is all 0 meets every row
  other-holds : (e : ℕ) → e < cpi → (e ≡ d → ⊥) → (rs : List Row) → All (λ r. met view (in_cycle e r) ≡ true) rs
  other-holds e he f rs = all-every _ (λ r. holds-zero (view e) (λ k. other-view e k he f) r.sides) rs

-- ---- the computed tests: what the rows say where CA alone is 1, and where the first carry is

bins : List Row
bins = of_relation Bin circuit_rows

flds : List Row
flds = of_relation Fld circuit_rows

record Computed : Type 0 where
  byte-told : all_told 928 bins ≡ true
  byte-fails : run (λ k. test_alone 928 k.row) none (map (in_cycle 0) bins) ≡ Failed Bin 295 (counts 296 0)
  carry-told : all_told 448 bins ≡ true
  carry-holds : run (λ k. test_alone 448 k.row) none (map (in_cycle 0) bins) ≡ Accepted (counts 483 0)
  fld-told : all_told 448 flds ≡ true
  fld-fails : run (λ k. test_alone 448 k.row) none (map (in_cycle 0) flds) ≡ Failed Fld 2 (counts 0 3)

computed : Computed
unfolding run all_told sum_bits plain named bins flds of_relation circuit_rows bin_families fld_families from from_each joined numbered
computed =
    record {
      byte-told = refl;
      byte-fails = refl;
      carry-told = refl;
      carry-holds = refl;
      fld-told = refl;
      fld-fails = refl;
    }

-- ---- the verdicts

module _ (cpi c d : ℕ) (hc : c < 2048) (hd : d < cpi) where
  -- where the rows fail in cycle d, so does the walk through their relation, n constraints on
  relation-fails : (rs : List Row) (n : Counts) → all_told c rs ≡ true → {rel : Relation} {row : ℕ} {m : Counts}
      → run (λ k. test_alone c k.row) none (map (in_cycle 0) rs) ≡ Failed rel row m
      → run (met (cycle_of cpi (alone cpi c d))) n (in_cycles 0 cpi rs)
      ≡ Failed rel (batch_row rel d row) (plus n (plus (tally (in_cycles 0 d rs)) m))
  relation-fails rs n t e =
      cycle-fails (met (cycle_of cpi (alone cpi c d))) rs cpi 0 d n hd
      (λ e l u. other-holds cpi c d hc hd e (omega arith) (λ q. omega arith) rs)
      (ap (λ (k : ℕ). run (met (cycle_of cpi (alone cpi c d))) none (map (in_cycle k) rs)) (omega arith)
      ∙ cycle-says (cycle_of cpi (alone cpi c d)) c d (alone-view cpi c d hc hd) rs t e)

-- the rows of n cycles of a relation
before : (rel : Relation) (n : ℕ) → tally (in_cycles 0 n (of_relation rel circuit_rows)) ≡ of_one rel (n * rows_each House rel)
before rel n =
    ap (λ (rs : List Row). tally (in_cycles 0 n (of_relation rel rs))) (sym words-read) ∙ tally-known House rel n

-- CA of cycle d alone: bin row 295, the first gate of the loads by lane
pub bin-judged : (cpi d : ℕ) → d < cpi → judged cpi circuit_words (alone cpi 928 d) ≡ Failed Bin (512 * d + 295) (counts (483 * d + 296) 0)
unfolding judged constraints bins
bin-judged cpi d h =
    ap (λ (rs : List Row). run (met (cycle_of cpi (alone cpi 928 d))) none (constraints cpi rs)) words-read
    ∙ run-stops (met (cycle_of cpi (alone cpi 928 d))) (in_cycles 0 cpi bins) (in_cycles 0 cpi (of_relation Fld circuit_rows)) none
    (relation-fails cpi 928 d (omega arith) h bins none computed.byte-told computed.byte-fails)
    ∙ ap (Failed Bin (512 * d + 295))
    (none-plus (plus (tally (in_cycles 0 d bins)) (counts 296 0)) ∙ ap (λ (n : Counts). plus n (counts 296 0)) (before Bin d)
    ∙ ap₂ counts (omega arith) refl)

-- CARRY_OFF of cycle d alone: no bin row of any cycle, and fld row 2, the first carry
bins-met : (cpi d : ℕ) → d < cpi → Met (met (cycle_of cpi (alone cpi 448 d))) (in_cycles 0 cpi bins)
bins-met cpi d h = (in-cycles (λ k. met view k ≡ true) bins cpi 0).1 (λ e l u. by-test e (omega arith) (eqb e d) refl)
  where
    view : ℕ → ℕ → Gf128
    view = cycle_of cpi (alone cpi 448 d)

    by-test : (e : ℕ) → e < cpi → (b : Bool) → eqb e d ≡ b → All (λ r. met view (in_cycle e r) ≡ true) bins
    by-test e l true q =
        subst (λ (i : ℕ). All (λ r. met view (in_cycle i r) ≡ true) bins) (sym (eqb-true e d q))
        ((all_map (λ k. met view k ≡ true) (in_cycle d) bins).0
        (met-run (met view) (map (in_cycle d) bins) none (counts 483 0)
        (cycle-says view 448 d (alone-view cpi 448 d (omega arith) h) bins computed.carry-told computed.carry-holds)))
    by-test e l false q = other-holds cpi 448 d (omega arith) h e l (eqb-false e d q) bins

pub fld-judged : (cpi d : ℕ) → d < cpi → judged cpi circuit_words (alone cpi 448 d)
    ≡ Failed Fld (32 * d + 2) (counts (483 * cpi) (31 * d + 3))
unfolding judged constraints bins flds
fld-judged cpi d h =
    ap (λ (rs : List Row). run (met (cycle_of cpi (alone cpi 448 d))) none (constraints cpi rs)) words-read
    ∙ run_past (met (cycle_of cpi (alone cpi 448 d))) (in_cycles 0 cpi bins) (in_cycles 0 cpi flds) none (bins-met cpi d h)
    ∙ relation-fails cpi 448 d (omega arith) h flds (plus none (tally (in_cycles 0 cpi bins))) computed.fld-told computed.fld-fails
    ∙ ap (Failed Fld (32 * d + 2))
    (ap₂ (λ (m n : Counts). plus (plus none m) (plus n (counts 0 3))) (before Bin cpi) (before Fld d) ∙ ap₂ counts (omega arith) (omega arith))

-- ---- the check as it is called

module _ (cpi d : ℕ) (ok : allowed cpi ≡ true) (h : d < cpi) (scratch : List ℕ) (room : scratch_fits (length scratch) ≡ true) where
  as_called : (c : ℕ) {v : Verdict} → judged cpi circuit_words (alone cpi c d) ≡ v
      → checked cpi circuit_words (alone cpi c d) scratch ≡ record { answer = Ok v; scratch = replicate (length scratch) 0 }
  as_called c e =
      answered-yes cpi circuit_words (alone cpi c d) scratch ok in_order room
      (length-set {A = ℕ} (replicate (batch_words cpi) 0) (2 * (c * cpi + d)) 1 ∙ length-replicate {A = ℕ} (batch_words cpi) 0)
      ∙ ap (λ v. record { answer = Ok v; scratch = replicate (length scratch) 0 }) e

  pub bin-fails : checked cpi circuit_words (alone cpi 928 d) scratch
      ≡ record { answer = Ok (Failed Bin (512 * d + 295) (counts (483 * d + 296) 0)); scratch = replicate (length scratch) 0 }
  bin-fails = as_called 928 (bin-judged cpi d h)

  pub fld-fails : checked cpi circuit_words (alone cpi 448 d) scratch
      ≡ record { answer = Ok (Failed Fld (32 * d + 2) (counts (483 * cpi) (31 * d + 3))); scratch = replicate (length scratch) 0 }
  fld-fails = as_called 448 (fld-judged cpi d h)

-- with all numbers written out: the last cycle of two, of four and of 256
pub record Last (scratch : List ℕ) : Type 0 where
  pub bin-2 : checked 2 circuit_words (set (replicate 16384 0) 3714 1) scratch
      ≡ record { answer = Ok (Failed Bin 807 (counts 779 0)); scratch = replicate (length scratch) 0 }
  pub fld-2 : checked 2 circuit_words (set (replicate 16384 0) 1794 1) scratch
      ≡ record { answer = Ok (Failed Fld 34 (counts 966 34)); scratch = replicate (length scratch) 0 }
  pub bin-4 : checked 4 circuit_words (set (replicate 32768 0) 7430 1) scratch
      ≡ record { answer = Ok (Failed Bin 1831 (counts 1745 0)); scratch = replicate (length scratch) 0 }
  pub fld-4 : checked 4 circuit_words (set (replicate 32768 0) 3590 1) scratch
      ≡ record { answer = Ok (Failed Fld 98 (counts 1932 96)); scratch = replicate (length scratch) 0 }
  pub bin-256 : checked 256 circuit_words (set (replicate 2097152 0) 475646 1) scratch
      ≡ record { answer = Ok (Failed Bin 130855 (counts 123461 0)); scratch = replicate (length scratch) 0 }
  pub fld-256 : checked 256 circuit_words (set (replicate 2097152 0) 229886 1) scratch
      ≡ record { answer = Ok (Failed Fld 8162 (counts 123648 7908)); scratch = replicate (length scratch) 0 }

pub last : (scratch : List ℕ) → scratch_fits (length scratch) ≡ true → Last scratch
unfolding allowed
last scratch room =
    record {
      bin-2 = bin-fails 2 1 refl (omega arith) scratch room;
      fld-2 = fld-fails 2 1 refl (omega arith) scratch room;
      bin-4 = bin-fails 4 3 refl (omega arith) scratch room;
      fld-4 = fld-fails 4 3 refl (omega arith) scratch room;
      bin-256 = bin-fails 256 255 refl (omega arith) scratch room;
      fld-256 = fld-fails 256 255 refl (omega arith) scratch room;
    }
