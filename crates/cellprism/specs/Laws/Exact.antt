-- The answer's word loses nothing but the counts of a failure.
-- Assumes nothing.
use Rattle.std.specs.Prelude.{◌≡◌, refl, Bool, true, false, cond, ◌&&◌, List, [], ◌∷◌, ◌++◌, ℕ, ◌<◌, ltb, eqb, length, Err, Ok}
use Rattle.std.proofs.Common.{sym, ap, subst, ◌∙◌, arith, ltb-true, length-append}
use Rattle.base.specs.Lists.{joined, from, from_each}
use Rattle.base.specs.Laws.Tests.{both}
use Rattle.layout.specs.Batch.{ROW-WORDS}
use Rattle.layout.specs.Questions.{no}
use Rattle.layout.specs.Laws.Questions.{if_yes_lem}
use Rattle.circuit.specs.Rows.{Row, numbered, of_relation}
use Rattle.circuit.specs.Circuit.{bin_families, fld_families, circuit_rows, circuit_words}
use Rattle.circuit.specs.Parse.{rows_of}
use Rattle.circuit.specs.Laws.House.{words-read}
use Rattle.verdict.specs.declared.Verdict.{Verdict}
use Rattle.verdict.specs.Row.{cycle_of}
use Rattle.strict.specs.declared.Known.TheVariants.{House}
use Rattle.verdict.specs.Counts.{counts, none, rows}
use Rattle.verdict.specs.Check.{Constraint, constraints, met, run, judged, known_checked}
use Rattle.verdict.specs.Laws.Run.{Outcome, all-met, one-fails, outcome}
use Rattle.verdict.specs.Laws.Counts.{plus, none-plus, rows-counted, tally, rows-tally, tally-all}
use Rattle.verdict.specs.Counted.{CountedApart}
use Rattle.verdict.proofs.Laws.Counted.{known-counted}
use Rattle.verdict.specs.Laws.Known.{every-known}
use Rattle.cellprism.specs.Bytes.{words_of, row_of}
use Rattle.cellprism.specs.Answer.{row_checked}
use Rattle.cellprism.specs.Exact.{batch_row_of, Small, Exact}
use Rattle.cellprism.specs.Laws.Packing.{row-asked}
use Rattle.layout.specs.declared.questions.Question.TheVariants.{BatchLength}

rows_fit : List Constraint → Bool
rows_fit [] = true
rows_fit (k ∷ ks) = ltb (batch_row_of k) 512 && rows_fit ks

-- the computed test
house-fits : rows_fit (constraints 1 circuit_rows) ≡ true
unfolding rows_fit constraints of_relation circuit_rows bin_families fld_families from from_each joined numbered
house-fits = refl

row_fits : (xs ys : List Constraint) (k : Constraint) → rows_fit (xs ++ (k ∷ ys)) ≡ true → batch_row_of k < 512
unfolding rows_fit
row_fits [] ys k h = ltb-true (batch_row_of k) 512 (both (ltb (batch_row_of k) 512) (rows_fit ys) h).0
row_fits (x ∷ xs) ys k h = row_fits xs ys k (both (ltb (batch_row_of x) 512) (rows_fit (xs ++ (k ∷ ys))) h).1

judged-small : (batch : List ℕ) → Small (judged 1 circuit_words batch)
unfolding judged
judged-small batch = go (outcome test ks none)
  where
    test : Constraint → Bool
    test = met (cycle_of 1 batch)

    ks : List Constraint
    ks = constraints 1 (rows_of circuit_words)

    fit : rows_fit ks ≡ true
    fit = ap (λ (rs : List Row). rows_fit (constraints 1 rs)) words-read ∙ house-fits

    every : tally ks ≡ counts 483 31
    every = tally-all 1 (rows_of circuit_words) ∙ every-known House 1

    few : length ks ≡ 514
    few = sym (rows-tally ks) ∙ ap rows every

    go : Outcome test none ks (run test none ks) → Small (run test none ks)
    go (all-met p e) = subst Small (sym e) (none-plus (tally ks) ∙ every)
    go (one-fails f) =
        subst Small (sym f.says) (
          row_fits f.earlier f.later f.first (ap rows_fit (sym f.order) ∙ fit),
          omega (
            arith,
            few,
            ap length f.order,
            length-append f.earlier (f.first ∷ f.later),
            rows-counted f.first.row.relation (plus none (tally f.earlier)),
            rows-tally f.earlier,
          ),
        )

pub exact : (bytes : List ℕ) → Exact (row_checked bytes)
unfolding row_checked known_checked
exact bytes = by-test (eqb (length bytes) 65536)
  where
    by-test : (b : Bool) → Exact (cond b (known_checked House 1 (words_of ROW-WORDS bytes)) (Err (no BatchLength 0)))
    by-test true = subst Exact (if_yes_lem Err _ (row-asked bytes)) (judged-small (words_of ROW-WORDS bytes))
    by-test false = refl

-- bin and fld are counted apart from bytes too
pub row-counted : (bytes : List ℕ) (v : Verdict) → row_checked bytes ≡ Ok v → CountedApart 1 circuit_words (row_of bytes) v
unfolding row_checked
row-counted bytes v = by-test (eqb (length bytes) 65536)
  where
    by-test : (b : Bool) → cond b (known_checked House 1 (row_of bytes)) (Err (no BatchLength 0)) ≡ Ok v → CountedApart 1 circuit_words (row_of bytes) v
    by-test true e = known-counted House 1 (row_of bytes) v e
    by-test false e = let z : ◌≡◌ {A = ℕ} 0 1 = cc in absurd (omega arith)
