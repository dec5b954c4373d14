-- What a failing verdict names: a cycle of the batch and a row of the listing. The way back from the batch row gives both, the search by
-- them finds that very row, and in that cycle it does not hold.
-- Assumes nothing.
use Rattle.std.specs.Prelude.{◌≡◌, refl, true, false, List, ◌∷◌, ℕ, ◌+◌, ◌^◌, ◌<◌, get_or, drop, Ok}
use Rattle.std.proofs.Common.{sym}
use Rattle.std.proofs.Math.Path.{subst}
use Rattle.base.specs.Lists.{All}
use Rattle.base.specs.Laws.Lists.{all_right, all_then}
use Rattle.layout.specs.Batch.{allowed}
use Rattle.circuit.specs.declared.Relation.{Relation}
use Rattle.circuit.specs.Rows.{Sides}
use Rattle.circuit.specs.Parse.{parse, rows_of}
use Rattle.circuit.specs.Valid.{validated}
use Rattle.circuit.specs.Found.{rows_a_cycle, found, place_at}
use Rattle.circuit.specs.Batched.{batch_row, unmapped_row, cycle_row}
use Rattle.circuit.proofs.Laws.BatchRows.{back-of-row}
use Rattle.verdict.specs.declared.Counts.{Counts}
use Rattle.verdict.specs.declared.Verdict.{Verdict}
use Rattle.verdict.specs.declared.Verdict.TheVariants.{Accepted, Failed}
use Rattle.verdict.specs.Row.{cycle_of, holds}
use Rattle.verdict.specs.Counts.{none}
use Rattle.verdict.specs.Check.{Constraint, constraints, met, judged}
use Rattle.verdict.specs.Laws.Run.{Outcome, all-met, one-fails, outcome}
use Rattle.verdict.specs.Laws.Verdicts.{every-constraint}
use Rattle.verdict.specs.Laws.RowsFound.{FoundAs, rows-found}

-- a verdict with relation rel and batch row b: its cycle and row number, and of the row its terms and where it stands in the listing
pub record Names (cpi : ℕ) (listing batch : List ℕ) (rel : Relation) (b : ℕ) : Type 0 where
  pub cycle : ℕ
  pub number : ℕ
  pub sides : Sides
  pub start : ℕ
  pub end : ℕ
  pub in-batch : cycle < cpi
  pub in-relation : number < rows_a_cycle rel
  pub batch-row : b ≡ batch_row rel cycle number
  pub back : unmapped_row cpi rel b ≡ cycle_row cycle number
  pub place : found listing rel number ≡ place_at start end
  pub row_is : (parse (drop (start + 1) listing)).before ≡ sides
  pub fails : holds (cycle_of cpi batch cycle) sides ≡ false

module _ (cpi : ℕ) (listing batch : List ℕ) (size : allowed cpi ≡ true) (fit : (i : ℕ) → get_or listing i 0 < 2 ^ 32)
    (valid : validated listing ≡ Ok tt) where
  abbrev Findable : Constraint → Type 0
  Findable k = (k.cycle < cpi) × FoundAs listing k.row

  -- every constraint is of a cycle that the batch has and of a row that is found
  all-findable : All Findable (constraints cpi (rows_of listing))
  all-findable =
      (every-constraint Findable cpi (rows_of listing)).1
      (λ d h. all_then (FoundAs listing) _ (λ r f. (h, f)) (rows_of listing) (rows-found listing fit valid))

  names : (k : Constraint) → Findable k → met (cycle_of cpi batch) k ≡ false
      → Names cpi listing batch k.row.relation (batch_row k.row.relation k.cycle k.row.number)
  names k h e =
      record {
        cycle = k.cycle;
        number = k.row.number;
        sides = k.row.sides;
        start = h.1.start;
        end = h.1.end;
        in-batch = h.0;
        in-relation = h.1.number_fits;
        batch-row = refl;
        back = back-of-row cpi size k.row.relation k.cycle k.row.number h.0 h.1.number_fits;
        place = h.1.place;
        row_is = h.1.sides;
        fails = e;
      }

  abbrev NamedBy : Verdict → Type 0
  NamedBy (Accepted n) = Unit
  NamedBy (Failed rel b n) = Names cpi listing batch rel b

  named_by : NamedBy (judged cpi listing batch)
  unfolding judged
  named_by = by-outcome (outcome (met (cycle_of cpi batch)) (constraints cpi (rows_of listing)) none)
    where
      by-outcome : Outcome (met (cycle_of cpi batch)) none (constraints cpi (rows_of listing)) (judged cpi listing batch)
          → NamedBy (judged cpi listing batch)
      by-outcome (all-met p e) = subst NamedBy (sym e) tt
      by-outcome (one-fails f) =
          let h = all_right Findable f.earlier (f.first ∷ f.later) (subst (All Findable) f.order all-findable) in
          subst NamedBy (sym f.says) (names f.first h.0 f.fails)

  -- so a row asked for with the verdict's relation, row and cycle is the one that failed
  pub failed-names : {rel : Relation} {b : ℕ} {n : Counts} → judged cpi listing batch ≡ Failed rel b n → Names cpi listing batch rel b
  failed-names e = subst NamedBy e named_by
