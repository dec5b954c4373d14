-- What the rows of a listing that is known by name count: those of a relation in so many cycles, and every row of every cycle.
-- Assumes nothing.
use Rattle.std.specs.Prelude.{◌≡◌, ℕ, ◌*◌, length}
use Rattle.std.proofs.Common.{ap, ap₂, ◌∙◌, mul_comm}
use Rattle.circuit.specs.declared.Relation.{Relation}
use Rattle.circuit.specs.declared.Relation.TheVariants.{Bin, Fld}
use Rattle.circuit.specs.Rows.{of_relation}
use Rattle.circuit.specs.Parse.{rows_of}
use Rattle.strict.specs.declared.Known.{Known}
use Rattle.strict.specs.Known.{listing_of, rows_each}
use Rattle.strict.proofs.Laws.Known.{row_count}
use Rattle.verdict.specs.Counts.{counts, every_row, every_row_of}
use Rattle.verdict.specs.Check.{in_cycles}
use Rattle.verdict.specs.Laws.Counts.{of_one, tally, tally-cycles}

pub tally-known : (k : Known) (rel : Relation) (n : ℕ)
    → tally (in_cycles 0 n (of_relation rel (rows_of (listing_of k)))) ≡ of_one rel (n * rows_each k rel)
tally-known k rel n = tally-cycles rel (rows_of (listing_of k)) n 0 ∙ ap (λ (m : ℕ). of_one rel (n * m)) (row_count k rel)

pub every-known : (k : Known) (cpi : ℕ) → every_row cpi (rows_of (listing_of k)) ≡ every_row_of k cpi
every-known k cpi = ap₂ counts (in_all Bin) (in_all Fld)
  where
    in_all : (rel : Relation) → cpi * length (of_relation rel (rows_of (listing_of k))) ≡ rows_each k rel * cpi
    in_all rel = ap (◌*◌ cpi) (row_count k rel) ∙ mul_comm cpi (rows_each k rel)
