-- The listings that are known by name, so that none has to be lent: the house listing and the strict one.
-- Assumes nothing.
use Rattle.std.specs.Prelude.{List, [], ℕ}
use Rattle.circuit.specs.declared.Relation.{Relation}
use Rattle.circuit.specs.declared.Relation.TheVariants.{Bin, Fld}
use Rattle.circuit.specs.Rows.{Sides}
use Rattle.circuit.specs.Circuit.{circuit_words}
use Rattle.strict.specs.declared.Known.{Known}
use Rattle.strict.specs.declared.Known.TheVariants.{House, Strict}
use Rattle.strict.specs.Rows.{flag_rows, strict_words}

-- its words
abbrev pub listing_of : Known → List ℕ
listing_of House = circuit_words
listing_of Strict = strict_words

-- the bin rows that it has behind those of the house listing
abbrev pub further_rows : Known → List Sides
further_rows House = []
further_rows Strict = flag_rows

-- how many rows it has of a relation: what an accepted batch counts there for each cycle
abbrev pub rows_each : Known → Relation → ℕ
rows_each House Bin = 483
rows_each Strict Bin = 491
rows_each k Fld = 31
