-- How many constraints a verdict says were tested: those of relation bin and those of fld, apart (document 02, request 7).
-- Assumes nothing.
use Rattle.std.specs.Prelude.{List, ℕ, ◌+◌, ◌*◌, length}
use Rattle.circuit.specs.declared.Relation.{Relation}
use Rattle.circuit.specs.declared.Relation.TheVariants.{Bin, Fld}
use Rattle.circuit.specs.Rows.{Row, of_relation}
use Rattle.strict.specs.declared.Known.{Known}
use Rattle.strict.specs.Known.{rows_each}
use Rattle.verdict.specs.declared.Counts.{Counts}
use Rattle.verdict.specs.declared.Verdict.{Verdict}
use Rattle.verdict.specs.declared.Verdict.TheVariants.{Accepted, Failed}

-- so many of bin, and so many of fld
abbrev pub counts : ℕ → ℕ → Counts
counts b f = record { bin = b; fld = f }

-- before anything is tested
abbrev pub none : Counts
none = counts 0 0

-- one more, of a relation
abbrev pub counted : Relation → Counts → Counts
counted Bin n = counts (n.bin + 1) n.fld
counted Fld n = counts n.bin (n.fld + 1)

-- what document 01, its bench sheet and the requests before call `rows`: the two together
abbrev pub rows : Counts → ℕ
rows n = n.bin + n.fld

-- of either verdict
abbrev pub counts_of : Verdict → Counts
counts_of (Accepted n) = n
counts_of (Failed relation row n) = n

-- every row in each of so many cycles; and the same of a listing that is known by name
abbrev pub every_row : ℕ → List Row → Counts
every_row cpi rs = counts (cpi * length (of_relation Bin rs)) (cpi * length (of_relation Fld rs))

abbrev pub every_row_of : Known → ℕ → Counts
every_row_of k cpi = counts (rows_each k Bin * cpi) (rows_each k Fld * cpi)
