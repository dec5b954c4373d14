-- A listing that is known by name is in order, and its rows are the house rows with those that it adds, so many of each relation.
-- Assumes nothing.
use Rattle.std.specs.Prelude.{◌≡◌, refl, List, ◌++◌, length, Ok}
use Rattle.std.proofs.Common.{sym, ap, ◌∙◌, append-nil}
use Rattle.base.specs.Lists.{joined, from, from_each}
use Rattle.circuit.specs.declared.Relation.{Relation}
use Rattle.circuit.specs.declared.Relation.TheVariants.{Bin, Fld}
use Rattle.circuit.specs.Rows.{Sides, Row, numbered, of_relation}
use Rattle.circuit.specs.Circuit.{bin_families, fld_families, circuit_rows}
use Rattle.circuit.specs.Parse.{rows_of}
use Rattle.circuit.specs.Valid.{validated}
use Rattle.strict.specs.declared.Known.{Known}
use Rattle.strict.specs.declared.Known.TheVariants.{House, Strict}
use Rattle.strict.specs.Rows.{flag_rows, rows_with, strict_rows}
use Rattle.strict.specs.Known.{listing_of, further_rows, rows_each}
use Rattle.circuit.specs.Laws.House as house
use Rattle.strict.proofs.Laws.Strict as strict

pub in_order : (k : Known) → validated (listing_of k) ≡ Ok tt
in_order House = house.in_order
in_order Strict = strict.in_order

pub rows_are : (k : Known) → rows_of (listing_of k) ≡ rows_with (further_rows k)
unfolding circuit_rows strict_rows
rows_are House =
    house.words-read
    ∙ ap (λ (ss : List Sides). numbered Bin 0 ss ++ numbered Fld 0 (joined fld_families)) (sym (append-nil (joined bin_families)))
rows_are Strict = strict.words-read

-- how many of each relation: by one computed test
house-rows : (rel : Relation) → length (of_relation rel circuit_rows) ≡ rows_each House rel
unfolding of_relation circuit_rows bin_families fld_families from from_each joined numbered
house-rows Bin = refl
house-rows Fld = refl

strict-rows : (rel : Relation) → length (of_relation rel strict_rows) ≡ rows_each Strict rel
unfolding of_relation strict_rows flag_rows bin_families fld_families from from_each joined numbered
strict-rows Bin = refl
strict-rows Fld = refl

pub row_count : (k : Known) (rel : Relation) → length (of_relation rel (rows_of (listing_of k))) ≡ rows_each k rel
row_count House rel = ap (λ (rs : List Row). length (of_relation rel rs)) house.words-read ∙ house-rows rel
row_count Strict rel = ap (λ (rs : List Row). length (of_relation rel rs)) strict.words-read ∙ strict-rows rel
