-- The constraints of cycle 0 in their order, and where the rows of RAM address, of the adder and of the public output stand among them.
-- Assumes nothing.
use Rattle.std.specs.Prelude.{◌≡◌, refl, true, List, [], ◌∷◌, ◌++◌, map, ℕ, length, drop}
use Rattle.base.specs.Lists.{joined, All, from, from_each}
use Rattle.base.specs.Laws.Lists.{all_map}
use Rattle.field.specs.declared.Gf128.{Gf128}
use Rattle.layout.specs.Columns.{RD, ALU, WNL}
use Rattle.circuit.specs.declared.Relation.{Relation}
use Rattle.circuit.specs.declared.Relation.TheVariants.{Bin, Fld}
use Rattle.circuit.specs.Rows.{Sides, numbered, of_relation}
use Rattle.circuit.specs.Circuit.{adder_row, copy_rows, address_row, agree_row, sum_row, first_carry_row, output_row, bin_families, fld_families, circuit_rows}
use Rattle.circuit.specs.Laws.Families.{all-numbered}
use Rattle.verdict.specs.Row.{holds}
use Rattle.verdict.specs.Counts.{counts}
use Rattle.verdict.specs.Check.{Constraint, in_cycle, constraints, met}
use Rattle.verdict.specs.Laws.Counts.{of_one, tally, tally-numbered}
use Rattle.verdict.specs.Laws.Run.{Met}

-- ---- the constraints of cycle 0, in their order

abbrev pub at : Relation → ℕ → Sides → Constraint
at rel n s = in_cycle 0 (record { relation = rel; number = n; sides = s })

abbrev pub rows_in : Relation → List Sides → List Constraint
rows_in rel ss = map (in_cycle 0) (numbered rel 0 ss)

-- the rows before the first of RAM address, and all of bin
unfoldable pub before_address : List Sides
before_address = from 0 63 adder_row ++ from_each 0 64 copy_rows

unfoldable pub bins : List Constraint
bins = rows_in Bin (joined bin_families)

-- the fld rows before the adder's, and before the first of halt
abbrev pub before_sum : List Sides
before_sum = agree_row 64 WNL ALU RD ∷ []

abbrev pub before_output : List Sides
before_output = agree_row 64 WNL ALU RD ∷ sum_row ∷ first_carry_row ∷ []

pub address-at : constraints 1 circuit_rows ≡ rows_in Bin before_address ++ (at Bin 255 (address_row 0) ∷ drop 256 (constraints 1 circuit_rows))
unfolding constraints of_relation circuit_rows bin_families fld_families from from_each joined numbered before_address
address-at = refl

pub sum-at : constraints 1 circuit_rows ≡ (bins ++ rows_in Fld before_sum) ++ (at Fld 1 sum_row ∷ drop 485 (constraints 1 circuit_rows))
unfolding constraints of_relation circuit_rows bin_families fld_families from from_each joined numbered bins
sum-at = refl

pub output-at : constraints 1 circuit_rows ≡ (bins ++ rows_in Fld before_output) ++ (at Fld 3 output_row ∷ drop 487 (constraints 1 circuit_rows))
unfolding constraints of_relation circuit_rows bin_families fld_families from from_each joined numbered bins
output-at = refl

-- what they count
pub bins-counted : tally bins ≡ counts 483 0
unfolding tally bins bin_families from from_each joined numbered
bins-counted = refl

pub rows-counted : (rel : Relation) (ss : List Sides) → tally (rows_in rel ss) ≡ of_one rel (length ss)
rows-counted rel ss = tally-numbered rel 0 0 ss

pub rows-met : (view : ℕ → ℕ → Gf128) (rel : Relation) (ss : List Sides) → All (λ s. holds (view 0) s ≡ true) ss
    → Met (met view) (rows_in rel ss)
rows-met view rel ss h =
    (all_map (λ k. met view k ≡ true) (in_cycle 0) (numbered rel 0 ss)).1 ((all-numbered (λ s. holds (view 0) s ≡ true) rel 0 ss).1 h)
