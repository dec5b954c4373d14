-- The determining rows: fld row 2 first, then every bin row but RAM address and zero extension, in the listing's order; the two halt rows
-- act as one, halt + opsys = 0. Of all bits in the derived columns, just those that `filled_bits` gives meet these rows.
-- Assumes nothing.
use Rattle.std.specs.Prelude.{Bool, List, [], ◌∷◌, ◌++◌, ℕ, ◌+◌}
use Rattle.base.specs.Lists.{joined, from, from_each}
use Rattle.layout.specs.Columns.{HALT, OPSYS, OPBR}
use Rattle.circuit.specs.Rows.{Sides}
use Rattle.circuit.specs.Circuit.{first_carry_row, adder_row, copy_row, copy_rows, lane_rows, conditional_rows, neither_row, extend16_row, extend8_row, zero_rows, opcode_rows, funct3_rows, comparison_rows, mux_rows, taken_row, write_gate_row}
use Rattle.step.specs.Solve.{solve}

abbrev pub halt_row : Sides
halt_row = copy_row HALT (OPSYS + 6)

-- the bin families but RAM address and zero extension, before and after the halt rows
unfoldable pub before_halt : List (List Sides)
before_halt =
    from 0 63 adder_row
    ∷ from_each 0 64 copy_rows
    ∷ from_each 0 8 lane_rows
    ∷ from_each 0 8 conditional_rows
    ∷ (neither_row ∷ [])
    ∷ (extend16_row ∷ [])
    ∷ (extend8_row ∷ [])
    ∷ zero_rows
    ∷ opcode_rows OPSYS 0x73
    ∷ opcode_rows OPBR 0x63
    ∷ []

unfoldable pub after_halt : List (List Sides)
after_halt =
    from_each 0 8 funct3_rows
    ∷ comparison_rows
    ∷ mux_rows
    ∷ (taken_row ∷ [])
    ∷ (write_gate_row ∷ [])
    ∷ []

-- as the listing has them, and as they are solved
abbrev pub determining_bin : List Sides → List (List Sides)
determining_bin halts = before_halt ++ (halts ∷ after_halt)

abbrev pub determining_families : List (List Sides)
determining_families = (first_carry_row ∷ []) ∷ determining_bin (halt_row ∷ [])

unfoldable pub determining : List Sides
determining = joined determining_families

-- The filling of one cycle: its bits, with those of the derived columns as the determining rows have them.
abbrev pub filled_bits : (ℕ → Bool) → ℕ → Bool
filled_bits b = solve determining b
