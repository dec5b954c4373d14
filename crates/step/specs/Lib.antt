-- The step conditions, the filling and demand 3: a theory, with no code.
-- What a reader must believe:
--     Step              the ten step conditions of document 01
--     Strict            the strict conditions of document 02, and which conditions a known listing comes to
--     Branch            the RISC-V ISA's branch condition by funct3, on the values of RS1 and RS2: document 01's list, in its order
--     Derived           which columns are derived and which are given, and how many
--     Solve             the filling of one cycle, as a definition: rows that each name one new column are solved for it, in turn
--     Determining       the rows that are solved, and with them the filling of one cycle: `filled_bits`
--     Filling           fillings of a batch, their count, and the filler's: `filled`
--     Demand3           demand 3, clause by clause
--     Stricter          what the strict listing accepts the house listing accepts
--     Fill              the filler as it is called: questions 1, 2, 11 and 12, and the filling
--     Sheet             rows by the columns that are 1: what the bench sheet's table is written with
-- What follows from these, which the prover checks, stands in proofs/Laws.
pub mod Step
pub mod Strict
pub mod Branch
pub mod Derived
pub mod Solve
pub mod Determining
pub mod Filling
pub mod Demand3
pub mod Stricter
pub mod Fill
pub mod Sheet
