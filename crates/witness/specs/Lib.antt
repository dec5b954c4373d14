-- The row maker, assembly of a batch and the branch reading. RowWords serves contracts of private functions.
-- What a reader must believe:
--     Table             the row that a cycle's record and its ROM row make, field by field
--     Row               the made row, column by column, and the row maker as it is called
--     Upper             what a row and a batch share: questions 1 to 3, and the columns from one_col on
--     Assembly          assembly: the witness columns of cpi cycles, lent cycle after cycle, and the public values in one batch
--     Reading           the branch reading of an instruction, with the ISA's condition that demand 3 speaks of
--     TakenColumn       the taken column of demand 3's accepted filling, by the branch reading
--     RowWords          the made row by words: 18 words of 64 columns hold all of its fields
-- What follows from these, which the prover checks: Laws.
pub mod Table
pub mod Row
pub mod Upper
pub mod Assembly
pub mod Reading
pub mod TakenColumn
pub mod RowWords
pub mod Laws
