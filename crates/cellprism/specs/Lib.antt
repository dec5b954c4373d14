-- The C boundary, and the bench sheet.
-- What a reader must believe:
--     Bytes             the words that bytes stand for, and reading the bytes of a row into its words
--     Answer            the check of a row over the C boundary, and its answer as one 32-bit word
--     BenchSheet        the bench sheet, P1 to P12 as one table
--     Sheet             the boundary's answers: question 2, and the bench sheet's P4 and P5 in bytes
--     Exact             the 32-bit answer loses nothing but the counts of a failure: the statement
-- What follows from these, which the prover checks: Laws.
pub mod Bytes
pub mod Answer
pub mod BenchSheet
pub mod Sheet
pub mod Exact
pub mod Laws
