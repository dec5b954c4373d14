-- The strict flag listing (document 02, request 6), and which of the two listings is meant.
-- What a reader must believe:
--     Rows              the eight rows that it adds, its rows and its words
--     Known             the listings that are known by name: their words, the rows that they add to the house rows, their number of rows
--     Counts            statements about the strict listing: its counts, and its words beside those of the house listing
-- What follows from these, which the prover checks, stands in proofs/Laws.
pub mod Rows
pub mod Known
pub mod Counts
