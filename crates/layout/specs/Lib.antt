-- Where things stand: columns, segments, batch sizes, the mapping, and the questions.
-- What a reader must believe:
--     Columns           the columns of one cycle, as `WITNESS_LAYOUT` places them
--     Segments          the segments of `SEGMENTS_CPU`, and the name that a column has by them
--     Questions         document 01's questions
--     Batch             a batch: its sizes and their exponents, questions 1, 2 and 5, its geometry, the mapping and the way back
--     Sheet             P12 of the bench sheet
-- What follows from these, which the prover checks: Laws.
pub mod Columns
pub mod Segments
pub mod Questions
pub mod Batch
pub mod Sheet
pub mod Laws
