-- What the filler and the test of the step conditions do, as their contracts cite it.
-- What a reader must believe:
--     Words             a cycle's given words, the derived words, and the blocks of columns where these go
--     Derive            the derived columns of a cycle, by words: what the filler works out from the given columns' words and bits
--     Lanes             words with one bit of eight set, or one of each four: which lane an offset or funct3 is
--     Blocks            words put into blocks of a cycle's columns, and blocks whose words stand there
--     Met               which condition is the first that a cycle does not meet, as tests of its words
-- What follows from these, which the prover checks: Laws.
pub mod Words
pub mod Derive
pub mod Lanes
pub mod Blocks
pub mod Met
pub mod Laws
