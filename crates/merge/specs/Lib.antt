-- Two batches into one. What a reader must believe:
--     Merged            the merged batch, word by word
--     Calls             merging as it is called: questions 1, 19, 2 and 20
--     Joined            verdict and bit test of the merged batch, from those of its parts; the earlier of two failures
--     Merging           what merging does, clause by clause: columns, verdict, bit test, filling
--     Parts             what the functions inside are told of the two batches
-- What follows from these, which the prover checks: Laws.
pub mod Merged
pub mod Calls
pub mod Joined
pub mod Merging
pub mod Parts
pub mod Laws
