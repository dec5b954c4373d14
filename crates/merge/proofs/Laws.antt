-- Laws that rest on definitions which must-fail edits turn; the prover checks them, and nobody has to believe them.
--     Bits              the bit test of a merged batch
--     Chosen            batches of any size from any choice of bits, merged: the batch of both choices; it is filled as its parts are
--     Filling           the filling of a merged batch is the merge of the fillings
--     Given             given merges, by numbers: words, verdicts of all nine pairs, bit tests
--     Judgement         the verdict on a merged batch is the joined verdict of its parts
--     Merging           the statement, of every call that was answered with yes
--     Refusals          given refusals, by numbers
pub mod Bits
pub mod Chosen
pub mod Filling
pub mod Given
pub mod Judgement
pub mod Merging
pub mod Refusals
