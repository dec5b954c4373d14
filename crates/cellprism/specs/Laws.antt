-- Laws, which the prover checks; nobody has to believe them.
--     Back              the way back: every row of 8,192 words has its 65,536 bytes, and their answer is the row's
--     Exact             the answer's word loses nothing but the counts of a failure
--     Packing           the bytes of a row packed give the words that the short way judges
--     Read              reading a row's bytes into words: what is answered and left, by the lengths
--     Sheet             the bench sheet's lines that the C boundary answers
pub mod Back
pub mod Exact
pub mod Packing
pub mod Read
pub mod Sheet
