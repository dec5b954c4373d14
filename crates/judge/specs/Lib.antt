-- A cycle judged with no listing read, the check's short way, and filling and checking in one call.
-- What a reader must believe:
--     Judged            a cycle judged with no listing read: the conditions, and every derived column as the filler has it
--     Judges            a batch over bits, with 1 in the one column: `OverBits`
--     Named             the columns that rows name, and bits in these alone: `NamedBits`
--     Words             a cycle judged from packed words: word k has columns 64 k to 64 k + 63, and no word but the named ones is read
--     Short             the short way to an accepted batch, from packed words
--     FillCheck         filling and checking in one call: the filler's questions, then the check of what it wrote
-- What follows from these, which the prover checks: Laws.
pub mod Judged
pub mod Judges
pub mod Named
pub mod Words
pub mod Short
pub mod FillCheck
pub mod Laws
