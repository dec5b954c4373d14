-- Laws that rest on definitions which must-fail edits turn; the prover checks them, and nobody has to believe them.
--     Agree             the check over the house listing answers as the check does that is lent that listing
--     Counted           bin and fld are counted apart in every verdict and of every call
--     GivenCounts       given batches: how many constraints are tested, and what verdicts count, by numbers
--     LaterCycles       failing verdicts of every cycle of every size, with their numbers written out
--     Scratch           the check's answer is the same from any scratch that fits; what is left there; given calls
--     Sheet             P4 and P5 of the bench sheet, of the check's own result
pub mod Agree
pub mod Counted
pub mod GivenCounts
pub mod LaterCycles
pub mod Scratch
pub mod Sheet
