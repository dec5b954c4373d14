-- Laws, which the prover checks; nobody has to believe them.
--     Answers           what a yes to the questions says, and when it is given
--     Columns           the columns of a merged batch, and its cycles as the check sees them: those of its parts
--     Pieces            the pieces in which the code writes a merged batch
--     Walk              the constraints of twice as many cycles, and the walk over those some cycles on
pub mod Answers
pub mod Columns
pub mod Pieces
pub mod Walk
