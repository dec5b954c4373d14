-- Laws, which the prover checks; nobody has to believe them.
--     Exponent          the exponent of a size; a shift by it is the quotient by cpi, and a mask the remainder
--     Mapping           the mapping and the way back undo each other below one_col, for every size, and refuse the rest; no two columns meet
--     Questions         what a chain of questions, or a call that asks one, says where it was answered with yes
--     Scratch           which scratch fits, as document 02 says it and by numbers
--     Segments          no two segments meet, so a column has the name of the one that has it, in 9 bytes, and a public one has none
--     Sheet             P12 of the bench sheet, by computation
--     Sizes             what the allowed batch sizes have in common
pub mod Exponent
pub mod Mapping
pub mod Questions
pub mod Scratch
pub mod Segments
pub mod Sheet
pub mod Sizes
