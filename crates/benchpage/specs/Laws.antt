-- Laws, which the prover checks; nobody has to believe them.
--     Lined             a text with a line end after every 60 characters, line by line
--     House             a row of the house listing takes five pages at most, and its words are of 32 bits: by computation, once
--     Named             the row that a failing answer names: it is in the house listing, its pages are few, and it does not hold
--     Laid              pages laid out over as many bytes as they take, and a row's bytes read into words
--     Printed           what each way out puts is what is printed
pub mod Lined
pub mod House
pub mod Named
pub mod Laid
pub mod Printed
