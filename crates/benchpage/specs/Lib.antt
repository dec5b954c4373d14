-- What benchpage prints.
-- What a reader must believe:
--     Printed           what is printed of the bytes that were read
--     Promises          what the functions inside need: only contracts of private functions cite it
-- What follows from these, which the prover checks: Laws.
pub mod Printed
pub mod Promises
pub mod Laws
