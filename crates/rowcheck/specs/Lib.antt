-- What rowcheck prints.
-- What a reader must believe:
--     Sheet             what is printed of P4's and P5's rows, and of anything but 65,536 bytes
-- What follows from these, which the prover checks: Laws.
pub mod Sheet
pub mod Laws
