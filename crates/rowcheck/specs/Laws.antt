-- Laws, which the prover checks; nobody has to believe them.
--     Sheet             the lines that are printed for the bench sheet's verdicts, by computation
pub mod Sheet
