-- Laws, which the prover checks; nobody has to believe them.
--     Known             the same of every listing that is known by name
--     Strict            the strict listing is in order, and what it holds
pub mod Known
pub mod Strict
