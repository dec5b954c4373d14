-- Laws that rest on definitions which must-fail edits turn; the prover checks them, and nobody has to believe them.
--     Remainder         the product is the one remainder of the carry-less product by the modulus
pub mod Remainder
