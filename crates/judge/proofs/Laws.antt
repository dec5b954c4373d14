-- Laws that rest on definitions which must-fail edits turn; the prover checks them, and nobody has to believe them.
--     FillCheck         filling and checking promises what demand 3 says of acceptance: of a slice as it is lent, whose words are words
--     FillCheckExamples  filling and checking, of given batches of every size
pub mod FillCheck
pub mod FillCheckExamples
