-- Laws that rest on definitions which must-fail edits turn; the prover checks them, and nobody has to believe them.
--     Numbers           the number of each question, by numbers
pub mod Numbers
