-- Laws that rest on definitions which must-fail edits turn; the prover checks them, and nobody has to believe them.
--     Line              the line of an answer has at most 86 bytes
pub mod Line
