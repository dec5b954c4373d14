-- Laws that rest on definitions which must-fail edits turn; the prover checks them, and nobody has to believe them.
--     Carried           the 18 words of the made row have the bits that the table says, so that written by words the row is the table's
--     Refilled          filling a made row changes nothing where its halt and taken are the filler's
pub mod Carried
pub mod Refilled
