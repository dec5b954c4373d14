-- Laws that rest on definitions which must-fail edits turn; the prover checks them, and nobody has to believe them.
--     BatchRows         the batch row of a cycle's row and the way back undo each other, for every size and both relations
--     First             how many words stand before the first that passes a test, where `position` sought it
pub mod BatchRows
pub mod First
