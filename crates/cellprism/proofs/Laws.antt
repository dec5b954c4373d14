-- Laws that rest on definitions which must-fail edits turn; the prover checks them, and nobody has to believe them.
--     BenchSheet        the bench sheet's one theorem: each line is a theorem of the crate that it speaks of
pub mod BenchSheet
