-- Laws that rest on definitions which must-fail edits turn; the prover checks them, and nobody has to believe them.
--     RoundTrips        packed storage keeps what it is given, for every batch size
--     StorageCalls      the calls of packed storage: where they say yes and where no, and their round trips
--     StorageExample    a batch of two cycles with one column set, in both orders; with a 2 there it is refused
--     Stored            a batch packed: the words that were made, handed over in either order
--     Unpack            packed words laid out as elements, turn by turn, and the batch that they make
pub mod RoundTrips
pub mod StorageCalls
pub mod StorageExample
pub mod Stored
pub mod Unpack
