-- Packed words. All but Packed, Bytes, Storage, RoundTrips, Stacked and One serve contracts of private functions.
-- What a reader must believe:
--     Packed            packed words: 64 columns of a cycle a word, the lowest column in the lowest bit
--     Storage           packed storage of a batch: batch order and cycle order, and the calls that pack, unpack and rearrange
--     RoundTrips        what packed storage keeps: each step's inverse
--     Stacked           numbers one above the other: in parts, as the code's wrapping sums put them together, and of bits
--     Seen              the bitwise or of low words, and that of high ones, tell whether elements are bits
--     Bytes             the words that bytes spell, and the row of 65,536 of them
--     One               columns that stand one after the other, of one cycle or in batch order: their words in quarters of quarters
--     Columns           a batch of several cycles: four columns of every cycle put below what a slice has, in turns
--     Ranges            word after word of every cycle, 32 words a cycle
--     Turn              a block of 64 columns turned, by six steps over its words
--     Order             packed words put from one order into the other, block after block
--     Named             the named words of every cycle: both stretches of them, and the call
--     Stored            the calls of storage over the order that is asked for: packed, handed over or not, and rearranged
--     Unpack            packed words laid out as elements: a word's 64, and word after word
-- What follows from these, which the prover checks: Laws.
pub mod Packed
pub mod Bytes
pub mod Storage
pub mod RoundTrips
pub mod Stacked
pub mod Seen
pub mod One
pub mod Columns
pub mod Ranges
pub mod Turn
pub mod Order
pub mod Named
pub mod Stored
pub mod Unpack
pub mod Laws
