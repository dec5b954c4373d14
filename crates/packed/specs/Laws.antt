-- Laws, which the prover checks; nobody has to believe them.
--     Bytes             the words of a row that is handed over as bytes
--     Columns           columns stacked four and a word at a time, turn by turn, and what they hold in the end
--     Example           a batch of two cycles, all zero but for column 65 of cycle 1: bit 1 of word 33 alone is set
--     Exchange          two words that exchange bits: the code's operations do it, and its masks are right
--     InWords           bits in packed words: words are made from their bits, and are told by them
--     Named             the packed words of the columns that rows name, and whether these are bits, from both ranges
--     One               columns one after the other packed, four at a turn
--     Order             packed words put from one order into the other, block after block, both ways by one fact
--     Places            a bit's place in batch order and in cycle order: the layout's mapping and its way back
--     Queue             a block of 2 h words turned in six steps, and turned back
--     Ranges            a range of words written over all cycles, turn by turn
--     Seen              what the or of words tells: whether each of them is a bit
--     Stacked           bits pushed on a word, one by one and four at a time
--     Words             column c of cycle d is bit c % 64 of word 32 · d + c / 64
pub mod Bytes
pub mod Columns
pub mod Example
pub mod Exchange
pub mod InWords
pub mod Named
pub mod One
pub mod Order
pub mod Places
pub mod Queue
pub mod Ranges
pub mod Seen
pub mod Stacked
pub mod Words
