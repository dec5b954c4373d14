-- What is of no field and no layout: numbers by bits, lists, tests, and what loops write.
-- What a reader must believe:
--     Bits              numbers by their bits, low bit first; what the adder and the comparisons are bit by bit
--     Fields            fields side by side in a word, lowest first
--     Blocks            fields of a row of columns: blocks of columns with the word whose low bits stand there
--     Lists             what is so of every element of a list, lists one after the other, and lists made from an index
--     Tests             the first number that passes a test
--     Sums              a finite sum, over any type with a sum of two: so that a proof about any field can speak of it
--     Text              a text as its bytes of ASCII, blanks, and a text left-aligned in a width
--     Written           a list that loops write piece after piece, f i at each index i: as far as they have come
-- What follows from these, which the prover checks: Laws.
pub mod Bits
pub mod Fields
pub mod Blocks
pub mod Lists
pub mod Tests
pub mod Sums
pub mod Text
pub mod Written
pub mod Laws
