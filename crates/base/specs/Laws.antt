-- Laws, which the prover checks; nobody has to believe them.
--     Adder             the adder for any width: the sum that wraps is, bit by bit, the exclusive or of both words and the carries
--     Bits              bits of numbers, for any width: of a sum that wraps, of its carries, and of what word operations make
--     Blocks            a column is in a block, what is so of every such column, and blocks in ascending order, each with its word's bits
--     Cases             identities of Booleans, by computing every case
--     Chain             a chain, a running product of comparisons of bits, says at its end whether two words are equal
--     Compare           the comparisons for any width, from a - b as a + (complement of b) + 1
--     Compared          two lists compared word by word: the or of what differs is 0 exactly where they are the same
--     Fields            the bits of fields that stand side by side in a word
--     First             the search for the first number that passes a test, turn by turn, and what it finds
--     From              lists made from an index: what is so of all is so at each index, and which element stands where
--     Joined            lists one after the other: how long they are, and where each stands
--     Lists             what is so of every element, of lists put together, taken apart or mapped; and of every number below a limit
--     Numbers           a number and its bits, each from the other, and Booleans that say what a test of numbers says
--     Sums              equal terms make equal sums
--     Tests             one question peeled off a chain of them, and two tests at once
--     Values            the number that bits make up: equal bits, equal numbers; the top bit; the complement
--     WaysOut           a way out of a function that its tests pick is the case that a definition picks by the same tests
--     Words             a word halved at each turn of a loop, and three words added one after the other
--     Written           what loops have written: nothing yet, one entry or piece more, and in the end all of it
pub mod Adder
pub mod Bits
pub mod Blocks
pub mod Cases
pub mod Chain
pub mod Compare
pub mod Compared
pub mod Fields
pub mod First
pub mod From
pub mod Joined
pub mod Lists
pub mod Numbers
pub mod Sums
pub mod Tests
pub mod Values
pub mod WaysOut
pub mod Words
pub mod Written
