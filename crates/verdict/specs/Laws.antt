-- Laws, which the prover checks; nobody has to believe them.
--     Apply             the row that the search finds is a row of the listing, and its terms are in order
--     BitTest           the bit test refuses, says all bits, or names the first column above 1 by its column and cycle
--     ColumnAlone       one column alone: where the others are 0, what rows say is told by a test that computes
--     Counts            counts add up relation by relation; what constraints count, and that their number is the sum
--     Known             what the rows of a listing that is known by name count
--     Named             a row's outcome depends on the columns that its terms of nonzero coefficient name, and on nothing else
--     Order             a listing that passes questions 6 to 10 is in order: the sides of each row ascend
--     OverBits          over columns that hold 0 or 1, a row whose coefficients are 0 or 1 says over the field what it says over bits
--     Row               a bit of a cycle, read from the batch
--     RowParts          what parsing gives of a row is what its runs of terms give
--     RowsFound         in a listing in order every row is the one that the search finds by its relation and row number
--     Run               the walk over constraints, for any test: all are met, or which is the first that is not, and the counts
--     Shown             what a failing verdict names: the cycle, the row that the search finds, and that it does not hold there
--     SideSums          the laws of a side's sum: it is proper, and sides one after the other add up
--     Split             the index that splits a listing in order into the words of its bin rows and those of its fld rows
--     StillToTest       what is left to be tested, from one loop to the next, and the verdict from there on
--     Verdicts          what a verdict says: every row holds in every cycle; and how the constraints of the cycles count
pub mod Apply
pub mod BitTest
pub mod ColumnAlone
pub mod Counts
pub mod Known
pub mod Named
pub mod Order
pub mod OverBits
pub mod Row
pub mod RowParts
pub mod RowsFound
pub mod Run
pub mod Shown
pub mod SideSums
pub mod Split
pub mod StillToTest
pub mod Verdicts
