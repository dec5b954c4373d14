-- The check of a batch, a row's sums, the bit test. The last four serve contracts of private functions.
-- What a reader must believe:
--     Row               what a row says of a cycle
--     Counts            how many constraints were tested, bin and fld apart; `rows`, their sum
--     Check             the check: the constraints of all cycles in their order, the first that does not hold, and how many were tested
--     Counted           bin and fld counted apart, of a verdict; their sum is what `rows` was
--     Scratch           what the check's answer takes from its scratch: nothing but question 5
--     Apply             the sums of one row of a listing in one cycle of a batch
--     Bits              the bit test
--     Named             the columns that a row names: those of its terms whose coefficient is not zero
--     OverBits          a row over bits: sums are exclusive or, products are and
--     Sheet             P4's and P5's rows of the bench sheet
--     Promises          what the functions inside the check give: records that name each fact
--     RowParts          a row's words: its mark, and then the terms of A, of B and of C, each side a run
--     Order             the marks of fld rows, behind which no bin row stands
--     StillToTest       what is left of the check at each of its loops
-- What follows from these, which the prover checks: Laws.
pub mod Row
pub mod Counts
pub mod Check
pub mod Counted
pub mod Scratch
pub mod Apply
pub mod Bits
pub mod Named
pub mod OverBits
pub mod Sheet
pub mod Promises
pub mod RowParts
pub mod Order
pub mod StillToTest
pub mod Laws
