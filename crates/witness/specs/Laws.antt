-- Laws, which the prover checks; nobody has to believe them.
--     Assembled         an assembled batch as the check sees it: by element
--     BranchesRead      instructions that compare, of every size and in every cycle: how each is read, and its taken column
--     Groups            a table of fields by words of 64 columns
--     Halves            the halves of a row or a batch, by word and by element
--     MadeRow           what is true of every made row: its elements, and that it is bits below the one column
--     Packed            fields of columns as a number: the words of 64 columns that hold their bits
--     Reading           the branch reading: exactly when it gives which answer; P10 of the bench sheet; given instructions
--     RowWords          which word and bit of the row's words a column has
--     TakenColumn       demand 3's taken column and the branch reading say the same
--     Upper             the parts of a row or a batch below and from the one column on, and what a yes to questions 1 to 3 says
pub mod Assembled
pub mod BranchesRead
pub mod Groups
pub mod Halves
pub mod MadeRow
pub mod Packed
pub mod Reading
pub mod RowWords
pub mod TakenColumn
pub mod Upper
