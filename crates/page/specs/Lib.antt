-- What is printed: the bench page of a row, and the line of an answer.
-- What a reader must believe:
--     Lines             the lines of a row: its head, and one for each term
--     Pages             lines as pages, how many bytes they take, and what a call answers and leaves
--     Paper             what a bench page shows, clause by clause: statements
--     Promises          what the functions inside the page need and give: only contracts of private functions cite it
--     Line              the line that an answer is printed as (document 01, "Makers and readers")
-- What follows from these, which the prover checks: Laws.
pub mod Lines
pub mod Pages
pub mod Paper
pub mod Promises
pub mod Line
pub mod Laws
