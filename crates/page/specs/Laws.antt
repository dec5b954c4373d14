-- Laws, which the prover checks; nobody has to believe them.
--     Answered          what the answer of a call says of the lent bytes: the pages of the row after a yes, and as they came after a no
--     Fields            what stands where in a term's line
--     Given             a given row, laid out by computation in a batch of four cycles; given calls, with what they answer and leave
--     Lines             the pieces of a line, one behind the other, are the line, and have 60 characters
--     Pages             the lines of a row, one after the other, and blanks to the end of the last page
--     Paper             what a call that is answered with yes leaves is what a bench page shows
--     Places            where a term's column stands, and what a word of a listing stands for
--     Readings          what is read off a page are the numbers: the head's batch row, a term's batch column, and its element
--     Rows              a row that opening and searching a listing gives
--     Sixty             every line has 60 characters, so line i of the pages is line i of the row, and behind the last all is blank
--     Terms             the lines of a row's words are those of its sides
--     Verdict           the page asked for with a verdict's row and cycle shows the row that fails
--     Ways              the ways out of a call that lays a row out
pub mod Answered
pub mod Fields
pub mod Given
pub mod Lines
pub mod Pages
pub mod Paper
pub mod Places
pub mod Readings
pub mod Rows
pub mod Sixty
pub mod Terms
pub mod Verdict
pub mod Ways
