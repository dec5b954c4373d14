-- Answers as numbers, for the comparison.
-- What a reader must believe:
--     Numbers           answers of the field, the layout and the listing's words as single numbers, for a caller in another language
--     Replies           answers of the check, the filler, the conditions and packing, with what a lent slice holds afterwards
--     RowReplies        what the search for a row, the listing reader and the bench page answer
--     Reads             what one plain read of a slice gives
--     Records           records and ROM rows as words, for a caller in another language: a field a word, in the order of the struct
pub mod Numbers
pub mod Replies
pub mod RowReplies
pub mod Reads
pub mod Records
