-- The constraint listing: its words, its rows, the house listing, questions 6 to 10, the search and the reader.
-- What a reader must believe:
--     Words             the house format (document 01, "Listing"): what a 32-bit word of a listing stands for
--     Rows              rows as terms on the sides A, B and C, and the words of the house format that stand for them
--     Circuit           the rows of `build_circuit`, family by family, in its order
--     Parse             the rows that a listing's words stand for
--     Valid             questions 6 to 10, asked of a listing first word first, and of each word in their order
--     Found             where a row of a listing stands: question 13
--     Reader            the listing reader: what opening and asking for a row answer
--     Batched           what a word of the listing stands for in cycle d of a batch; the way back from a batch row
--     House             statements about the house listing: its counts, where its families start, and P11
-- What follows from these, which the prover checks: Laws.
pub mod Words
pub mod Rows
pub mod Circuit
pub mod Parse
pub mod Valid
pub mod Found
pub mod Reader
pub mod Batched
pub mod House
pub mod Laws
