-- Laws, which the prover checks; nobody has to believe them.
--     Families          rows with their numbers: what is so of all rows of a family
--     House             the house listing is in order, and what it holds: by computation, once
--     Reader            the reader's position stays inside the listing
--     Search            the laws of a search through words, for any test, and where a row that is found lies
--     Valid             what a listing that passes questions 6 to 10 shows of its first word, and of the rest
--     Words             the side of a term by its kind, and the word of a mark by its relation and row
pub mod Families
pub mod House
pub mod Reader
pub mod Search
pub mod Valid
pub mod Words
