-- The line that a word of a listing is printed as.
-- What a reader must believe:
--     Hex               a word as 8 lower-case hex digits, the highest first, and a line end
pub mod Hex
