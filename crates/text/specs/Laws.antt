-- Laws, which the prover checks; nobody has to believe them.
--     Blanks            blanks in part, and a digit written before those that stand
--     Decimal           how many decimal digits a number has, right-aligned in more bytes or less, and written from the last one on
--     Hexadecimal       hexadecimal digits: how many they are, the higher and the lower ones, and written from the last one on
--     ReadBack          what digits stand for: read in their base they are the number again, and given numbers
--     Left              a text left-aligned in a width, byte by byte
--     Put               texts put one behind the other are their concatenation
pub mod Blanks
pub mod Decimal
pub mod Hexadecimal
pub mod ReadBack
pub mod Left
pub mod Put
