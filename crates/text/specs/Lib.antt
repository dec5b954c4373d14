-- Text in bytes of ASCII.
-- What a reader must believe:
--     Digits            numbers as decimal and hexadecimal digits
--     Decimal           the decimal digits in as many bytes as the largest number takes
--     Put               a text put into bytes at an index
-- What follows from these, which the prover checks: Laws.
pub mod Digits
pub mod Decimal
pub mod Put
pub mod Laws
