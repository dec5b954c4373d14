-- The field GF(2^128). All of Gf is shut: whoever uses the field goes by the laws, which stand below it.
--     Gf                the definitions: polynomials (`bit`, `◌⊕◌`, `◌⊗◌`, `clmul`, `modulus`) and elements (`added`, `product`, ..)
--     Sheet             P1, P2 and P3 of the bench sheet
--     Gf.Laws           the laws of elements: what a proof above the field wants, and nearly always all that it wants
--     Gf.Bits           0 and 1 as elements, and the product with one
--     Gf.Tests          what `same` and `is_bit` say
--     Gf.Packed         powers of t times bits add up to the number with those bits
--     Gf.Element        an element and its polynomial, each from the other; an element is determined by its bits
--     Gf.Coefficient    the coefficients of a polynomial
--     Gf.Sum            the laws of the sum
--     Gf.Product        the laws of the product
--     Gf.Carryless      the carry-less product
--     Gf.Remainder      what the modulus is to a product (that the product is the one remainder: proofs/Laws/Remainder.antt)
--     Gf.Sheet          the bench sheet's products, computed
--     Gf.Multiply       the recursion behind both products
--     Gf.Words          the one place that says what an element's two words are
--     Gf.Loops          the turn of each loop in the code
pub mod Gf
pub mod Sheet
