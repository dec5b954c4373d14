-- What an element's two words are: for the proofs of this crate's own code, which works on words. A crate above goes by
-- Gf.Laws and Gf.Element.
use Rattle.std.specs.Prelude.{◌≡◌, refl, ◌&&◌, ◌||◌, ℕ, zero, suc, ◌+◌, ◌*◌, ◌/◌, ◌%◌, ◌^◌, eqb, ltb}
use Rattle.std.proofs.Common.{sym, ap, ap₂, ◌∙◌, arith, le-ltb, ne_eqb}
use Rattle.std.proofs.Math.Bool.{and_comm, and-or_distrib_right}
use Rattle.std.specs.Int.Bits.{bit_xor}
use Rattle.field.specs.declared.Gf128.{Gf128}
use Rattle.field.specs.Gf.{◌⊕◌, of_words, low, high, value, element, same, is_bit, added}
use Rattle.field.specs.Gf as gf

pub words_are : (lo hi : ℕ) → record { lo = lo; hi = hi } ≡ of_words lo hi
unfolding of_words
words_are lo hi = refl

pub low-is : (x : Gf128) → x.lo ≡ low x
unfolding low
low-is x = refl

pub high_is : (x : Gf128) → x.hi ≡ high x
unfolding high
high_is x = refl

pub value-is : (x : Gf128) → value x ≡ x.hi * 2 ^ 64 + x.lo
unfolding value low high
value-is x = refl

pub same-is : (x y : Gf128) → (eqb x.lo y.lo && eqb x.hi y.hi) ≡ same x y
unfolding same low high
same-is x y = refl

below_two : (n : ℕ) → ltb n 2 ≡ (eqb n 0 || eqb n 1)
below_two zero = refl
below_two (suc zero) = refl
below_two (suc (suc n)) = let m = suc (suc n) in
    le-ltb m 2 (omega arith) ∙ sym (ap₂ ◌||◌ (ne_eqb m 0 (λ e. omega arith)) (ne_eqb m 1 (λ e. omega arith)))

pub is_bit-is : (x : Gf128) → (eqb x.hi 0 && ltb x.lo 2) ≡ is_bit x
unfolding is_bit same gf.zero gf.one of_words low high
is_bit-is x =
    ap (◌&&◌ (eqb x.hi 0)) (below_two x.lo) ∙ and_comm (eqb x.hi 0) _
    ∙ and-or_distrib_right (eqb x.lo 0) (eqb x.lo 1) (eqb x.hi 0)

pub added_is : (x y : Gf128) → record { lo = bit_xor x.lo y.lo; hi = bit_xor x.hi y.hi } ≡ added x y
unfolding added of_words low high ◌⊕◌
added_is x y = refl

-- an element given by its words is that of the polynomial a
pub element-words : (a lo hi : ℕ) → a % 2 ^ 64 ≡ lo → a / 2 ^ 64 % 2 ^ 64 ≡ hi → record { lo = lo; hi = hi } ≡ element a
unfolding element
element-words a lo hi p q = words_are lo hi ∙ sym (ap₂ of_words p q)
