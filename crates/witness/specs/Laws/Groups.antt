-- A table of fields by words of 64 columns: where each word has its group's bits, column c is bit c % 64 of word c / 64.
-- Assumes nothing.
use Rattle.std.specs.Prelude.{◌≡◌, ℕ, zero, suc, ◌+◌, ◌-◌, ◌*◌, ◌/◌, ◌%◌, ◌<◌, ◌≤◌, Bool, true, false, cond, ◌&&◌, List, [], ◌∷◌, ◌++◌, slice_index, refl}
use Rattle.std.proofs.Common.{sym, ap, ◌∙◌, arith}
use Rattle.base.specs.Bits.{val, bit_at}
use Rattle.base.specs.Lists.{joined}
use Rattle.base.specs.Blocks.{Block, block, in_block, between, column_bit}
use Rattle.base.specs.Laws.Tests.{both}
use Rattle.base.specs.Laws.Bits.{bit_val, no-bit}
use Rattle.base.specs.Laws.Blocks.{goes_on, ends, inside, behind, nothing-before}
use Rattle.witness.specs.Laws.Packed.{packed, packed-bit}

-- a word has a group's bits; and each word of a list those of its group
abbrev pub Carries : ℕ → List Block → ℕ → Type 0
Carries o ks w = (i : ℕ) → i < 64 → bit_at w i ≡ column_bit ks (o + i)

abbrev pub CarriesEach : ℕ → List (List Block) → List ℕ → Type 0
CarriesEach o [] [] = Unit {0}
CarriesEach o (ks ∷ kss) (w ∷ ws) = Carries o ks w × CarriesEach (o + 64) kss ws
CarriesEach o [] (w ∷ ws) = ⊥
CarriesEach o (ks ∷ kss) [] = ⊥

-- every group lies in its 64 columns, in ascending order
abbrev pub in_groups : ℕ → List (List Block) → Bool
in_groups o [] = true
in_groups o (ks ∷ kss) = between o (o + 64) ks && in_groups (o + 64) kss

-- ---- fields side by side

joined-within : (ks ls : List Block) (c : ℕ) → column_bit ls c ≡ false → column_bit (ks ++ ls) c ≡ column_bit ks c
unfolding column_bit
joined-within [] ls c e = e
joined-within (k ∷ ks) ls c e = ap (cond (in_block k c) (bit_at k.word (c - k.column))) (joined-within ks ls c e)

joined-behind : (ks ls : List Block) (o limit c : ℕ) → between o limit ks ≡ true → limit ≤ c → column_bit (ks ++ ls) c ≡ column_bit ls c
joined-behind [] ls o limit c t l = refl
joined-behind (k ∷ ks) ls o limit c t l =
    let r = goes_on o limit k ks t in
    behind k (ks ++ ls) c (omega (arith, ends ks (k.column + k.width) limit r)) ∙ joined-behind ks ls (k.column + k.width) limit c r l

module _ (o : ℕ) (ks : List Block) (kss : List (List Block)) (t : in_groups o (ks ∷ kss) ≡ true) where
  first-in : between o (o + 64) ks ≡ true
  first-in = (both (between o (o + 64) ks) (in_groups (o + 64) kss) t).0

  others-in : in_groups (o + 64) kss ≡ true
  others-in = (both (between o (o + 64) ks) (in_groups (o + 64) kss) t).1

before-groups : (kss : List (List Block)) (o c : ℕ) → in_groups o kss ≡ true → c < o → column_bit (joined kss) c ≡ false
unfolding joined column_bit
before-groups [] o c t l = refl
before-groups (ks ∷ kss) o c t l =
    joined-within ks (joined kss) c (before-groups kss (o + 64) c (others-in o ks kss t) (omega arith))
    ∙ nothing-before ks o (o + 64) c (first-in o ks kss t) l

-- ---- a table's column

from-word : (kss : List (List Block)) (ws : List ℕ) (o : ℕ) → in_groups o kss ≡ true → CarriesEach o kss ws
    → (j i : ℕ) → i < 64 → column_bit (joined kss) (o + 64 * j + i) ≡ bit_at (slice_index ws j) i
unfolding joined column_bit
from-word [] [] o t h j i l = sym (no-bit i)
from-word [] (w ∷ ws) o t h j i l = elim h [ ]
from-word (ks ∷ kss) [] o t h j i l = elim h [ ]
from-word (ks ∷ kss) (w ∷ ws) o t h zero i l =
    ap (column_bit (ks ++ joined kss)) (omega arith)
    ∙ joined-within ks (joined kss) (o + i) (before-groups kss (o + 64) (o + i) (others-in o ks kss t) (omega arith)) ∙ sym (h.0 i l)
from-word (ks ∷ kss) (w ∷ ws) o t h (suc j) i l =
    joined-behind ks (joined kss) o (o + 64) (o + 64 * suc j + i) (first-in o ks kss t) (omega arith)
    ∙ ap (column_bit (joined kss)) (omega arith)
    ∙ from-word kss ws (o + 64) (others-in o ks kss t) h.1 j i l

pub table-bit : (kss : List (List Block)) (ws : List ℕ) → in_groups 0 kss ≡ true → CarriesEach 0 kss ws
    → (c : ℕ) → column_bit (joined kss) c ≡ bit_at (slice_index ws (c / 64)) (c % 64)
table-bit kss ws t h c = ap (column_bit (joined kss)) (omega arith) ∙ from-word kss ws 0 t h (c / 64) (c % 64) (omega arith)

-- ---- words that have a group's bits

pub alone-carried : (o w : ℕ) → Carries o (block o 64 w ∷ []) w
alone-carried o w i l = ap (bit_at w) (omega arith) ∙ sym (inside (block o 64 w) [] (o + i) (omega arith) (omega arith))

-- a word that has the bits that a field says one by one
pub bits-carried : (o w : ℕ) (f : ℕ → Bool) → ((i : ℕ) → i < 64 → bit_at w i ≡ f i) → Carries o (block o 64 (val f 64) ∷ []) w
bits-carried o w f h i l = h i l ∙ sym (bit_val f 64 i l) ∙ alone-carried o (val f 64) i l

pub none-carried : (o : ℕ) → Carries o [] 0
unfolding column_bit
none-carried o i l = no-bit i

pub packed-carried : (o limit : ℕ) (ks : List Block) (w : ℕ) → between o limit ks ≡ true → w ≡ packed o ks → Carries o ks w
packed-carried o limit ks w t e i l = ap (λ (x : ℕ). bit_at x i) e ∙ packed-bit ks o limit t i
