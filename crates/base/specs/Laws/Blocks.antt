-- A column is in a block, what is so of every such column, and blocks in ascending order: each one's columns hold its word's bits.
-- Assumes nothing.
use Rattle.std.specs.Prelude.{◌≡◌, refl, ◌↔◌, ◌⊎◌, Bool, true, false, ◌&&◌, ◌||◌, List, [], ◌∷◌, ℕ, ◌+◌, ◌≤◌, ◌<◌, ◌-◌, ◌^◌, leb, ltb}
use Rattle.std.proofs.Common.{ap₂, ap, subst, ◌∙◌, inl, inr, ⊎_elim, arith}
use Rattle.std.proofs.Math.Bool.{or-true}
use Rattle.std.proofs.lemmas.Bool.{false≢true}
use borrow.Author.Tests.{leb-true, ltb-true, le-leb, lt-ltb, le-ltb, lt-leb}
use Rattle.base.specs.Blocks.{Block, in_block, in_blocks, between, column_bit}
use Rattle.base.specs.Lists.{All}
use Rattle.base.specs.Bits.{word, bit_at}
use Rattle.base.specs.Laws.Tests.{both}
use Rattle.base.specs.Laws.Values.{val_same}
use Rattle.base.specs.Laws.Lists.{all_then}
use Rattle.base.specs.Laws.Numbers.{val-bits}

-- ---- a column is in a block

pub in-block : (k : Block) (c : ℕ) → in_block k c ≡ true → (k.column ≤ c) × (c < k.column + k.width)
in-block k c e =
    let p = both (leb k.column c) (ltb c (k.column + k.width)) e in (leb-true _ _ p.0, ltb-true _ _ p.1)

pub is-in-block : (k : Block) (i : ℕ) → i < k.width → in_block k (k.column + i) ≡ true
is-in-block k i l = ap₂ ◌&&◌ (le-leb k.column (k.column + i) (omega arith))
    (lt-ltb (k.column + i) (k.column + k.width) (omega arith))

pub one_of : (a b : Bool) → (a || b) ≡ true → (a ≡ true) ⊎ (b ≡ true)
one_of true b e = inl refl
one_of false b e = inr e

-- what is so of each of a block's columns
abbrev pub EachColumn : (ℕ → Type 0) → Block → Type 0
EachColumn P k = (i : ℕ) → i < k.width → P (k.column + i)

-- what is so of each column of every block is so of every column that is in one
pub every-column : (P : ℕ → Type 0) (ks : List Block) → All (EachColumn P) ks ↔ ((c : ℕ) → in_blocks ks c ≡ true → P c)
every-column P [] = (λ _ c e. absurd (false≢true e), λ _. tt)
every-column P (k ∷ ks) =
    let later = every-column P ks in (
      λ h c e. ⊎_elim
          (λ q. let p = in-block k c q in let at : k.column + (c - k.column) ≡ c = omega arith in
          subst P at (h.0 (c - k.column) (omega arith)))
          (later.0 h.1 c) (one_of (in_block k c) (in_blocks ks c) e),
      λ g. (
        λ i l. g (k.column + i) (ap (λ (t : Bool). t || in_blocks ks (k.column + i)) (is-in-block k i l)),
        later.1 (λ c e. g c (ap (λ (t : Bool). in_block k c || t) e ∙ or-true (in_block k c))),
      ),
    )

module _ (o limit : ℕ) (k : Block) (ks : List Block) (t : between o limit (k ∷ ks) ≡ true) where
  pub starts : o ≤ k.column
  starts = leb-true o k.column (both (leb o k.column) (between (k.column + k.width) limit ks) t).0

  pub goes_on : between (k.column + k.width) limit ks ≡ true
  goes_on = (both (leb o k.column) (between (k.column + k.width) limit ks) t).1

pub ends : (ks : List Block) (o limit : ℕ) → between o limit ks ≡ true → o ≤ limit
ends [] o limit t = leb-true o limit t
ends (k ∷ ks) o limit t = omega (arith, starts o limit k ks t, ends ks (k.column + k.width) limit (goes_on o limit k ks t))

module _ (k : Block) (ks : List Block) (c : ℕ) where
  pub inside : k.column ≤ c → c < k.column + k.width → column_bit (k ∷ ks) c ≡ bit_at k.word (c - k.column)
  unfolding column_bit
  inside l m = rw (le-leb k.column c l, lt-ltb c (k.column + k.width) m)

  pub before : c < k.column → column_bit (k ∷ ks) c ≡ column_bit ks c
  unfolding column_bit
  before l = rw (lt-leb k.column c l)

  pub behind : k.column + k.width ≤ c → column_bit (k ∷ ks) c ≡ column_bit ks c
  unfolding column_bit
  behind l = rw (le-leb k.column c (omega arith), le-ltb c (k.column + k.width) l)

-- no field begins before the first
pub nothing-before : (ks : List Block) (o limit c : ℕ) → between o limit ks ≡ true → c < o → column_bit ks c ≡ false
unfolding column_bit
nothing-before [] o limit c t l = refl
nothing-before (k ∷ ks) o limit c t l =
    let s = starts o limit k ks t in
    before k ks c (omega arith) ∙ nothing-before ks (k.column + k.width) limit c (goes_on o limit k ks t) (omega arith)

-- ---- in ascending order, each field's columns hold its word's bits

-- from column o on
pub record HoldsWord (o : ℕ) (ks : List Block) (k : Block) : Type 0 where
  pub from_on : o ≤ k.column
  pub bits : (i : ℕ) → i < k.width → column_bit ks (k.column + i) ≡ bit_at k.word i

pub each_holds : (ks : List Block) (o limit : ℕ) → between o limit ks ≡ true → All (HoldsWord o ks) ks
each_holds [] o limit t = tt
each_holds (k ∷ ks) o limit t =
    let s = starts o limit k ks t in let next = k.column + k.width in (
      record { from_on = s; bits = λ i l. inside k ks (k.column + i) (omega arith) (omega arith) ∙ ap (bit_at k.word) (omega arith) },
      all_then (HoldsWord next ks) (HoldsWord o (k ∷ ks))
          (λ j h. let f = h.from_on in
          record { from_on = omega arith; bits = λ i l. behind k ks (j.column + i) (omega arith) ∙ h.bits i l })
          ks (each_holds ks next limit (goes_on o limit k ks t)),
    )

-- bits that are those of a word read as it
pub reads : (b : ℕ → Bool) (o n w : ℕ) → w < 2 ^ n → ((i : ℕ) → i < n → b (o + i) ≡ bit_at w i) → word b o n ≡ w
reads b o n w l h = val_same _ _ n h ∙ val-bits n w l
