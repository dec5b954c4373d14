-- What a filling holds, column by column: its bits in the derived columns, and what stood there in all others.
-- Assumes nothing.
use Rattle.std.specs.Prelude.{◌≡◌, Bool, true, false, cond, List, ltb, length, get_or, set}
use Rattle.std.proofs.Math.Path.{refl, ap, subst}
use Rattle.std.proofs.Common.{sym, ap₂, ◌∙◌, true≢false, eq-or-lt_of_le, arith, lt-ltb, ltb-true, length-set, ext_get_or, get_or-set_same, get_or-set_other}
use Rattle.std.proofs.Math.Logic.{⊎_elim}
use Prim.Native.Nat.{ℕ, zero, suc, ◌+◌, ◌*◌, ◌/◌, ◌%◌, ◌≤◌, ◌<◌}
use Rattle.std.proofs.Math.Decide.{dec_lt}
use Rattle.std.proofs.Math.Arith.{digits_div, digits_lt}
use Rattle.base.specs.Bits.{digit}
use Rattle.field.specs.Gf.{of_words, of_bit}
use Rattle.field.specs.Gf.Bits.{bit-words}
use Rattle.field.specs.Gf.Laws.{words-injective}
use Rattle.layout.specs.Batch.{column_at, batch_words}
use Rattle.layout.specs.Laws.Mapping.{witness-column, public-column}
use Rattle.verdict.specs.Row.{element_at, cycle_of}
use Rattle.step.specs.Derived.{derived, derived_in}
use Rattle.step.specs.Filling.{NotDerived, SameElsewhere, put, put_each, filling}
use Rattle.step.proofs.Laws.Derived.{derived-below}

-- ---- one column put

pub put-length : (w : List ℕ) (x : ℕ) (v : Bool) → length (put w x v) ≡ length w
put-length w x v = length-set (set w (2 * x) (digit v)) (2 * x + 1) 0 ∙ length-set w (2 * x) (digit v)

pub put-here : (w : List ℕ) (x : ℕ) (v : Bool) → 2 * x + 1 < length w → element_at (put w x v) x ≡ of_bit v
put-here w x v l =
    ap₂ of_words
    (get_or-set_other (set w (2 * x) (digit v)) (2 * x + 1) (2 * x) 0 0 (omega arith) ∙ get_or-set_same w (2 * x) (digit v) 0 (omega arith))
    (get_or-set_same (set w (2 * x) (digit v)) (2 * x + 1) 0 0 (omega (arith, length-set w (2 * x) (digit v))))
    ∙ bit-words v

pub put-elsewhere : (w : List ℕ) (x c : ℕ) (v : Bool) → (c ≡ x → ⊥) → element_at (put w x v) c ≡ element_at w c
put-elsewhere w x c v h =
    ap₂ of_words
    (get_or-set_other (set w (2 * x) (digit v)) (2 * x + 1) (2 * c) 0 0 (omega arith)
    ∙ get_or-set_other w (2 * x) (2 * c) (digit v) 0 (omega arith))
    (get_or-set_other (set w (2 * x) (digit v)) (2 * x + 1) (2 * c + 1) 0 0 (omega arith)
    ∙ get_or-set_other w (2 * x) (2 * c + 1) (digit v) 0 (omega arith))

-- ---- bits put into columns

module _ (q : ℕ → Bool) where
  once-length : (x : ℕ) (v : Bool) (w : List ℕ) → length (cond (q x) (put w x v) w) ≡ length w
  once-length x v w = go (q x)
    where
      go : (k : Bool) → length (cond k (put w x v) w) ≡ length w
      go true = put-length w x v
      go false = refl

  once-other : (x c : ℕ) (v : Bool) (w : List ℕ) → (q x ≡ true → c ≡ x → ⊥) → element_at (cond (q x) (put w x v) w) c ≡ element_at w c
  once-other x c v w h = go (q x) refl
    where
      go : (k : Bool) → q x ≡ k → element_at (cond k (put w x v) w) c ≡ element_at w c
      go true e = put-elsewhere w x c v (h e)
      go false e = refl

  pub each-length : (n x : ℕ) (v : ℕ → Bool) (w : List ℕ) → length (put_each q n x v w) ≡ length w
  unfolding put_each
  each-length zero x v w = refl
  each-length (suc n) x v w = each-length n (suc x) v _ ∙ once-length x (v x) w

  -- a column that is none of those
  pub each-other : (n x : ℕ) (v : ℕ → Bool) (w : List ℕ) (c : ℕ) → (x ≤ c → c < x + n → q c ≡ true → ⊥) → element_at (put_each q n x v w) c
      ≡ element_at w c
  unfolding put_each
  each-other zero x v w c h = refl
  each-other (suc n) x v w c h =
      each-other n (suc x) v _ c (λ l m. h (omega arith) (omega arith))
      ∙ once-other x c (v x) w (λ e k. h (omega arith) (omega arith) (ap q k ∙ e))

  pub each-here : (n x : ℕ) (v : ℕ → Bool) (w : List ℕ) (c : ℕ) → x ≤ c → c < x + n → q c ≡ true → 2 * c + 1 < length w
      → element_at (put_each q n x v w) c ≡ of_bit (v c)
  unfolding put_each
  each-here zero x v w c l m e k = absurd (omega arith)
  each-here (suc n) x v w c l m e k =
      ⊎_elim
      (λ p. each-other n (suc x) v (cond (q x) (put w x (v x)) w) c (λ l. absurd (omega arith))
      ∙ subst (λ (y : ℕ). element_at (cond (q y) (put w y (v y)) w) c ≡ of_bit (v c)) (sym p)
      (ap (λ (t : Bool). element_at (cond t (put w c (v c)) w) c) e ∙ put-here w c (v c) k))
      (λ p. each-here n (suc x) v (cond (q x) (put w x (v x)) w) c p (omega arith) e (omega (arith, once-length x (v x) w)))
      (eq-or-lt_of_le l)

-- ---- a filling, element by element, and as its cycles see it

-- a given column of a cycle, or a public one, stands at no derived batch column
pub not-derived : (cpi c d : ℕ) → d < cpi → derived c ≡ false → NotDerived cpi (column_at cpi c d)
not-derived cpi c d h e m t =
    elim (dec_lt c 2048) [
      | yes k ↦ true≢false (sym t ∙ ap (derived_in cpi) (witness-column cpi c d k) ∙ ap derived (digits_div c h) ∙ e)
      | no f ↦ omega (arith, m, public-column cpi c d (omega arith))
    ]

module _ (cpi : ℕ) (v : ℕ → Bool) (w : List ℕ) where
  pub filling-length : length (filling cpi v w) ≡ length w
  unfolding filling
  filling-length = each-length (derived_in cpi) (2048 * cpi) 0 v w

  pub filling-elsewhere : (x : ℕ) → NotDerived cpi x → element_at (filling cpi v w) x ≡ element_at w x
  unfolding filling
  filling-elsewhere x h = each-other (derived_in cpi) (2048 * cpi) 0 v w x (λ l m. h (omega arith))

  pub filling-here : (x : ℕ) → x < 2048 * cpi → derived_in cpi x ≡ true → length w ≡ batch_words cpi → element_at (filling cpi v w) x
      ≡ of_bit (v x)
  unfolding filling
  filling-here x l e k = each-here (derived_in cpi) (2048 * cpi) 0 v w x (omega arith) (omega arith) e (omega arith)

  -- a given column, or a public one
  pub filling-given : (c d : ℕ) → d < cpi → derived c ≡ false → cycle_of cpi (filling cpi v w) d c ≡ cycle_of cpi w d c
  unfolding cycle_of
  filling-given c d h e = filling-elsewhere (column_at cpi c d) (not-derived cpi c d h e)

  pub filling-derived : (c d : ℕ) → d < cpi → derived c ≡ true → length w ≡ batch_words cpi → cycle_of cpi (filling cpi v w) d c
      ≡ of_bit (v (c * cpi + d))
  unfolding cycle_of
  filling-derived c d h e l =
      let k = derived-below c e in
      ap (element_at (filling cpi v w)) (witness-column cpi c d k)
      ∙ filling-here (c * cpi + d) (digits_lt k h) (ap derived (digits_div c h) ∙ e) l

-- ---- what is a filling

-- what is so of both words of every element is so of every word
pub each_word : (P : ℕ → Type 0) → ((x : ℕ) → P (2 * x) × P (2 * x + 1)) → (i : ℕ) → P i
each_word P h i = go (i % 2) refl
  where
    go : (r : ℕ) → i % 2 ≡ r → P i
    go zero q = let e : 2 * (i / 2) ≡ i = omega arith in subst P e (h (i / 2)).0
    go (suc zero) q = let e : 2 * (i / 2) + 1 ≡ i = omega arith in subst P e (h (i / 2)).1
    go (suc (suc r)) q = absurd (omega arith)

-- equal elements, equal words
pub by-elements : (u w : List ℕ) → length u ≡ length w → ((x : ℕ) → element_at u x ≡ element_at w x) → u ≡ w
by-elements u w l h = ext_get_or 0 u w l (λ i m. each_word (λ (k : ℕ). get_or u k 0 ≡ get_or w k 0) (λ x. words-injective _ _ _ _ (h x)) i)

-- a batch that holds bits v in the derived columns, and elsewhere what another does, is the other's filling with v
pub is-filling : (cpi : ℕ) (v : ℕ → Bool) (u w : List ℕ) → length w ≡ batch_words cpi → SameElsewhere cpi u w
    → ((x : ℕ) → x < 2048 * cpi → derived_in cpi x ≡ true → element_at u x ≡ of_bit (v x)) → u ≡ filling cpi v w
is-filling cpi v u w l s h =
    by-elements u (filling cpi v w) (s.lengths ∙ sym (filling-length cpi v w))
    (λ x. go x (ltb x (2048 * cpi)) (derived_in cpi x) refl refl)
  where
    go : (x : ℕ) (k j : Bool) → ltb x (2048 * cpi) ≡ k → derived_in cpi x ≡ j → element_at u x ≡ element_at (filling cpi v w) x
    go x true true p q = let m = ltb-true x (2048 * cpi) p in h x m q ∙ sym (filling-here cpi v w x m q l)
    go x true false p q = let n : NotDerived cpi x = λ _ e. true≢false (sym e ∙ q) in s.elements x n ∙ sym (filling-elsewhere cpi v w x n)
    go x false j p q =
        let n : NotDerived cpi x = λ m e. true≢false (sym (lt-ltb x (2048 * cpi) m) ∙ p) in s.elements x n
        ∙ sym (filling-elsewhere cpi v w x n)
