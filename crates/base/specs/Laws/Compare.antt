-- The comparisons for any width, from a - b as a + (complement of b) + 1: unsigned less where no carry comes out, equal where the
-- difference is 0, signed less from the signs and the difference's top bit.
-- Assumes nothing.
use Rattle.std.specs.Prelude.{◌≡◌, refl, Bool, true, false, not, cond, ℕ, suc, ◌+◌, ◌*◌, ◌-◌, ◌^◌, ◌≤◌, ◌<◌, eqb, ltb, pos, negsuc}
use Rattle.std.proofs.Common.{ap, ◌∙◌, true≢false, arith, lt-ltb, le-ltb, ltb-true, ltb-false, eqb-true, eq-eqb}
use Rattle.std.proofs.lemmas.Bool.{false≢true}
use Rattle.std.specs.Int.Signed.{lt_z}
use Rattle.base.specs.Bits.{digit, val, ◌⊻◌, signed, majority, Carries, signed_less}
use Rattle.base.specs.Laws.Values.{val-lt, val-top, pow_step, complement}
use Rattle.base.specs.Laws.Numbers.{is-eqb, is-ltb}
use Rattle.base.specs.Laws.Adder.{adds-top}

half : (P A B S r : ℕ) (s o : Bool) → r < P → S ≡ r + P * digit s → A + 2 * P ≡ S + 2 * P * digit o + B → A < P + B → B < P + A → s
    ≡ ltb A B
half P A B S r true true l e m x y = absurd (omega arith)
half P A B S r true false l e m x y = is-ltb true A B (λ _. omega arith) (λ q. absurd (true≢false q))
half P A B S r false true l e m x y = is-ltb false A B (λ q. absurd (false≢true q)) (λ _. omega arith)
half P A B S r false false l e m x y = absurd (omega arith)

pub less-flipped : (P A B : ℕ) → A < P → B < P → ltb A B ≡ ltb (P - suc B) (P - suc A)
less-flipped P A B l m =
    is-ltb (ltb A B) (P - suc B) (P - suc A) (λ e. let k : A < B = ltb-true A B e in omega arith)
    (λ e. let k : B ≤ A = ltb-false A B e in omega arith)

-- a word below 2^n, and one from there on, as signed numbers
pub signed-pos : (n x : ℕ) → x < 2 ^ n → signed n x ≡ pos x
unfolding signed
signed-pos n x l = ap (λ (t : Bool). cond t (pos x) (negsuc (2 ^ suc n - suc x))) (lt-ltb x (2 ^ n) l)

pub signed-neg : (n x : ℕ) → 2 ^ n ≤ x → signed n x ≡ negsuc (2 ^ suc n - suc x)
unfolding signed
signed-neg n x l = ap (λ (t : Bool). cond t (pos x) (negsuc (2 ^ suc n - suc x))) (le-ltb x (2 ^ n) l)

module _ (n : ℕ) (a b c : ℕ → Bool) (first : c 0 ≡ true) (h : Carries n a (λ i. not (b i)) c) where
  abbrev A : ℕ
  A = val a (suc n)

  abbrev B : ℕ
  B = val b (suc n)

  -- the difference, bit by bit, and the carry out of its top bit
  abbrev d : ℕ → Bool
  d i = a i ⊻ not (b i) ⊻ c i

  abbrev out : Bool
  out = majority (a n) (not (b n)) (c n)

  difference : A + 2 ^ suc n ≡ val d (suc n) + 2 ^ suc n * digit out + B
  difference = omega (arith, adds-top n a (λ i. not (b i)) c h, complement b (suc n), ap (λ (x : Bool). digit x) first)

  pub unsigned-less : not out ≡ ltb A B
  unsigned-less = go out refl
    where
      go : (o : Bool) → out ≡ o → not o ≡ ltb A B
      go true e =
          is-ltb false A B (λ x. absurd (false≢true x)) (λ _ l. omega (arith, l, difference, ap (λ (x : Bool). 2 ^ suc n * digit x) e))
      go false e =
          is-ltb true A B (λ _. omega (arith, difference, val-lt (suc n) d, ap (λ (x : Bool). 2 ^ suc n * digit x) e))
          (λ x. absurd (true≢false x))

  pub equal_words : eqb (val d (suc n)) 0 ≡ eqb A B
  equal_words = go out refl
    where
      go : (o : Bool) → out ≡ o → eqb (val d (suc n)) 0 ≡ eqb A B
      go true e =
          is-eqb (eqb (val d (suc n)) 0) A B
          (λ t. omega (arith, eqb-true (val d (suc n)) 0 t, difference, ap (λ (x : Bool). 2 ^ suc n * digit x) e))
          (λ t. eq-eqb (val d (suc n)) 0 (omega (arith, t, difference, ap (λ (x : Bool). 2 ^ suc n * digit x) e)))
      go false e =
          is-eqb (eqb (val d (suc n)) 0) A B
          (λ t. absurd (omega (
            arith,
            eqb-true (val d (suc n)) 0 t,
            difference,
            val-lt (suc n) b,
            ap (λ (x : Bool). 2 ^ suc n * digit x) e,
          )))
          (λ t. absurd (omega (arith, t, difference, val-lt (suc n) d, ap (λ (x : Bool). 2 ^ suc n * digit x) e)))

  -- where the two are less than 2^n apart, the difference's top bit decides
  near : A < 2 ^ n + B → B < 2 ^ n + A → d n ≡ ltb A B
  near x y =
      half (2 ^ n) A B (val d (suc n)) (val d n) (d n) out (val-lt n d) (val-top d n)
      (omega (arith, difference, pow_step n (digit out))) x y

  below_half : (f : ℕ → Bool) → f n ≡ false → val f (suc n) < 2 ^ n
  below_half f e = omega (arith, val-top f n, val-lt n f, ap (λ (x : Bool). 2 ^ n * digit x) e)

  from-half : (f : ℕ → Bool) → f n ≡ true → 2 ^ n ≤ val f (suc n)
  from-half f e = omega (arith, val-top f n, ap (λ (x : Bool). 2 ^ n * digit x) e)

  by-signs : (s t : Bool) → a n ≡ s → b n ≡ t → signed_less s t (d n) ≡ lt_z (signed n A) (signed n B)
  by-signs true true p q =
      rw (signed-neg n A (from-half a p), signed-neg n B (from-half b q))
      (near (omega (arith, from-half b q, val-lt (suc n) a)) (omega (arith, from-half a p, val-lt (suc n) b))
      ∙ less-flipped (2 ^ suc n) A B (val-lt (suc n) a) (val-lt (suc n) b))
  by-signs true false p q = rw (signed-neg n A (from-half a p), signed-pos n B (below_half b q))
  by-signs false true p q = rw (signed-pos n A (below_half a p), signed-neg n B (from-half b q))
  by-signs false false p q =
      rw (signed-pos n A (below_half a p), signed-pos n B (below_half b q))
      (near (omega (arith, below_half a p)) (omega (arith, below_half b q)))

  pub signed-less : signed_less (a n) (b n) (d n) ≡ lt_z (signed n A) (signed n B)
  signed-less = by-signs (a n) (b n) refl refl
