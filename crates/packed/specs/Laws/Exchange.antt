-- Two words that exchange bits: the code's operations do it, done again they undo it, and its masks are right.
-- Assumes nothing.
use Rattle.std.specs.Prelude.{◌≡◌, ℕ, ◌+◌, ◌-◌, ◌*◌, ◌/◌, ◌%◌, ◌^◌, ◌<◌, Bool, true, false, not, ◌&&◌, ◌==◌, nat_eq, nat_lt, refl}
use Rattle.std.proofs.Common.{sym, ap, ap₂, ◌∙◌, add_comm, mul_comm, arith, ltb-true}
use Rattle.std.proofs.Math.Nat.{add-div_right}
use Rattle.std.proofs.Math.Decide.{dec_lt}
use Rattle.std.specs.Int.Bits.{bit_xor, bit_and}
use Rattle.base.specs.Lists.{all_below}
use Rattle.base.specs.Bits.{bit_at, ◌⊻◌}
use Rattle.base.specs.Laws.Bits.{bit-shr, bit_cut, bit_moved, bit_below, bit-xor, bit-and}
use Rattle.base.specs.Laws.Cases.{of_two, xor-false}
use Rattle.base.specs.Laws.Lists.{same-below}
use Rattle.base.specs.Laws.Tests.{both}
use Rattle.packed.specs.Turn.{Masks, Exchanged}

-- ---- the code's operations

module _ (x y j m : ℕ) (k : Masks j m) where
  -- what differs, at the even runs
  abbrev t : ℕ
  t = bit_and (bit_xor (x / 2 ^ j) y) m

  t-bit : (p : ℕ) (b : Bool) → p < 64 → (p / j % 2 == 0) ≡ b → bit_at t p ≡ ((bit_at x (p + j) ⊻ bit_at y p) && b)
  t-bit p b l e =
      bit-and (bit_xor (x / 2 ^ j) y) m p
      ∙ ap₂ ◌&&◌
      (bit-xor (x / 2 ^ j) y p ∙ ap (λ (b : Bool). b ⊻ bit_at y p) (bit-shr x j p ∙ ap (bit_at x) (add_comm j p))) (k.at p l ∙ e)

  t-even : (p : ℕ) → p < 64 → p / j % 2 ≡ 0 → bit_at t p ≡ bit_at x (p + j) ⊻ bit_at y p
  t-even p l e = t-bit p true l (ap (λ (r : ℕ). nat_eq r 0) e) ∙ of_two (λ a b. (a ⊻ b) && true) ◌⊻◌ refl (bit_at x (p + j)) (bit_at y p)

  t-odd : (p : ℕ) → p < 64 → p / j % 2 ≡ 1 → bit_at t p ≡ false
  t-odd p l e =
      t-bit p false l (ap (λ (r : ℕ). nat_eq r 0) e) ∙ of_two (λ a b. (a ⊻ b) && false) (λ a b. false) refl (bit_at x (p + j)) (bit_at y p)

  -- moved up to the odd runs
  abbrev up : ℕ
  up = t * 2 ^ j % 2 ^ 64

  up_is : (p : ℕ) → p < 64 → bit_at up p ≡ bit_at (2 ^ j * t) p
  up_is p l = bit_cut (t * 2 ^ j) 64 p l ∙ ap (λ (n : ℕ). bit_at n p) (mul_comm t (2 ^ j))

  up-odd : (p : ℕ) → p + j < 64 → bit_at up (p + j) ≡ bit_at t p
  up-odd p l = up_is (p + j) l ∙ ap (bit_at (2 ^ j * t)) (add_comm p j) ∙ bit_moved j t p

  next-run : (p : ℕ) → (p + j) / j ≡ p / j + 1
  next-run p = add-div_right p k.some

  up-even : (p : ℕ) → p < 64 → p / j % 2 ≡ 0 → bit_at up p ≡ false
  up-even p l e =
      elim (dec_lt p j) [
        | yes n ↦ up_is p l ∙ bit_below j t p n
        | no n ↦
            let q = p - j in let back : q + j ≡ p = omega arith in
            ap (bit_at up) (sym back) ∙ up-odd q (omega arith)
            ∙ t-odd q (omega arith) (omega (arith, e, next-run q, ap (λ (z : ℕ). z / j) back))
      ]

  undo : (a b : Bool) → (a ⊻ (a ⊻ b)) ≡ b
  undo = of_two _ _ refl

  undo-other : (a b : Bool) → (b ⊻ (a ⊻ b)) ≡ a
  undo-other = of_two _ _ refl

  pub exchanged : Exchanged x y j (bit_xor x (t * 2 ^ j % 2 ^ 64)) (bit_xor y t)
  exchanged =
      record {
        low-even = λ p o.
            bit-xor x up p ∙ ap (λ (b : Bool). bit_at x p ⊻ b) (up-even p (omega (arith, o.inside)) o.even) ∙ xor-false (bit_at x p);
        low-odd = λ p o.
            bit-xor x up (p + j)
            ∙ ap (λ (b : Bool). bit_at x (p + j) ⊻ b) (up-odd p o.inside ∙ t-even p (omega (arith, o.inside)) o.even)
            ∙ undo (bit_at x (p + j)) (bit_at y p);
        high-even = λ p o.
            bit-xor y t p ∙ ap (λ (b : Bool). bit_at y p ⊻ b) (t-even p (omega (arith, o.inside)) o.even)
            ∙ undo-other (bit_at x (p + j)) (bit_at y p);
        high-odd = λ p o.
            bit-xor y t (p + j)
            ∙ ap (λ (b : Bool). bit_at y (p + j) ⊻ b) (t-odd (p + j) o.inside (omega (arith, o.even, next-run p)))
            ∙ xor-false (bit_at y (p + j));
      }

-- exchanged again, the two words are back
pub exchanged-back : {x y j low high : ℕ} → Exchanged x y j low high → Exchanged low high j x y
exchanged-back e =
    record {
      low-even = λ p o. sym (e.low-even p o);
      low-odd = λ p o. sym (e.high-even p o);
      high-even = λ p o. sym (e.low-odd p o);
      high-odd = λ p o. sym (e.high-odd p o);
    }

-- ---- the masks, by one computed test each

abbrev even_runs : ℕ → ℕ → Bool
even_runs j m = nat_lt 0 j && (nat_lt j 64 && all_below 64 (λ p. not (bit_at m p ⊻ nat_eq (p / j % 2) 0)))

tested : (j m : ℕ) → even_runs j m ≡ true → Masks j m
tested j m e =
    let s = both (nat_lt 0 j) _ e in let l = both (nat_lt j 64) _ s.1 in
    record {
      some = ltb-true 0 j s.0;
      less = ltb-true j 64 l.0;
      at = same-below 64 (bit_at m) (λ p. nat_eq (p / j % 2) 0) l.1;
    }

pub mask-32 : Masks 32 0x00000000ffffffff
mask-32 = tested 32 0x00000000ffffffff refl

pub mask-16 : Masks 16 0x0000ffff0000ffff
mask-16 = tested 16 0x0000ffff0000ffff refl

pub mask-8 : Masks 8 0x00ff00ff00ff00ff
mask-8 = tested 8 0x00ff00ff00ff00ff refl

pub mask-4 : Masks 4 0x0f0f0f0f0f0f0f0f
mask-4 = tested 4 0x0f0f0f0f0f0f0f0f refl

pub mask-2 : Masks 2 0x3333333333333333
mask-2 = tested 2 0x3333333333333333 refl

pub mask-1 : Masks 1 0x5555555555555555
mask-1 = tested 1 0x5555555555555555 refl

pub ruleset masks = (mask-32, mask-16, mask-8, mask-4, mask-2, mask-1)
