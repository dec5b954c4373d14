-- What the or of words tells: whether each of them is a bit.
-- Assumes nothing.
use Rattle.std.specs.Prelude.{◌≡◌, ℕ, ◌+◌, ◌*◌, ◌/◌, ◌<◌, ◌≤◌, Bool, true, ◌↔◌, List, ◌==◌, bit_or, slice_index, refl}
use Rattle.std.proofs.Common.{sym, ap, ap₂, subst, ◌∙◌, le_trans, arith}
use Rattle.std.proofs.Math.Decide.{ℕ_discrete}
use Rattle.std.specs.Int.Bits.{or_add_and}
use Rattle.std.proofs.lemmas.Nat.{and_le_l, and_le_r, or_lt}
use Rattle.base.specs.Bits.{digit}
use Rattle.base.specs.Laws.Numbers.{zero-or-one}
use Rattle.base.specs.Laws.Values.{digit_lt}
use Rattle.base.specs.Laws.Compared.{or-none}
use Rattle.field.specs.Gf.{of_words, low, high, is_bit, of_bit, odd}
use Rattle.field.specs.Gf.Bits.{bit-words}
use Rattle.field.specs.Gf.Tests.{is_bit-bit, is_bit-true}
use Rattle.field.specs.Gf.Laws.{low-words, high-words}
use Rattle.verdict.specs.Row.{element_at}
use Rattle.packed.specs.Seen.{BitAt}

pub as-digit : (n : ℕ) → n ≤ 1 → n ≡ digit (n == 1)
as-digit n l = zero-or-one (λ (k : ℕ). k ≡ digit (k == 1)) refl refl n (omega arith)

bit-low : (o : Bool) {lo hi : ℕ} → of_words lo hi ≡ of_bit o → (lo ≤ 1) × (hi ≤ 0)
bit-low o {lo} {hi} e =
    let q = e ∙ sym (bit-words o) in
    let p : lo ≡ digit o = sym (low-words lo hi) ∙ ap low q ∙ low-words (digit o) 0 in
    let r : hi ≡ 0 = sym (high-words lo hi) ∙ ap high q ∙ high-words (digit o) 0 in (omega (arith, p, digit_lt o), omega (arith, r))

pub bit-words-are : (b : List ℕ) (x : ℕ) → (is_bit (element_at b x) ≡ true) ↔ BitAt b (2 * x)
bit-words-are b x = (
  λ e. bit-low (odd (element_at b x)) (is_bit-true (element_at b x) e),
  λ h.
      ap is_bit (ap₂ of_words (as-digit (slice_index b (2 * x)) h.0) (omega (arith, h.1)) ∙ bit-words (slice_index b (2 * x) == 1))
      ∙ is_bit-bit (slice_index b (2 * x) == 1),
)

-- ---- or

pub or_left : (a b : ℕ) → a ≤ bit_or a b
or_left a b = omega (arith, or_add_and a b, and_le_r a b)

pub or_right : (a b : ℕ) → b ≤ bit_or a b
or_right a b = omega (arith, or_add_and a b, and_le_l a b)

or-one : (a b : ℕ) → a ≤ 1 → b ≤ 1 → bit_or a b ≤ 1
or-one a b l m = omega (arith, or_lt 1 a b (omega arith) (omega arith))

or-zero : (a b : ℕ) → a ≤ 0 → b ≤ 0 → bit_or a b ≤ 0
or-zero a b l m = omega (arith, or_add_and a b)

-- ---- n elements, whose words stand at the places of 0, 1 .. n - 1

pub record Seen (b : List ℕ) (place : ℕ → ℕ) (n low high : ℕ) : Type 0 where
  pub most : (x : ℕ) → x < n → (slice_index b (place x) ≤ low) × (slice_index b (place x + 1) ≤ high)
  pub only : ((x : ℕ) → x < n → BitAt b (place x)) → (low ≤ 1) × (high ≤ 0)

module _ (b : List ℕ) (place : ℕ → ℕ) where
  pub seen_none : Seen b place 0 0 0
  seen_none = record { most = λ x l. absurd (omega arith); only = λ _. (omega arith, omega arith) }

  pub seen_more : (n low high i j : ℕ) → i ≡ place n → j ≡ place n + 1 → Seen b place n low high
      → Seen b place (n + 1) (bit_or low (slice_index b i)) (bit_or high (slice_index b j))
  seen_more n low high i j e f s =
      record {
        most = λ x l. most x (ℕ_discrete x n) l;
        only = λ h.
            let p = s.only (λ x l. h x (omega arith)) in let q = h n (omega arith) in (
              or-one low (slice_index b i) p.0 (subst (λ (k : ℕ). slice_index b k ≤ 1) (sym e) q.0),
              or-zero high (slice_index b j) p.1 (subst (λ (k : ℕ). slice_index b k ≤ 0) (sym f) q.1),
            );
      }
    where
      most : (x : ℕ) → Dec (x ≡ n) → x < n + 1
          → (slice_index b (place x) ≤ bit_or low (slice_index b i)) × (slice_index b (place x + 1) ≤ bit_or high (slice_index b j))
      most x (yes q) l = (
        subst (λ (k : ℕ). slice_index b k ≤ bit_or low (slice_index b i)) (e ∙ ap place (sym q)) (or_right low (slice_index b i)),
        subst (λ (k : ℕ). slice_index b k ≤ bit_or high (slice_index b j)) (f ∙ ap (λ (y : ℕ). place y + 1) (sym q)) (or_right high (slice_index b j)),
      )
      most x (no g) l =
          let m = s.most x (omega arith) in (le_trans m.0 (or_left low (slice_index b i)), le_trans m.1 (or_left high (slice_index b j)))

  -- of words that were read
  pub seen_next : (n low high : ℕ) {x y : ℕ} → x ≡ slice_index b (place n) → y ≡ slice_index b (place n + 1) → Seen b place n low high
      → Seen b place (n + 1) (bit_or low x) (bit_or high y)
  seen_next n low high {x} {y} e f s =
      subst (λ (z : ℕ). Seen b place (n + 1) (bit_or low z) (bit_or high y)) (sym e)
      (subst (λ (z : ℕ). Seen b place (n + 1) (bit_or low (slice_index b (place n))) (bit_or high z)) (sym f)
      (seen_more n low high (place n) (place n + 1) refl refl s))

  -- the test: no low word above 1, no high word above 0
  pub seen-bits : (n low high : ℕ) → Seen b place n low high → (bit_or (low / 2) high ≡ 0) ↔ ((x : ℕ) → x < n → BitAt b (place x))
  seen-bits n low high s = (
    λ e x l.
        let p = (or-none (low / 2) high).0 e in let m = s.most x l in (omega (arith, m.0, p.0), omega (arith, m.1, p.1)),
    λ h. let p = s.only h in (or-none (low / 2) high).1 (omega (arith, p.0), omega (arith, p.1)),
  )
