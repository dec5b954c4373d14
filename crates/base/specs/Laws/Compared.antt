-- Two lists compared word by word: the or of what differs is 0 exactly where they are the same.
-- Assumes nothing.
use Rattle.std.specs.Prelude.{◌≡◌, refl, ◌↔◌, Bool, true, false, List, ℕ, ◌+◌, ◌<◌, eqb, length, get_or}
use Rattle.std.proofs.Common.{sym, ap, subst, ◌∙◌, arith, eqb-true, eq-eqb, ext_get_or}
use Rattle.std.proofs.lemmas.Bool.{false≢true}
use Rattle.std.proofs.Math.Decide.{ℕ_discrete}
use Rattle.std.specs.Int.Bits.{bit_or, bit_xor, or_add_and, xor_add_and, xor_self}
use Rattle.std.proofs.lemmas.Nat.{and_le_l, and_le_r}

-- the first n words are the same
abbrev pub SameBelow : List ℕ → List ℕ → ℕ → Type 0
SameBelow a b n = (i : ℕ) → i < n → get_or a i 0 ≡ get_or b i 0

xor-none : (a b : ℕ) → (bit_xor a b ≡ 0) ↔ (a ≡ b)
xor-none a b = (
  λ e. omega (arith, e, xor_add_and a b, and_le_l a b, and_le_r a b),
  λ e. ap (λ (x : ℕ). bit_xor x b) e ∙ xor_self b,
)

pub or-none : (a b : ℕ) → (bit_or a b ≡ 0) ↔ ((a ≡ 0) × (b ≡ 0))
or-none a b = (
  λ e. (omega (arith, e, or_add_and a b, and_le_r a b), omega (arith, e, or_add_and a b, and_le_l a b)),
  λ h. omega (arith, h.0, h.1, or_add_and a b),
)

pub compared-none : (a b : List ℕ) → (◌≡◌ {A = ℕ} 0 0) ↔ SameBelow a b 0
compared-none a b = (λ _ i l. absurd (omega arith), λ _. refl)

-- one word more
pub compared-more : (a b : List ℕ) (n different : ℕ) → (different ≡ 0) ↔ SameBelow a b n
    → (bit_or different (bit_xor (get_or a n 0) (get_or b n 0)) ≡ 0) ↔ SameBelow a b (n + 1)
compared-more a b n different h = (
  λ e i l.
      let p = (or-none different (bit_xor (get_or a n 0) (get_or b n 0))).0 e in
      elim (ℕ_discrete i n) [
        | yes q ↦ ap (λ (x : ℕ). get_or a x 0) q ∙ (xor-none (get_or a n 0) (get_or b n 0)).0 p.1 ∙ ap (λ (x : ℕ). get_or b x 0) (sym q)
        | no q ↦ h.0 p.0 i (omega arith)
      ],
  λ s.
      (or-none different (bit_xor (get_or a n 0) (get_or b n 0))).1
      (h.1 (λ i l. s i (omega arith)), (xor-none (get_or a n 0) (get_or b n 0)).1 (s n (omega arith))),
)

-- in the end, of lists as long
pub compared-all : (a b : List ℕ) (n different : ℕ) → length a ≡ n → length b ≡ n → (different ≡ 0) ↔ SameBelow a b n
    → (eqb different 0 ≡ true) ↔ (a ≡ b)
compared-all a b n different la lb h = (
  λ e. ext_get_or 0 a b (la ∙ sym lb) (λ i l. h.0 (eqb-true different 0 e) i (omega (arith, la))),
  λ e. eq-eqb different 0 (h.1 (λ i l. ap (λ (x : List ℕ). get_or x i 0) e)),
)

-- of another length, they are not
pub other_length : (a b : List ℕ) (n : ℕ) → (length a ≡ n → ⊥) → length b ≡ n → (false ≡ true) ↔ (a ≡ b)
other_length a b n f lb = (λ e. absurd (false≢true e), λ e. absurd (f (ap length e ∙ lb)))

-- held against what is a table
pub as-table : {a made table : List ℕ} {r : Bool} → made ≡ table → (r ≡ true) ↔ (a ≡ made) → (r ≡ true) ↔ (a ≡ table)
as-table {a = a} {r = r} e h = subst (λ (t : List ℕ). (r ≡ true) ↔ (a ≡ t)) e h
