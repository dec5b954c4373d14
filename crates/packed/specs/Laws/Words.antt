-- Of bits, a packed word is the word of its cycle's columns: column c of cycle d is bit c % 64 of word 32 · d + c / 64.
-- Assumes nothing.
use Rattle.std.specs.Prelude.{◌≡◌, ℕ, ◌+◌, ◌*◌, ◌/◌, ◌%◌, ◌^◌, ◌<◌, ◌≤◌, Bool, true, cond, not, List, length, ◌==◌, ◌≢◌, nat_lt, slice_index, refl}
use Rattle.std.proofs.Common.{sym, ap₂, ◌∙◌, zero-add, arith, ltb-true, eq-eqb}
use Rattle.std.proofs.Math.Path.{ap}
use Rattle.std.proofs.lemmas.Bool.{false≢true}
use Rattle.std.proofs.Math.Decide.{dec_lt}
use Rattle.std.proofs.Math.Nat.{mod-eq_of_lt}
use Rattle.base.specs.Bits.{digit, word, bit_at}
use Rattle.base.specs.Laws.Values.{val-lt, val_same}
use Rattle.base.specs.Laws.Tests.{both}
use Rattle.base.specs.Laws.From.{get_or-from}
use Rattle.base.specs.Laws.Bits.{word-bit}
use Rattle.field.specs.Gf.Laws.{low-words}
use Rattle.verdict.specs.Row.{element_at, as_bit, bits_of}
use Rattle.verdict.specs.Laws.Row.{bit-read}
use Rattle.packed.specs.Packed.{low_at, packed_word, named_word, packed_at, packed_named, bits_from, named_bits}
use Rattle.packed.specs.Seen.{BitAt}
use Rattle.packed.specs.Laws.Stacked.{stacked-word}
use Rattle.packed.specs.Laws.Seen.{as-digit}
use Rattle.packed.specs.Laws.Named.{bits_in}

-- a named word is one of the first 15, or 16, or 17
pub named-range : (k : ℕ) → named_word k ≡ true → (k < 18) × (k ≢ 15)
named-range k e =
    let p = both (nat_lt k 18) (not (k == 15)) e in (ltb-true k 18 p.0, λ q. false≢true (ap not (sym (eq-eqb k 15 q)) ∙ p.1))

-- where the words of a cycle stand in the packed slice
pub packed-at : (cpi : ℕ) (batch out : List ℕ) → length out ≡ 32 * cpi → (d k : ℕ) → d < cpi → named_word k ≡ true
    → slice_index (packed_named cpi batch out) (32 * d + k) ≡ packed_word cpi batch d k
unfolding packed_named
packed-at cpi batch out room d k l e =
    let r = named-range k e in
    let quotient : (32 * d + k) / 32 ≡ d = omega (arith, r.0) in let rest : (32 * d + k) % 32 ≡ k = omega (arith, r.0) in
    get_or-from (packed_at cpi batch out) 0 (length out) 0 (32 * d + k) (omega (arith, room, r.0))
    ∙ ap (packed_at cpi batch out) (zero-add (32 * d + k))
    ∙ ap₂ (λ (x j : ℕ). cond (named_word j) (packed_word cpi batch x j) (slice_index out (32 * d + k))) quotient rest
    ∙ ap (λ (t : Bool). cond t (packed_word cpi batch d k) (slice_index out (32 * d + k))) e

-- of 64 columns that are bits, the word that they spell
module _ (cpi : ℕ) (batch : List ℕ) (d k : ℕ) (bits : (c : ℕ) → 64 * k ≤ c → c < 64 * k + 64 → BitAt batch (2 * (c * cpi + d))) where
  pub word-bits : packed_word cpi batch d k ≡ word (λ c. as_bit (element_at batch (c * cpi + d))) (64 * k) 64
  unfolding packed_word
  word-bits =
      ap (λ (n : ℕ). n % 2 ^ 64)
      (stacked-word (low_at cpi batch d) (λ c. as_bit (element_at batch (c * cpi + d))) (64 * k) 64
      (λ c p q. as-digit (low_at cpi batch d c) (bits c p q).0 ∙ ap (λ (n : ℕ). digit (n == 1)) (sym (low-words _ _))))
      ∙ mod-eq_of_lt (val-lt 64 (λ i. as_bit (element_at batch ((64 * k + i) * cpi + d))))

  packed-bits : k < 32 → packed_word cpi batch d k ≡ word (bits_of cpi batch d) (64 * k) 64
  packed-bits l = word-bits ∙ val_same _ _ 64 (λ i m. bit-read cpi d (64 * k + i) batch (omega arith) refl refl refl)

module _ (cpi : ℕ) (some : 0 < cpi) (batch : List ℕ) (bits : named_bits cpi batch ≡ true) where
  -- every column of a named word is a bit, in every cycle
  pub column-bit : (c d : ℕ) → named_word (c / 64) ≡ true → d < cpi → BitAt batch (2 * (c * cpi + d))
  unfolding named_bits
  column-bit c d e l =
      let p = both (bits_from batch 0 (960 * cpi)) (bits_from batch (1024 * cpi) (128 * cpi)) bits in let r = named-range (c / 64) e in
      elim (dec_lt c 960) [
        | yes m ↦ (bits_in cpi batch 0 960 some).0 (ap (λ (x : ℕ). bits_from batch x (960 * cpi)) (omega arith) ∙ p.0) c d (omega arith) m l
        | no m ↦ (bits_in cpi batch 1024 128 some).0 p.1 c d (omega (arith, r.1)) (omega (arith, r.0)) l
      ]

  module _ (d : ℕ) (l : d < cpi) where
    pub packed-word : (k : ℕ) → named_word k ≡ true → packed_word cpi batch d k ≡ word (bits_of cpi batch d) (64 * k) 64
    packed-word k e =
        let r = named-range k e in
        packed-bits cpi batch d k (λ c p q. let same : c / 64 ≡ k = omega arith in column-bit c d (ap named_word same ∙ e) l)
        (omega (arith, r.0))

    -- by columns, in the packed slice
    pub packed-column : (out : List ℕ) → length out ≡ 32 * cpi → (c : ℕ) → named_word (c / 64) ≡ true
        → bit_at (slice_index (packed_named cpi batch out) (32 * d + c / 64)) (c % 64) ≡ bits_of cpi batch d c
    packed-column out room c e =
        ap (λ (w : ℕ). bit_at w (c % 64)) (packed-at cpi batch out room d (c / 64) l e ∙ packed-word (c / 64) e)
        ∙ word-bit (bits_of cpi batch d) (64 * (c / 64)) 64 (c % 64) (omega arith) ∙ ap (bits_of cpi batch d) (omega arith)
