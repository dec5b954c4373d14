-- The bits of fields that stand side by side in a word.
-- Assumes nothing.
use Rattle.std.specs.Prelude.{◌≡◌, Bool, true, false, ◌&&◌, List, [], ◌∷◌, ℕ, ◌+◌, ◌*◌, ◌^◌, ◌<◌}
use Rattle.std.proofs.Common.{sym, ap, ◌∙◌, zero-add, add_assoc, one-mul, zero-mul, arith}
use Rattle.std.proofs.Math.Bool.{and-true, and-false}
use Rattle.base.specs.Bits.{digit, bit_at}
use Rattle.base.specs.Fields.{Field, flags, pack}
use Rattle.base.specs.Laws.Values.{digit_lt}
use Rattle.base.specs.Laws.Bits.{bit-low, bit_high, no-bit}

abbrev pub Fit : List Field → Type 0
Fit [] = Unit {0}
Fit (f ∷ fs) = (f.value < 2 ^ f.width) × Fit fs

pub flags-fit : (bs : List Bool) → Fit (flags bs)
flags-fit [] = tt
flags-fit (b ∷ bs) = (digit_lt b, flags-fit bs)

-- from o on, word w has each field's bits in turn
abbrev pub Has : ℕ → ℕ → Field → Type 0
Has w o f = (i : ℕ) → i < f.width → bit_at w (o + i) ≡ bit_at f.value i

abbrev pub HasEach : ℕ → ℕ → List Field → Type 0
HasEach w o [] = Unit {0}
HasEach w o (f ∷ fs) = Has w o f × HasEach w (o + f.width) fs

has-from : (w : ℕ) (fs : List Field) (o : ℕ) → Fit fs → ((i : ℕ) → bit_at w (o + i) ≡ bit_at (pack fs) i) → HasEach w o fs
has-from w [] o t h = tt
has-from w (f ∷ []) o t h = (λ i l. h i, tt)
has-from w (f ∷ (g ∷ gs)) o t h = (
  λ i l. h i ∙ bit-low f.width f.value (pack (g ∷ gs)) t.0 i l,
  has-from w (g ∷ gs) (o + f.width) t.1
      (λ i. ap (bit_at w) (add_assoc o f.width i) ∙ h (f.width + i) ∙ bit_high f.width f.value (pack (g ∷ gs)) t.0 i),
)

pub has-each : (fs : List Field) → Fit fs → HasEach (pack fs) 0 fs
has-each fs t = has-from (pack fs) fs 0 t (λ i. ap (bit_at (pack fs)) (zero-add i))

-- a field where a bit is 1, else 0
pub gated : (b : Bool) (h i : ℕ) → bit_at (digit b * h) i ≡ (bit_at h i && b)
gated true h i = ap (λ (m : ℕ). bit_at m i) (one-mul h) ∙ sym (and-true (bit_at h i))
gated false h i =
    ap (λ (m : ℕ). bit_at m i) (zero-mul h) ∙ no-bit i ∙ sym (and-false (bit_at h i))

pub gated-lt : (b : Bool) (h n : ℕ) → h < n → digit b * h < n
gated-lt true h n l = omega arith
gated-lt false h n l = omega arith
