-- Fillings of a batch, as the list of words that is lent: one puts 0 or 1 into every derived column and changes nothing else. How many of
-- them pass a test; and the filler's own.
-- Assumes nothing.
use Rattle.std.specs.Prelude.{◌≡◌, Bool, true, false, cond, List, ℕ, zero, suc, ◌+◌, ◌*◌, ◌/◌, ◌%◌, ◌<◌, length, set}
use Rattle.base.specs.Bits.{digit}
use Rattle.verdict.specs.Row.{element_at, bits_of}
use Rattle.step.specs.Derived.{derived_in}
use Rattle.step.specs.Determining.{filled_bits}

-- a given column of some cycle, or a public column
abbrev pub NotDerived : ℕ → ℕ → Type 0
NotDerived cpi x = x < 2048 * cpi → derived_in cpi x ≡ true → ⊥

-- two batches that differ in derived columns alone
pub record SameElsewhere (cpi : ℕ) (u w : List ℕ) : Type 0 where
  pub lengths : length u ≡ length w
  pub elements : (x : ℕ) → NotDerived cpi x → element_at u x ≡ element_at w x

-- 0 or 1 put into a batch column: two words, the low one first
abbrev pub put : List ℕ → ℕ → Bool → List ℕ
put batch x v = set (set batch (2 * x) (digit v)) (2 * x + 1) 0

-- of the batch columns of which a test is true
module _ (q : ℕ → Bool) where
  -- bits v put into those among x, x + 1 .. x + n - 1
  unfoldable pub put_each : ℕ → ℕ → (ℕ → Bool) → List ℕ → List ℕ
  put_each zero x v batch = batch
  put_each (suc n) x v batch = put_each n (suc x) v (cond (q x) (put batch x (v x)) batch)

  -- how many ways of doing so pass the test p: with 0 in the first of the columns, and with 1
  unfoldable pub count : (List ℕ → Bool) → ℕ → ℕ → List ℕ → ℕ
  count p zero x batch = digit (p batch)
  count p (suc n) x batch = cond (q x) (count p n (suc x) (put batch x false) + count p n (suc x) (put batch x true))
      (count p n (suc x) batch)

-- the filling with bits v
unfoldable pub filling : ℕ → (ℕ → Bool) → List ℕ → List ℕ
filling cpi v batch = put_each (derived_in cpi) (2048 * cpi) 0 v batch

unfoldable pub count_fillings : ℕ → (List ℕ → Bool) → List ℕ → ℕ
count_fillings cpi p batch = count (derived_in cpi) p (2048 * cpi) 0 batch

-- the filler's bits: batch column x is column x / cpi of cycle x % cpi
abbrev pub filler_bits : ℕ → List ℕ → ℕ → Bool
filler_bits cpi batch x = filled_bits (bits_of cpi batch (x % cpi)) (x / cpi)

-- what the filler makes of a batch
unfoldable pub filled : ℕ → List ℕ → List ℕ
filled cpi batch = filling cpi (filler_bits cpi batch) batch
