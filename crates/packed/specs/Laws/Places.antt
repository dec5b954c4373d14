-- A bit's place in batch order and its place in cycle order: the layout's mapping and its way back, which undo each other.
-- Assumes nothing.
use Rattle.std.specs.Prelude.{◌≡◌, ℕ, ◌+◌, ◌*◌, ◌/◌, ◌%◌, ◌<◌, true, Err, Ok}
use Rattle.std.proofs.Math.Path.{sym, ap, ap₂}
use Rattle.std.proofs.Common.{◌∙◌, mod-lt, div-lt_iff_lt-mul, lt-ltb}
use native.Mathlib.Omega.{arith}
use Rattle.base.specs.Laws.Tests.{passed}
use Rattle.layout.specs.Batch.{allowed, column_at, mapped, unmapped}
use Rattle.layout.specs.Laws.Mapping.{column-below, back-of-mapped, mapped-of-back}
use Rattle.layout.specs.Laws.Sizes.{allowed-range}
use Rattle.packed.specs.Storage.{in_batch, in_cycles}
use Rattle.layout.specs.Questions.{Answer}
use Rattle.layout.specs.declared.CycleColumn.{CycleColumn}

-- the bit that an answer of the way back names in cycle order, and one of the mapping in batch order
placed : Answer CycleColumn → ℕ
placed (Ok p) = 2048 * p.cycle + p.column
placed (Err _) = 0

found : Answer ℕ → ℕ
found (Ok b) = b
found (Err _) = 0

module _ (cpi : ℕ) (ok : allowed cpi ≡ true) where
  placed-is : (x : ℕ) → x < 2048 * cpi → placed (unmapped cpi x) ≡ in_cycles cpi x
  unfolding placed unmapped
  placed-is x h = sym (ap placed (passed _ _ _ (lt-ltb x (2048 * cpi) h) ∙ passed _ _ _ ok))

  found-is : (c d : ℕ) → c < 2048 → d < cpi → found (mapped 2048 cpi c d) ≡ column_at cpi c d
  unfolding found mapped
  found-is c d hc hd = sym (ap found (passed _ _ _ (lt-ltb d cpi hd) ∙ passed _ _ _ (lt-ltb c 2048 hc) ∙ passed _ _ _ ok))

  pub in-batch-lt : (y : ℕ) → y < 2048 * cpi → in_batch cpi y < 2048 * cpi
  in-batch-lt y h = column-below cpi (y % 2048) (y / 2048) (omega arith) (omega arith)

  column-lt : (x : ℕ) → x < 2048 * cpi → x / cpi < 2048
  column-lt x h = (div-lt_iff_lt-mul (allowed-range cpi ok).0).1 h

  cycle-lt : (x : ℕ) → x % cpi < cpi
  cycle-lt x = mod-lt x (allowed-range cpi ok).0

  pub in-cycles-lt : (x : ℕ) → x < 2048 * cpi → in_cycles cpi x < 2048 * cpi
  in-cycles-lt x h = omega (arith, column-lt x h, cycle-lt x)

  -- there and back
  pub cycles-of-batch : (y : ℕ) → y < 2048 * cpi → in_cycles cpi (in_batch cpi y) ≡ y
  unfolding placed
  cycles-of-batch y h =
      sym (placed-is (in_batch cpi y) (in-batch-lt y h))
      ∙ ap placed (back-of-mapped cpi ok (y % 2048) (y / 2048) (omega arith) (omega arith)) ∙ omega arith

  -- back and there
  pub batch-of-cycles : (x : ℕ) → x < 2048 * cpi → in_batch cpi (in_cycles cpi x) ≡ x
  unfolding found
  batch-of-cycles x h =
      let c = x / cpi in let d = x % cpi in let hc = column-lt x h in let hd = cycle-lt x in
      ap₂ (column_at cpi) {x = in_cycles cpi x % 2048} {y = c} (omega arith) (omega arith)
      ∙ sym (found-is c d hc hd) ∙ ap found (mapped-of-back cpi ok x h)
