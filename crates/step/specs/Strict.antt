-- The strict conditions of document 02, request 6, of one cycle: document 01's ten, and what the flags of loads and stores must be.
-- Assumes nothing.
use Rattle.std.specs.Prelude.{◌≡◌, Bool, true, false, ◌&&◌, ℕ, ◌+◌}
use Rattle.base.specs.Bits.{digit}
use Rattle.field.specs.declared.Gf128.{Gf128}
use Rattle.layout.specs.Columns.{IS-LOAD, IS-STORE, LD-BYTE, LD-HALF, LD-WORD}
use Rattle.strict.specs.declared.Known.{Known}
use Rattle.strict.specs.declared.Known.TheVariants.{House, Strict}
use Rattle.step.specs.Step.{Step}

-- how many widths a cycle has: of byte, half and word, those that are set
abbrev pub widths : (ℕ → Bool) → ℕ
widths b = digit (b LD-BYTE) + digit (b LD-HALF) + digit (b LD-WORD)

pub record StrictStep (b : ℕ → Bool) (output : Gf128) : Type 0 where
  -- the ten conditions hold
  pub ten : Step b output
  -- no cycle both loads and stores
  pub apart : (b IS-LOAD && b IS-STORE) ≡ false
  -- a loading cycle has exactly one width
  pub one_width : b IS-LOAD ≡ true → widths b ≡ 1
  -- and others have none
  pub no-width : b IS-LOAD ≡ false → widths b ≡ 0

-- the conditions that a known listing's rows come to
abbrev pub ConditionsOf : Known → (ℕ → Bool) → Gf128 → Type 0
ConditionsOf House = Step
ConditionsOf Strict = StrictStep
