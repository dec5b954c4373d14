-- The bit test.
-- Assumes nothing.
use Rattle.std.specs.Prelude.{Bool, not, cond, List, ℕ, ◌*◌, ltb, length, Err, Some, None, Ok, Option}
use Rattle.base.specs.Tests.{first_from}
use Rattle.field.specs.Gf.{is_bit}
use Rattle.layout.specs.Batch.{unmapped, batch_asked}
use Rattle.layout.specs.Questions.{if_yes, Answer}
use Rattle.verdict.specs.Row.{element_at}
use Rattle.layout.specs.declared.CycleColumn.{CycleColumn}
use Rattle.verdict.specs.declared.bits.NotBit.{NotBit}

-- an element that is neither 0 nor 1
abbrev pub above_one : List ℕ → ℕ → Bool
above_one batch c = not (is_bit (element_at batch c))

-- an answer that names one: its place in the batch, and its column and cycle
abbrev pub not_bit : ℕ → ℕ → ℕ → Answer (Option NotBit)
not_bit at column cycle = Ok (Some (record { at = at; column = column; cycle = cycle }))

-- with its column and its cycle
abbrev pub placed : ℕ → Answer CycleColumn → Answer (Option NotBit)
placed at (Ok p) = not_bit at p.column p.cycle
placed at (Err r) = Err r

-- questions 1 and 2
unfoldable pub bit_tested : ℕ → List ℕ → Answer (Option NotBit)
bit_tested cpi batch =
    if_yes Err (batch_asked cpi (length batch))
    (cond (ltb (first_from (above_one batch) 0 (2048 * cpi)) (2048 * cpi))
    (placed (first_from (above_one batch) 0 (2048 * cpi)) (unmapped cpi (first_from (above_one batch) 0 (2048 * cpi))))
    (Ok None))
