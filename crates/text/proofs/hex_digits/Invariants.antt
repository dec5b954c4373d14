-- `text::hex_digits` meets its contract: the digits passed are those of the number without its lower ones.
-- Assumes nothing.
use Rattle.std.proofs.Common.{◌≡◌, ◌-◌, ◌*◌, ◌/◌, ◌^◌, ◌≤◌, length, take}
use Rattle.text.specs.Digits.{hex}
use Rattle.text.proofs.hex_digits.Given as goal

abbrev pub invariant-loop-i : goal.invariant-loop-i
invariant-loop-i l = (l.i ≤ 16) × (length l.digit-items ≡ 16) × (take l.i l.digit-items ≡ hex l.i (l.n / 2 ^ (64 - 4 * l.i)))
