-- `benchpage::show::put_lined` meets its contract: as far as the loop has come, the lines stand one behind the other, each with its end.
-- Assumes nothing.
use Rattle.std.proofs.Common.{◌≡◌, ◌*◌, ◌≤◌, length, drop}
use Rattle.text.specs.Put.{Placed}
use Rattle.benchpage.specs.Printed.{lined}
use Rattle.benchpage.proofs.show.put_lined.Given as goal

abbrev pub invariant-loop-line : goal.invariant-loop-line
invariant-loop-line l =
    (l.line-iterator.size ≡ 60) × (l.line-iterator.rest.now ≡ drop (60 * length l.yielded) l.text) × (60 * length l.yielded ≤ length l.text)
    × (l.at ≡ 61 * length l.yielded) × Placed 0 (lined (length l.yielded) l.text) l.initial.out l.out l.at
