-- `judge::check_row` meets its contract: what the short way says yes to is accepted and leaves scratch zero, and the rest is walked.
-- Assumes nothing.
use mathlib.Core.Path.{◌≡◌}
use mathlib.Core.List.{List}
use Prim.Native.Nat.{ℕ}
use Rattle.judge.proofs.check_row.Given as goal

abbrev pub invariant-loop-which : goal.invariant-loop-which
invariant-loop-which l = ◌≡◌ {A = List ℕ} l.scratch l.fn.scratch
