-- `judge::cycle::judge_cycles` meets its contract: what is left to judge from here on is what was to judge at all.
-- Assumes nothing.
use mathlib.Core.Path.{◌≡◌}
use Prim.Native.Nat.{◌-◌, ◌≤◌}
use Rattle.judge.specs.Words.{all_judged}
use Rattle.judge.proofs.cycle.judge_cycles.Given as goal

abbrev pub invariant-loop-d : goal.invariant-loop-d
invariant-loop-d l = (l.d ≤ l.cpi) × (all_judged l.which l.words l.output (l.cpi - l.d) l.d ≡ all_judged l.which l.words l.output l.cpi 0)
