-- Where nothing passes bit 127 the shift is the product; else after i turns r is the product with t^i.
use mathlib.Core.Path.{◌≡◌}
use Prim.Native.Nat.{◌≤◌}
use Rattle.field.specs.Gf.{product, power}
use Rattle.field.proofs.Gf128.times_power.Given as goal

abbrev pub invariant-loop : goal.invariant-loop
invariant-loop l = (l.counter ≤ l.k) × (l.r ≡ product l.initial.r (power l.counter))
