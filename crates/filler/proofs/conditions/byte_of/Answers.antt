-- `filler::conditions::byte_of` meets its contract: a word has nothing from bit 64 on.
-- Assumes nothing.
use Rattle.std.proofs.Common.{ℕ, ◌*◌, ◌%◌, ◌^◌, sym, ap, lt_of_lt_of_le, arith, pow_mono}
use native.Mathlib.Nat.{div-eq_of_lt}
use Rattle.filler.specs.Met.{byte_of}
use Rattle.filler.proofs.conditions.byte_of.Goals as goal

pub returns-else-k-lt8 : goal.returns-else-k-lt8
unfolding byte_of
returns-else-k-lt8 c =
    let x = c.args.x in let k = c.args.k in
    let far = lt_of_lt_of_le {n = x} {m = 2 ^ 64} (omega arith) (pow_mono {i = 64} {j = 8 * k} (omega arith)) in
    sym (ap (λ (q : ℕ). q % 2 ^ 8) (div-eq_of_lt far))
