-- `packed::order::get_words` meets its contract: the cycles passed have given their word.
-- Assumes nothing.
use Rattle.std.proofs.Common.{ℕ, ◌+◌, ◌*◌, get_or}
use Rattle.base.specs.Written.{Written}
use Rattle.packed.proofs.order.get_words.Given as goal

abbrev pub invariant-loop-d : goal.invariant-loop-d
invariant-loop-d l = Written (λ (i : ℕ). get_or l.words (32 * i + l.k) 0) 0 l.d l.initial.acc l.acc
