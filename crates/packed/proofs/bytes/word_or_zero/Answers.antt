-- `packed::bytes::word_or_zero` meets its contract: behind the last byte nothing is spelled.
-- Assumes nothing.
use Rattle.std.proofs.Common.{List, ℕ, ◌*◌, ◌≤◌, length, take, sym, ap, arith, drop_of_length-le}
use Rattle.packed.specs.Bytes.{number_of}
use Rattle.packed.proofs.bytes.word_or_zero.Goals as goal

pub returns-else-i-lt8192 : goal.returns-else-i-lt8192
unfolding number_of
returns-else-i-lt8192 c =
    let bytes = c.args.bytes.now in
    let behind : length bytes ≤ 8 * c.args.i = omega arith in
    sym (ap (λ (b : List ℕ). number_of (take 8 b)) (drop_of_length-le bytes behind))
