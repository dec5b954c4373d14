-- `filler::derive::lanes_word` meets its contract: each field is what its function gives, and eight bits wide, so that the sum holds them
-- side by side.
-- Assumes nothing.
use Rattle.std.proofs.Common.{◌/◌, ◌%◌, ◌^◌}
use Rattle.filler.specs.Laws.Loops.{lanes-are}
use Rattle.filler.proofs.derive.lanes_word.Goals as goal

pub returns : goal.returns
returns c =
    lanes-are (c.args.w / 2 ^ 16 % 2 ^ 3) c.flags_of-f.ensures c.hot_word-eqa.ensures.0 c.pair_word-pa.ensures.0
    c.hot_word-eqb.ensures.0 c.pair_word-pb.ensures.0 c.gate-ca.ensures.0 c.gate-ch.ensures.0 c.gate-ch2.ensures.0
    c.gate_bits-rest.ensures.0
