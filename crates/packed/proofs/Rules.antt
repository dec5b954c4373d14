-- What functions name in their `tactic` line, so that their goals close with no answer.
--     sizes             what a batch size in order is below
--     asked             what questions that were answered with yes say, and the call after them
--     ranges            two stretches of words, and the or of what both say
--     row_words         the words of columns that stand one after the other, in quarters of quarters
--     row_bytes         how many words a row of bytes has, and what they are
--     ordered           the same of words that are rearranged
--     unpacked          the same of words that are unpacked
-- Assumes nothing.
use Rattle.base.specs.Laws.WaysOut.{told, told-so}
use Rattle.layout.specs.Laws.Exponent.{exponent-below}
use Rattle.layout.specs.Laws.Questions.{batch-yes}
use Rattle.layout.specs.Laws.Sizes.{allowed-range}
use Rattle.packed.specs.Laws.Bytes.{word_of, row-length}
use Rattle.packed.specs.Laws.Named.{some-cycles, two-words, range-in, both-ranges, both-rows, none-bad, asked-yes-in, called-named}
use Rattle.packed.specs.Laws.One.{four-words, four-sums, seen-turn, seen_all}
use Rattle.packed.proofs.Laws.StorageCalls.{order-in}
use Rattle.packed.proofs.Laws.Unpack.{unpack-in, unpack-yes}

pub ruleset sizes = (allowed-range, batch-yes, told, told-so)

pub ruleset asked = (asked-yes-in, called-named, told)

pub ruleset ranges = (both-rows, both-ranges, range-in, two-words, some-cycles, exponent-below)

pub ruleset row_words = (four-words, four-sums, seen-turn, seen_all)

pub ruleset row_bytes = (row-length, word_of, both-rows, none-bad)

pub ruleset ordered = (order-in, told)

pub ruleset unpacked = (unpack-in, unpack-yes, told)
