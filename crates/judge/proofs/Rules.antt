-- What functions name in their `tactic` line, so that their goals close with no answer.
--     few               what so few cycles are below
--     packs             what the packing answered, and the cycles that are judged from it
--     asked             what questions 1 and 2 say, and the short way's tests after them
--     known             what a yes of the short way says of a check
-- Assumes nothing.
use Rattle.base.specs.Laws.WaysOut.{told}
use Rattle.field.specs.Gf.Tests.{ne_differ, ne_same}
use Rattle.layout.specs.Laws.Questions.{batch-yes}
use Rattle.layout.specs.Laws.Sizes.{allowed-range}
use Rattle.judge.specs.Laws.Short.{known-short, short-few, in-range, of-bits, packed-room, not-asked, no_one, left-bits, short-in, rows-room}

pub ruleset few = (in-range, rows-room)

pub ruleset packs = (allowed-range, of-bits, packed-room)

pub ruleset asked = (told, batch-yes, allowed-range, short-in, not-asked, no_one, left-bits, ne_differ, ne_same)

pub ruleset known = (known-short, short-few)
