-- What functions name in their `tactic` line, so that their goals close with no answer: the short way, of a row of bytes.
-- Assumes nothing.
use Rattle.field.specs.Gf.Tests.{ne_differ, ne_same}
use Rattle.judge.specs.Laws.Short.{known-short}
use Rattle.cellprism.specs.Laws.Packing.{short-judged, not_short, no_short, row_fits}

pub ruleset short = (short-judged, not_short, no_short, row_fits, known-short, ne_differ, ne_same)
