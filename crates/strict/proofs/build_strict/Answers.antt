-- `strict::build_strict` meets its contract: one computed test shows that the table is the written rows, in words.
-- Assumes nothing.
use mathlib.Core.Path.{refl}
use Rattle.base.specs.Lists.{joined, from, from_each}
use Rattle.circuit.specs.Rows.{numbered, side_words, encode}
use Rattle.circuit.specs.Circuit.{bin_families, fld_families}
use Rattle.strict.specs.Rows.{flag_rows, strict_rows, strict_words}
use Rattle.strict.proofs.build_strict.Goals as goal

pub returns : goal.returns
unfolding strict_words strict_rows flag_rows bin_families fld_families from from_each joined numbered side_words encode
returns c = refl
