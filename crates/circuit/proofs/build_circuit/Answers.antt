-- `circuit::build_circuit` meets its contract: one computed test shows that the table is the written families, in words.
-- Assumes nothing.
use mathlib.Core.Path.{refl}
use Rattle.base.specs.Lists.{joined, from, from_each}
use Rattle.circuit.specs.Rows.{numbered, side_words, encode}
use Rattle.circuit.specs.Circuit.{bin_families, fld_families, circuit_rows, circuit_words}
use Rattle.circuit.proofs.build_circuit.Goals as goal

pub returns : goal.returns
unfolding circuit_words circuit_rows bin_families fld_families from from_each joined numbered side_words encode
returns c = refl
