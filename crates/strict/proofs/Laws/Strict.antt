-- The strict listing is in order, and what it holds: by computation, once.
-- Assumes nothing.
use Rattle.std.specs.Prelude.{◌≡◌, refl, Ok}
use Rattle.base.specs.Lists.{joined, from, from_each}
use Rattle.circuit.specs.Words.{clean_of, word_of}
use Rattle.circuit.specs.Rows.{numbered, side_words, encode}
use Rattle.circuit.specs.Circuit.{bin_families, fld_families, circuit_rows, circuit_words}
use Rattle.circuit.specs.Parse.{parse, rows_of}
use Rattle.circuit.specs.Valid.{after_mark, after_term, after_word, valid_from, validated}
use Rattle.circuit.specs.House.{over_sides}
use Rattle.strict.specs.Rows.{flag_rows, strict_rows, strict_words}
use Rattle.strict.specs.Counts.{StrictCounts}

-- reading the words back gives the rows
pub words-read : rows_of strict_words ≡ strict_rows
unfolding parse word_of strict_words strict_rows flag_rows bin_families fld_families from from_each joined numbered side_words encode
words-read = refl

-- questions 6 to 10 are answered with yes
pub in_order : validated strict_words ≡ Ok tt
unfolding validated valid_from after_word after_mark after_term clean_of
    strict_words strict_rows flag_rows bin_families fld_families from from_each joined numbered side_words encode
in_order = refl

pub counts : StrictCounts
unfolding over_sides strict_words strict_rows flag_rows circuit_words circuit_rows bin_families fld_families from from_each joined numbered
    side_words encode
counts = record { added-rows = refl; added-terms = refl; rows = refl; words = refl; words_are = refl }
