-- The house listing is in order, and what it holds: by computation, once.
-- Assumes nothing.
use Rattle.std.specs.Prelude.{◌≡◌, refl, [], ◌∷◌, Ok}
use Rattle.base.specs.Lists.{joined, from, from_each}
use Rattle.circuit.specs.Words.{clean_of, word_of}
use Rattle.circuit.specs.Rows.{numbered, side_words, encode}
use Rattle.circuit.specs.Circuit.{bin_families, fld_families, circuit_rows, circuit_words}
use Rattle.circuit.specs.Parse.{parse, rows_of}
use Rattle.circuit.specs.Valid.{after_mark, after_term, after_word, valid_from, validated}
use Rattle.circuit.specs.House.{starts_from, starts, is_zero, over_sides, HouseCounts, zeros, P11}

-- reading the words back gives the rows
pub words-read : rows_of circuit_words ≡ circuit_rows
unfolding parse word_of circuit_words circuit_rows bin_families fld_families from from_each joined numbered side_words encode
words-read = refl

-- questions 6 to 10 are answered with yes
pub in_order : validated circuit_words ≡ Ok tt
unfolding validated valid_from after_word after_mark after_term clean_of
    circuit_words circuit_rows bin_families fld_families from from_each joined numbered side_words encode
in_order = refl

pub family-starts :
    (starts bin_families
    ≡ 0 ∷ 63 ∷ 255 ∷ 263 ∷ 295 ∷ 319 ∷ 320 ∷ 321 ∷ 322 ∷ 370 ∷ 378 ∷ 442 ∷ 449 ∷ 456 ∷ 458 ∷ 474 ∷ 478 ∷ 481 ∷ 482 ∷ [])
    × (starts fld_families ≡ 0 ∷ 1 ∷ 2 ∷ 3 ∷ 4 ∷ 5 ∷ 6 ∷ 7 ∷ [])
unfolding starts starts_from bin_families fld_families from from_each
family-starts = (refl, refl)

pub counts : HouseCounts
unfolding over_sides zeros is_zero circuit_words circuit_rows bin_families fld_families from from_each joined numbered side_words encode
counts = record { bin-rows = refl; bin-terms = refl; fld-rows = refl; fld-terms = refl; zero-terms = refl; rows = refl; words = refl }

pub p11 : P11
unfolding circuit_words circuit_rows bin_families fld_families from from_each joined numbered side_words encode
p11 = record { first = refl; last = refl }
