-- Statements about the strict listing: how many rows, terms and words it has, and its words beside those of the house listing.
-- Assumes nothing.
use Rattle.std.specs.Prelude.{◌≡◌, List, [], ◌∷◌, ◌++◌, ℕ, length, take, drop}
use Rattle.circuit.specs.Circuit.{circuit_words}
use Rattle.circuit.specs.House.{over_sides}
use Rattle.strict.specs.Rows.{flag_rows, strict_rows, strict_words}

-- bin rows 483 to 490 as words, a row a line: its mark, its term of A, its terms of B. (302 is load, 303 store, 308 byte, 309 half,
-- 30a word, and 800 the one column.)
abbrev pub flag_words : List ℕ
flag_words =
    0xc00001e3 ∷ 0x00000302 ∷ 0x40000303
    ∷ 0xc00001e4 ∷ 0x00000308 ∷ 0x40000309
    ∷ 0xc00001e5 ∷ 0x00000308 ∷ 0x4000030a
    ∷ 0xc00001e6 ∷ 0x00000309 ∷ 0x4000030a
    ∷ 0xc00001e7 ∷ 0x00000308 ∷ 0x40000800 ∷ 0x40000302
    ∷ 0xc00001e8 ∷ 0x00000309 ∷ 0x40000800 ∷ 0x40000302
    ∷ 0xc00001e9 ∷ 0x0000030a ∷ 0x40000800 ∷ 0x40000302
    ∷ 0xc00001ea ∷ 0x00000302 ∷ 0x40000800 ∷ 0x40000308 ∷ 0x40000309 ∷ 0x4000030a
    ∷ []

-- the house listing's bin rows take 2,218 words: 483 marks and 1,735 terms
pub record StrictCounts : Type 0 where
  pub added-rows : length flag_rows ≡ 8
  pub added-terms : over_sides length flag_rows ≡ 22
  pub rows : length strict_rows ≡ 522
  pub words : length strict_words ≡ 3529
  pub words_are : strict_words ≡ take 2218 circuit_words ++ (flag_words ++ drop 2218 circuit_words)
