-- The strict flag listing (document 02, request 6): the house rows, with eight more behind the bin rows.
-- Assumes nothing.
use Rattle.std.specs.Prelude.{List, [], ◌∷◌, ◌++◌, ℕ}
use Rattle.base.specs.Lists.{joined}
use Rattle.layout.specs.Columns.{IS-LOAD, IS-STORE, LD-BYTE, LD-HALF, LD-WORD}
use Rattle.circuit.specs.declared.Relation.TheVariants.{Bin, Fld}
use Rattle.circuit.specs.Rows.{Term, Sides, Row, numbered, encode}
use Rattle.circuit.specs.Circuit.{col, one_term, row, bin_families, fld_families}

-- a flag times a sum is 0: the flag is A, the sum B, and C is empty
abbrev pub none_of : ℕ → List Term → Sides
none_of flag sum = row (col flag ∷ []) sum []

-- 1 + load, which is 1 where nothing is loaded
abbrev pub not_loading : List Term
not_loading = one_term ∷ col IS-LOAD ∷ []

-- bin rows 483 to 490
unfoldable pub flag_rows : List Sides
flag_rows =
    -- load · store
    none_of IS-LOAD (col IS-STORE ∷ [])
    -- byte · half, byte · word, half · word
    ∷ none_of LD-BYTE (col LD-HALF ∷ [])
    ∷ none_of LD-BYTE (col LD-WORD ∷ [])
    ∷ none_of LD-HALF (col LD-WORD ∷ [])
    -- byte, half and word each times (1 + load)
    ∷ none_of LD-BYTE not_loading
    ∷ none_of LD-HALF not_loading
    ∷ none_of LD-WORD not_loading
    -- load times (1 + byte + half + word)
    ∷ none_of IS-LOAD (one_term ∷ col LD-BYTE ∷ col LD-HALF ∷ col LD-WORD ∷ [])
    ∷ []

-- the house rows with further bin rows behind the bin rows
abbrev pub rows_with : List Sides → List Row
rows_with further = numbered Bin 0 (joined bin_families ++ further) ++ numbered Fld 0 (joined fld_families)

unfoldable pub strict_rows : List Row
strict_rows = rows_with flag_rows

unfoldable pub strict_words : List ℕ
strict_words = encode strict_rows
