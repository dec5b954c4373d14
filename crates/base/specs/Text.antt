-- A text as its bytes of ASCII, blanks, and a text left-aligned in a width.
-- Assumes nothing.
use Rattle.std.specs.Prelude.{List, [], ◌∷◌, ◌++◌, ℕ, ◌-◌, length, replicate}
use Prim.Native.Char.{code}
use Prim.Native.String.{String, [] as end, ◌∷◌ as ◌then◌}

abbrev pub ascii : String → List ℕ
ascii end = []
ascii (c then s) = code c ∷ ascii s

abbrev pub blanks : ℕ → List ℕ
blanks n = replicate n 0x20

-- filled up with blanks to a width; a text that is longer stays as it is
abbrev pub left : ℕ → List ℕ → List ℕ
left width text = text ++ blanks (width - length text)
