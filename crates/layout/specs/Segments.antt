-- The segments of `SEGMENTS_CPU`. A start is the column that `WITNESS_LAYOUT` gives: sums of the lengths would put fetch at 808.
-- Assumes nothing.
use Rattle.std.specs.Prelude.{Bool, true, ◌&&◌, cond, List, [], ◌∷◌, map, ℕ, ◌+◌, leb, ltb, length, get_or}
use Rattle.base.specs.Text.{ascii, left}
use Rattle.base.specs.Lists.{joined}
use Rattle.layout.specs.Columns.{W-COLS, RS1, RS2, RD, LOAD-VAL, SHIFT-OUT, T1, T2, CARRY-OFF, ALU, SHIFT-SRC, STORE-OLD, STORE-SRC, FLAGS, OFF, RAM-ADDR, PC, FETCH, EQA, ZERO}

-- a name, in bytes of ASCII; the column of its first bit; how many columns it has
pub record Segment : Type 0 where
  pub name : List ℕ
  pub start : ℕ
  pub columns : ℕ

abbrev pub segment : List ℕ → ℕ → ℕ → Segment
segment n s k = record { name = n; start = s; columns = k }

-- in the order of `SEGMENTS_CPU`
unfoldable pub segments : List Segment
segments =
    segment (ascii "rs1") RS1 64
    ∷ segment (ascii "rs2") RS2 64
    ∷ segment (ascii "rd") RD 64
    ∷ segment (ascii "load-val") LOAD-VAL 64
    ∷ segment (ascii "shift-out") SHIFT-OUT 64
    ∷ segment (ascii "t1") T1 64
    ∷ segment (ascii "t2") T2 64
    ∷ segment (ascii "carry") CARRY-OFF 64
    ∷ segment (ascii "alu") ALU 64
    ∷ segment (ascii "shift-src") SHIFT-SRC 64
    ∷ segment (ascii "store-old") STORE-OLD 64
    ∷ segment (ascii "store-src") STORE-SRC 64
    ∷ segment (ascii "flags") FLAGS 16
    ∷ segment (ascii "off") OFF 8
    ∷ segment (ascii "ram-addr") RAM-ADDR 8
    ∷ segment (ascii "pc") PC 8
    ∷ segment (ascii "fetch") FETCH 64
    ∷ segment (ascii "eqaux") EQA 64
    ∷ segment (ascii "crossaux") ZERO 1024
    ∷ []

-- a name filled up with blanks to 9 bytes, the longest
abbrev pub padded : List ℕ → List ℕ
padded n = left 9 n

-- the names, starts and lengths, each as one list
abbrev pub segment_names : List Segment → List ℕ
segment_names ss = joined (map (λ s. padded s.name) ss)

abbrev pub segment_starts : List Segment → List ℕ
segment_starts ss = map (λ s. s.start) ss

abbrev pub segment_lengths : List Segment → List ℕ
segment_lengths ss = map (λ s. s.columns) ss

-- each name has 9 bytes or fewer
unfoldable pub fit : List Segment → Bool
fit [] = true
fit (s ∷ ss) = leb (length s.name) 9 && fit ss

-- each segment ends where the next begins or before, and the last within the cycle's columns
abbrev pub apart : List Segment → Bool
apart [] = true
apart (s ∷ []) = leb (s.start + s.columns) W-COLS
apart (s ∷ t ∷ ss) = leb (s.start + s.columns) t.start && apart (t ∷ ss)

-- ---- the segment that has a column

abbrev pub in_segment : Segment → ℕ → Bool
in_segment s c = leb s.start c && ltb c (s.start + s.columns)

-- the name of the first that has the column, and no bytes where none has it
unfoldable pub name_in : List Segment → ℕ → List ℕ
name_in [] c = []
name_in (s ∷ ss) c = cond (in_segment s c) s.name (name_in ss c)

-- by `SEGMENTS_CPU`: a column in a gap, as 810, has no name, nor has a public one
unfoldable pub segment_name : ℕ → List ℕ
segment_name c = name_in segments c

-- the segment at an index; behind the last, one of no name and no columns
abbrev pub segment_at : List Segment → ℕ → Segment
segment_at ss i = get_or ss i (segment [] 0 0)
