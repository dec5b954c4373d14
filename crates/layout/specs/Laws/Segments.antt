-- No two segments meet, so a column has the name of the one segment that has it, and from 2,048 on none; each name fits in 9 bytes.
-- Assumes nothing.
use Rattle.std.specs.Prelude.{◌≡◌, refl, Bool, true, false, cond, ℕ, zero, suc, ◌+◌, ◌*◌, ◌≤◌, ◌<◌, leb, ltb, length, replicate, get_or, drop}
use Rattle.std.proofs.Common.{ap, ◌∙◌, add-one, not-suc-le-zero, le_of_suc-le-suc, arith, leb-true, le-leb, le-ltb, length-append, drop_of_length-le, get_or-append-add}
use mathlib.Core.List.{List, [], ◌∷◌, map}
use Rattle.std.proofs.lemmas.List.{length-replicate}
use Rattle.std.proofs.Math.ListN.{get_or-eq_default, get_or-append}
use Rattle.std.proofs.Math.Seq.{drop-cons}
use Rattle.base.specs.Text.{ascii}
use Rattle.base.specs.Lists.{All, joined}
use Rattle.base.specs.Laws.Tests.{both}
use Rattle.base.specs.Laws.Lists.{all_then, all_two}
use Rattle.layout.specs.Columns.{W-COLS}
use Rattle.layout.specs.Segments.{Segment, segment, segments, padded, segment_names, fit, apart, in_segment, name_in, segment_name, segment_at}

pub segments-apart : apart segments ≡ true
unfolding segments
segments-apart = refl

pub segments-fit : fit segments ≡ true
unfolding segments fit
segments-fit = refl

pub segments-count : length segments ≡ 19
unfolding segments
segments-count = refl

-- ---- segments that are apart

-- the first ends where the next begins or before
before-next : (s t : Segment) (ss : List Segment) → apart (s ∷ t ∷ ss) ≡ true → (s.start + s.columns ≤ t.start) × (apart (t ∷ ss) ≡ true)
before-next s t ss a =
    let p = both (leb (s.start + s.columns) t.start) (apart (t ∷ ss)) a in
    (leb-true (s.start + s.columns) t.start p.0, p.1)

-- it ends within the cycle's columns, and the others are apart
first-within : (s : Segment) (ss : List Segment) → apart (s ∷ ss) ≡ true → (s.start + s.columns ≤ W-COLS) × (apart ss ≡ true)
first-within s [] a = (leb-true (s.start + s.columns) W-COLS a, refl)
first-within s (t ∷ ss) a =
    let p = before-next s t ss a in let q = first-within t ss p.1 in (omega arith, p.1)

-- so does the one at any index; behind the last it is empty
pub within-at : (ss : List Segment) (i : ℕ) → apart ss ≡ true → (segment_at ss i).start + (segment_at ss i).columns ≤ W-COLS
within-at [] i a = omega arith
within-at (s ∷ ss) zero a = (first-within s ss a).0
within-at (s ∷ ss) (suc i) a = within-at ss i (first-within s ss a).1

-- the others start behind the first
start-behind : (s : Segment) (ss : List Segment) → apart (s ∷ ss) ≡ true → All (λ t. s.start + s.columns ≤ t.start) ss
start-behind s [] a = tt
start-behind s (t ∷ ss) a =
    let p = before-next s t ss a in (
      p.0,
      all_then (λ u. t.start + t.columns ≤ u.start) (λ u. s.start + s.columns ≤ u.start) (λ u k. omega arith)
          ss (start-behind t ss p.1),
    )

-- a column behind the first is left to the others
behind : (s : Segment) (ss : List Segment) (c : ℕ) → s.start + s.columns ≤ c → name_in (s ∷ ss) c ≡ name_in ss c
unfolding name_in
behind s ss c h = rw (le-leb s.start c (omega arith), le-ltb c (s.start + s.columns) h)

-- no segment has a column past the cycle's
past : (ss : List Segment) → apart ss ≡ true → (c : ℕ) → W-COLS ≤ c → name_in ss c ≡ []
unfolding name_in
past [] a c h = refl
past (s ∷ ss) a c h = let p = first-within s ss a in behind s ss c (omega arith) ∙ past ss p.1 c h

-- the columns of a segment have its name
abbrev OwnName : List Segment → Segment → Type 0
OwnName ss s = (c : ℕ) → in_segment s c ≡ true → name_in ss c ≡ s.name

-- a column of a segment is not before it
from_start : (s : Segment) (c : ℕ) → in_segment s c ≡ true → s.start ≤ c
from_start s c e = leb-true s.start c (both (leb s.start c) (ltb c (s.start + s.columns)) e).0

own-names : (ss : List Segment) → apart ss ≡ true → All (OwnName ss) ss
unfolding name_in
own-names [] a = tt
own-names (s ∷ ss) a = (
  λ c e. rw e,
  all_two (λ t. s.start + s.columns ≤ t.start) (OwnName ss) (OwnName (s ∷ ss))
      (λ t h own c e. behind s ss c (omega (arith, from_start t c e)) ∙ own c e)
      ss (start-behind s ss a) (own-names ss (first-within s ss a).1),
)

-- ---- names that fit

pub length-padded : (n : List ℕ) → length n ≤ 9 → length (padded n) ≡ 9
length-padded n h = simp (length-append, length-replicate) (omega arith)

first_fits : (s : Segment) (ss : List Segment) → fit (s ∷ ss) ≡ true → (length s.name ≤ 9) × (fit ss ≡ true)
unfolding fit
first_fits s ss f = let p = both (leb (length s.name) 9) (fit ss) f in (leb-true (length s.name) 9 p.0, p.1)

name-fits : (ss : List Segment) → fit ss ≡ true → (c : ℕ) → length (name_in ss c) ≤ 9
unfolding name_in
name-fits [] f c = omega arith
name-fits (s ∷ ss) f c = let p = first_fits s ss f in by-test (in_segment s c) p.0 (name-fits ss p.1 c)
  where
    by-test : (b : Bool) → length s.name ≤ 9 → length (name_in ss c) ≤ 9 → length (cond b s.name (name_in ss c)) ≤ 9
    by-test true here later = here
    by-test false here later = later

-- byte k of the name at index i, where the names stand one after the other
pub name-byte : (k : ℕ) → k < 9 → (ss : List Segment) (i : ℕ) → fit ss ≡ true → i < length ss
    → get_or (segment_names ss) (9 * i + k) 0 ≡ get_or (padded (segment_at ss i).name) k 0
unfolding joined
name-byte k l [] i f h = absurd (not-suc-le-zero h)
name-byte k l (s ∷ ss) zero f h =
    ap (λ (n : ℕ). get_or (segment_names (s ∷ ss)) n 0) (omega arith)
    ∙ get_or-append (padded s.name) (segment_names ss) 0 k (omega (arith, length-padded s.name (first_fits s ss f).0))
name-byte k l (s ∷ ss) (suc i) f h =
    ap (λ (n : ℕ). get_or (segment_names (s ∷ ss)) n 0) (omega (arith, length-padded s.name (first_fits s ss f).0))
    ∙ get_or-append-add (padded s.name) (segment_names ss) (9 * i + k) 0
    ∙ name-byte k l ss i (first_fits s ss f).1 (le_of_suc-le-suc h)

-- ---- a turn of the search at index i: it stops, goes on, or has no segments left

module _ (ss : List Segment) (c i : ℕ) where
  pub name-stops : i < length ss → in_segment (segment_at ss i) c ≡ true → (segment_at ss i).name ≡ name_in (drop i ss) c
  unfolding name_in
  name-stops h e = rw (drop-cons ss i (segment [] 0 0)) (rw e)

  pub name-goes : i < length ss → in_segment (segment_at ss i) c ≡ false → name_in (drop (i + 1) ss) c ≡ name_in (drop i ss) c
  unfolding name_in
  name-goes h e = rw (add-one, drop-cons ss i (segment [] 0 0)) (rw e)

  pub name-ends : length ss ≤ i → (segment_at ss i).name ≡ name_in (drop i ss) c
  unfolding name_in
  name-ends h = rw (drop_of_length-le ss h, get_or-eq_default ss (segment [] 0 0) h)

-- ---- the segments of `SEGMENTS_CPU`

-- no column is in two of them
pub segment-own : All (λ s. (c : ℕ) → in_segment s c ≡ true → segment_name c ≡ s.name) segments
unfolding segment_name
segment-own = own-names segments segments-apart

-- the one column and the public values have none
pub public-nameless : (c : ℕ) → 2048 ≤ c → segment_name c ≡ []
unfolding segment_name
public-nameless c h = past segments segments-apart c h

pub length-name : (c : ℕ) → length (padded (segment_name c)) ≡ 9
unfolding segment_name
length-name c = length-padded (name_in segments c) (name-fits segments segments-fit c)

-- ---- by computation: the first and the last column of every segment, by their numbers, and columns that have none

abbrev firsts : List ℕ
firsts =
    0 ∷ 64 ∷ 128 ∷ 192 ∷ 256 ∷ 320 ∷ 384 ∷ 448 ∷ 512 ∷ 576 ∷ 640 ∷ 704 ∷ 768 ∷ 784 ∷ 792 ∷ 800 ∷ 832 ∷ 896 ∷ 1024 ∷ []

abbrev lasts : List ℕ
lasts =
    63 ∷ 127 ∷ 191 ∷ 255 ∷ 319 ∷ 383 ∷ 447 ∷ 511 ∷ 575 ∷ 639 ∷ 703 ∷ 767 ∷ 783 ∷ 791 ∷ 799 ∷ 807 ∷ 895 ∷ 959 ∷ 2047 ∷ []

abbrev names : List (List ℕ)
names =
    ascii "rs1" ∷ ascii "rs2" ∷ ascii "rd" ∷ ascii "load-val" ∷ ascii "shift-out" ∷ ascii "t1" ∷ ascii "t2" ∷ ascii "carry" ∷
    ascii "alu" ∷ ascii "shift-src" ∷ ascii "store-old" ∷ ascii "store-src" ∷ ascii "flags" ∷ ascii "off" ∷ ascii "ram-addr" ∷
    ascii "pc" ∷ ascii "fetch" ∷ ascii "eqaux" ∷ ascii "crossaux" ∷ []

-- behind pc, behind eqaux, and the public columns
abbrev nameless : List ℕ
nameless = 808 ∷ 810 ∷ 831 ∷ 960 ∷ 1023 ∷ 2048 ∷ 4095 ∷ []

pub record GivenNames : Type 0 where
  pub first : map segment_name firsts ≡ names
  pub last : map segment_name lasts ≡ names
  pub none : map segment_name nameless ≡ replicate 7 []

pub given-names : GivenNames
unfolding segments name_in segment_name
given-names = record { first = refl; last = refl; none = refl }
