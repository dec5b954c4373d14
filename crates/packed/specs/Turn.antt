-- A block of 64 columns turned, by six steps over its words: two words that exchange bits, one step, and the block in the end.
-- Assumes nothing.
use Rattle.std.specs.Prelude.{◌≡◌, ℕ, ◌+◌, ◌*◌, ◌/◌, ◌%◌, ◌<◌, ◌≤◌, List, length, ◌==◌, slice_index}
use Rattle.base.specs.Bits.{bit_at}
use Rattle.packed.specs.Storage.{bit_in}

-- ---- two words, in runs of j bits

-- m has the even runs
pub record Masks (j m : ℕ) : Type 0 where
  pub some : 0 < j
  pub less : j < 64
  pub at : (p : ℕ) → p < 64 → bit_at m p ≡ (p / j % 2 == 0)

-- p is in an even run, so p + j is at the same place of the odd run behind it
pub record Even (j p : ℕ) : Type 0 where
  pub inside : p + j < 64
  pub even : p / j % 2 ≡ 0

-- the odd runs of x exchanged with the even runs of y
pub record Exchanged (x y j low high : ℕ) : Type 0 where
  pub low-even : (p : ℕ) → Even j p → bit_at low p ≡ bit_at x p
  pub low-odd : (p : ℕ) → Even j p → bit_at low (p + j) ≡ bit_at y p
  pub high-even : (p : ℕ) → Even j p → bit_at high p ≡ bit_at x (p + j)
  pub high-odd : (p : ℕ) → Even j p → bit_at high (p + j) ≡ bit_at y (p + j)

-- ---- one step over 2 h words

-- where the two words of pair k stand
pub record Places : Type 0 where
  pub one : ℕ → ℕ
  pub other : ℕ → ℕ

-- in the two halves, and side by side
abbrev pub halves : ℕ → Places
halves h = record { one = λ k. k; other = λ k. h + k }

abbrev pub neighbours : Places
neighbours = record { one = λ k. 2 * k; other = λ k. 2 * k + 1 }

-- pair k of a, exchanged, is pair k of b
abbrev pub Pair : ℕ → Places → Places → List ℕ → List ℕ → ℕ → Type 0
Pair j r w a b k = Exchanged (slice_index a (r.one k)) (slice_index a (r.other k)) j (slice_index b (w.one k)) (slice_index b (w.other k))

pub record Stepped (h j : ℕ) (a b : List ℕ) : Type 0 where
  pub pair : (k : ℕ) → k < h → Pair j (halves h) neighbours a b k

pub record StepIn (read written : List ℕ) (h j m : ℕ) : Type 0 where
  pub few : h ≤ 128
  pub from-words : length read ≡ 2 * h
  pub to-words : length written ≡ 2 * h
  pub mask : Masks j m

-- ---- six steps

pub record TurnIn (p a b : List ℕ) (h : ℕ) : Type 0 where
  pub some : 0 < h
  pub few : h ≤ 128
  pub block : length p ≡ 2 * h
  pub first : length a ≡ 2 * h
  pub second : length b ≡ 2 * h

-- word d of a has the 64 bits of cycle d, in the order of their columns
pub record Turned (h : ℕ) (p a : List ℕ) : Type 0 where
  pub bits : (c d : ℕ) → c < 64 → d < 2 * h → bit_at (slice_index a d) c ≡ bit_in p (c * (2 * h) + d)
