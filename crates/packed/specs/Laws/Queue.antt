-- A block of 2 h words turned. A step moves the top bit of a word's index into the word, at weight j, and the bit from there below the
-- rest of the index. Six steps, j from 32 down to 1, bring bit c * 2 h + d of the block to bit c of word d, for every h.
-- Assumes nothing.
use Rattle.std.specs.Prelude.{◌≡◌, ℕ, ◌+◌, ◌*◌, ◌/◌, ◌%◌, ◌<◌, ◌≤◌, Bool, List, length, ◌≢◌, slice_index, slice_index_or, slice_set, refl}
use Rattle.std.proofs.Common.{sym, ap, subst, ◌∙◌, mul_left_comm, mul_assoc, add-mul, one-mul, zero-mul, add-zero, zero-add, arith, below_none, below_more, length-set, get_or-set_same, get_or-set_other}
use Rattle.std.proofs.Math.Arith.{digits_lt, digits_div}
use Rattle.base.specs.Bits.{bit_at}
use Rattle.base.specs.Laws.Numbers.{zero-or-one}
use Rattle.packed.specs.Storage.{bit_in}
use Rattle.packed.specs.Turn.{Even, Exchanged, Places, halves, neighbours, Pair, Stepped, Turned}
use Rattle.packed.specs.Laws.InWords.{bit_is}
use Rattle.packed.specs.Laws.Exchange.{exchanged-back}

-- ---- a step's loop, whose pairs are read at places r and written at places w

-- places of h pairs among 2 h words, no two of them the same
pub record Apart (w : Places) (h : ℕ) : Type 0 where
  pub inside : (k : ℕ) → k < h → (w.one k < 2 * h) × (w.other k < 2 * h)
  pub two : (k : ℕ) → k < h → w.one k ≢ w.other k
  pub one_later : (i k : ℕ) → i < k → k < h → (w.one i ≢ w.one k) × (w.one i ≢ w.other k)
  pub other-later : (i k : ℕ) → i < k → k < h → (w.other i ≢ w.one k) × (w.other i ≢ w.other k)

pub halves-apart : (h : ℕ) → Apart (halves h) h
halves-apart h =
    record {
      inside = λ k l. omega arith;
      two = λ k l. omega arith;
      one_later = λ i k l m. omega arith;
      other-later = λ i k l m. omega arith;
    }

pub neighbours-apart : (h : ℕ) → Apart neighbours h
neighbours-apart h =
    record {
      inside = λ k l. omega arith;
      two = λ k l. omega arith;
      one_later = λ i k l m. omega arith;
      other-later = λ i k l m. omega arith;
    }

-- the first n pairs are written
pub record Pairs (j : ℕ) (r w : Places) (h : ℕ) (a b : List ℕ) (n : ℕ) : Type 0 where
  pub count : n ≤ h
  pub words : length b ≡ 2 * h
  pub pair : (k : ℕ) → k < n → Pair j r w a b k

module _ (j : ℕ) (r w : Places) (h : ℕ) (a b : List ℕ) where
  pub first-pairs : length b ≡ 2 * h → Pairs j r w h a b 0
  first-pairs e = record { count = omega arith; words = e; pair = below_none (Pair j r w a b) }

  pub next-pairs : (n low high : ℕ) → Apart w h → n < h → Pairs j r w h a b n
      → Exchanged (slice_index a (r.one n)) (slice_index a (r.other n)) j low high
      → Pairs j r w h a (slice_set (slice_set b (w.one n) low) (w.other n) high) (n + 1)
  next-pairs n low high o l t e =
      record {
        count = omega arith;
        words = length-set once (w.other n) high ∙ length-set b (w.one n) low ∙ t.words;
        pair = below_more (Pair j r w a new) n
            (λ k m. let p = o.one_later k n m l in let q = o.other-later k n m l in
            rw (stays (w.one k) p.0 p.1, stays (w.other k) q.0 q.1) (t.pair k m))
            (rw (one-is, other-is) e);
      }
    where
      once : List ℕ
      once = slice_set b (w.one n) low

      new : List ℕ
      new = slice_set once (w.other n) high

      one-is : slice_index_or new (w.one n) 0 ≡ low
      one-is =
          get_or-set_other once (w.other n) (w.one n) high 0 (o.two n l)
          ∙ get_or-set_same b (w.one n) low 0 (omega (arith, o.inside n l, t.words))

      other-is : slice_index_or new (w.other n) 0 ≡ high
      other-is = get_or-set_same once (w.other n) high 0 (omega (arith, o.inside n l, length-set b (w.one n) low, t.words))

      stays : (i : ℕ) → (i ≢ w.one n) → (i ≢ w.other n) → slice_index new i ≡ slice_index b i
      stays i f g = get_or-set_other once (w.other n) i high 0 g ∙ get_or-set_other b (w.one n) i low 0 f

-- all pairs written from the halves side by side are a step; written from side by side into the halves, they are a step undone
pub stepped : (h j : ℕ) (a b : List ℕ) (n : ℕ) → h ≤ n → Pairs j (halves h) neighbours h a b n → Stepped h j a b
stepped h j a b n l t = record { pair = λ k m. t.pair k (omega arith) }

pub undone : (h j : ℕ) (b a : List ℕ) (n : ℕ) → h ≤ n → Pairs j neighbours (halves h) h b a n → Stepped h j a b
undone h j b a n l t = record { pair = λ k m. exchanged-back (t.pair k (omega arith)) }

-- ---- where the bits stand

-- with u bits of each word still in their first order, in n runs: bit A * u + r of word v is bit (A * w + v) * u + r of the block
abbrev Holds : ℕ → ℕ → ℕ → List ℕ → (ℕ → Bool) → Type 0
Holds n w u s f = (A v r : ℕ) → A < n → v < w → r < u → bit_at (slice_index s v) (A * u + r) ≡ f ((A * w + v) * u + r)

module _ (h j n : ℕ) (a b : List ℕ) (f : ℕ → Bool) (runs : n * (2 * j) ≡ 64) (q : Stepped h j a b) (old : Holds n (2 * h) (2 * j) a f) where
  module _ (A k r : ℕ) (lA : A < n) (lk : k < h) (lr : r < j) where
    abbrev at : ℕ
    at = A * (2 * j) + r

    twice : A * (2 * j) ≡ 2 * A * j
    twice = omega (arith, mul_left_comm A 2 j, mul_assoc 2 A j)

    even : Even j at
    even =
        record {
          inside = omega (arith, runs, digits_lt {q = A} {m = n} {r = j + r} {c = 2 * j} lA (omega arith));
          even = ap (λ (y : ℕ). (y + r) / j % 2) twice ∙ ap (λ (y : ℕ). y % 2) (digits_div (2 * A) lr) ∙ omega arith;
        }

    -- s is the index's top bit, e the bit of weight j: they change places
    changed : (s e : ℕ) → s < 2 → e < 2 → bit_at (slice_index b (2 * k + e)) (at + s * j) ≡ bit_at (slice_index a (s * h + k)) (at + e * j)
    changed s e ls le =
        zero-or-one (λ (s : ℕ). bit_at (slice_index b (2 * k + e)) (at + s * j) ≡ bit_at (slice_index a (s * h + k)) (at + e * j))
        (zero-or-one (λ (e : ℕ). bit_at (slice_index b (2 * k + e)) (at + 0 * j) ≡ bit_at (slice_index a (0 * h + k)) (at + e * j))
        (simp (zero-mul, add-zero, zero-add) ((q.pair k lk).low-even at even))
        (simp (zero-mul, one-mul, add-zero, zero-add) ((q.pair k lk).high-even at even)) e le)
        (zero-or-one (λ (e : ℕ). bit_at (slice_index b (2 * k + e)) (at + 1 * j) ≡ bit_at (slice_index a (1 * h + k)) (at + e * j))
        (simp (zero-mul, one-mul, add-zero) ((q.pair k lk).low-odd at even))
        (simp one-mul ((q.pair k lk).high-odd at even)) e le) s ls

    -- so the bit is where the next weight has it
    found : (s e : ℕ) → s < 2 → e < 2
        → bit_at (slice_index b (2 * k + e)) ((2 * A + s) * j + r) ≡ f (((2 * A + s) * (2 * h) + (2 * k + e)) * j + r)
    found s e ls le =
        ap (bit_at (slice_index b (2 * k + e))) (omega (arith, twice, add-mul (2 * A) s j)) ∙ changed s e ls le
        ∙ ap (bit_at (slice_index a (s * h + k))) (omega arith)
        ∙ old A (s * h + k) (e * j + r) lA (digits_lt ls lk) (digits_lt le lr) ∙ ap f place
      where
        v : ℕ
        v = A * (2 * h) + (s * h + k)

        inner : (2 * A + s) * (2 * h) + (2 * k + e) ≡ 2 * v + e
        inner = omega (arith, add-mul (2 * A) s (2 * h), mul_assoc 2 A (2 * h), mul_left_comm s 2 h)

        place : (A * (2 * h) + (s * h + k)) * (2 * j) + (e * j + r) ≡ ((2 * A + s) * (2 * h) + (2 * k + e)) * j + r
        place = omega (arith, ap (λ (z : ℕ). z * j) inner, add-mul (2 * v) e j, mul_assoc 2 v j, mul_left_comm v 2 j)

  step-holds : Holds (2 * n) (2 * h) j b f
  step-holds A v r lA lv lr =
      let A-is : 2 * (A / 2) + A % 2 ≡ A = omega arith in let v-is : 2 * (v / 2) + v % 2 ≡ v = omega arith in
      subst (λ (y : ℕ). bit_at (slice_index b v) (y * j + r) ≡ f ((y * (2 * h) + v) * j + r)) A-is
      (subst (λ (y : ℕ). bit_at (slice_index b y) ((2 * (A / 2) + A % 2) * j + r) ≡ f (((2 * (A / 2) + A % 2) * (2 * h) + y) * j + r)) v-is
      (found (A / 2) (v / 2) r (omega arith) (omega arith) lr (A % 2) (v % 2) (omega arith) (omega arith)))

-- ---- six steps

pub six-steps : (h : ℕ) (p b1 a1 b2 a2 b3 a3 : List ℕ) → Stepped h 32 p b1 → Stepped h 16 b1 a1 → Stepped h 8 a1 b2 → Stepped h 4 b2 a2
    → Stepped h 2 a2 b3 → Stepped h 1 b3 a3 → Turned h p a3
six-steps h p b1 a1 b2 a2 b3 a3 q1 q2 q3 q4 q5 q6 =
    record { bits = λ c d lc ld. ap (bit_at (slice_index a3 d)) (omega arith) ∙ at_last c d 0 lc ld (omega arith) ∙ ap (bit_in p) (omega arith) }
  where
    at_first : Holds 1 (2 * h) 64 p (bit_in p)
    at_first A v r lA lv lr =
        let none : A ≡ 0 = omega arith in
        ap (bit_at (slice_index p v)) (omega arith) ∙ sym (bit_is p v r lr)
        ∙ ap (bit_in p) (omega (arith, ap (λ (z : ℕ). z * (2 * h)) none, zero-mul (2 * h)))

    at_last : Holds 64 (2 * h) 1 a3 (bit_in p)
    at_last =
        step-holds h 1 32 b3 a3 (bit_in p) refl q6
        (step-holds h 2 16 a2 b3 (bit_in p) refl q5
        (step-holds h 4 8 b2 a2 (bit_in p) refl q4
        (step-holds h 8 4 a1 b2 (bit_in p) refl q3
        (step-holds h 16 2 b1 a1 (bit_in p) refl q2
        (step-holds h 32 1 p b1 (bit_in p) refl q1 at_first)))))
