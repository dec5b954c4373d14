-- Columns one after the other packed, four at a turn.
-- Assumes nothing.
use Rattle.std.specs.Prelude.{◌≡◌, ℕ, ◌+◌, ◌-◌, ◌*◌, ◌/◌, ◌%◌, ◌^◌, ◌<◌, ◌≤◌, ◌↔◌, List, length, bit_or, slice_index, slice_set, refl}
use Rattle.std.proofs.Common.{sym, ap, ap₂, subst, ◌∙◌, arith, length-set, get_or-set_same, get_or-set_other}
use Rattle.std.proofs.Math.Decide.{ℕ_discrete}
use Rattle.base.specs.Laws.Compared.{or-none}
use Rattle.packed.specs.Packed.{stacked, low_at, packed_word}
use Rattle.packed.specs.Stacked.{pushed_four}
use Rattle.packed.specs.Seen.{BitAt}
use Rattle.packed.specs.Columns.{BitsIn}
use Rattle.packed.specs.Ranges.{Ranged}
use Rattle.packed.specs.One.{low_from, row_sum, BitsFrom, InRow}
use Rattle.packed.specs.Laws.Stacked.{again, alone, four-parts, stacked-same}
use Rattle.packed.specs.Laws.Columns.{bits-joined}
use Rattle.packed.specs.Laws.Seen.{Seen, seen_next, seen-bits}

-- what four parts are: each is m columns on, and is right modulo 2^64
abbrev Quarter : List ℕ → ℕ → ℕ → ℕ → Type 0
Quarter b i m w = w % 2 ^ 64 ≡ stacked (low_from b i) 0 m % 2 ^ 64

of_four : (b : List ℕ) (i m p q r s : ℕ) → Quarter b i m p → Quarter b (i + 2 * m) m q → Quarter b (i + 2 * (m + m)) m r
    → Quarter b (i + 2 * (m + m + m)) m s → pushed_four m p q r s ≡ row_sum b i (m + (m + (m + m)))
of_four b i m p q r s hp hq hr hs =
    four-parts (low_from b i) 0 m p q r s hp (moved q m (0 + m) (omega arith) hq) (moved r (m + m) (0 + m + m) (omega arith) hr)
    (moved s (m + m + m) (0 + m + m + m) (omega arith) hs)
  where
    moved : (w k o : ℕ) → o ≡ k → Quarter b (i + 2 * k) m w → w % 2 ^ 64 ≡ stacked (low_from b i) o m % 2 ^ 64
    moved w k o e h =
        h ∙ ap (λ (n : ℕ). n % 2 ^ 64)
        (stacked-same (low_from b (i + 2 * k)) (low_from b i) 0 o m (λ x _. ap (λ (y : ℕ). slice_index b y) (omega arith)))

-- four columns
pub four-columns : (b : List ℕ) (i : ℕ) {r : ℕ} → r ≡ pushed_four 1 (slice_index b i) (slice_index b (i + 2)) (slice_index b (i + 4)) (slice_index b (i + 6))
    → r ≡ row_sum b i 4
four-columns b i e = e ∙ of_four b i 1 _ _ _ _ (column i) (column (i + 2)) (column (i + 4)) (column (i + 6))
  where
    column : (j : ℕ) → Quarter b j 1 (slice_index b j)
    column j = alone (low_from b j) 0 (ap (λ (y : ℕ). slice_index b y) (omega arith))

-- of words that were read
pub four-words : (b : List ℕ) (i : ℕ) {r p q s t : ℕ} → p ≡ slice_index b i → q ≡ slice_index b (i + 2) → s ≡ slice_index b (i + 4) → t ≡ slice_index b (i + 6)
    → r ≡ pushed_four 1 p q s t → r ≡ row_sum b i 4
four-words b i {p = p} {q = q} {s = s} {t = t} ep eq es et e =
    four-columns b i
    (e ∙ ap₂ (λ (x y : ℕ). pushed_four 1 x y s t) ep eq ∙ ap₂ (λ (x y : ℕ). pushed_four 1 (slice_index b i) (slice_index b (i + 2)) x y) es et)

-- four sums of m columns each
pub four-sums : (m : ℕ) (b : List ℕ) (i : ℕ) {r p q s t : ℕ} → p ≡ row_sum b i m → q ≡ row_sum b (i + 2 * m) m
    → s ≡ row_sum b (i + 2 * (m + m)) m → t ≡ row_sum b (i + 2 * (m + m + m)) m → r ≡ pushed_four m p q s t
    → r ≡ row_sum b i (m + (m + (m + m)))
four-sums m b i ep eq es et e =
    e ∙ of_four b i m _ _ _ _ (summed i ep) (summed (i + 2 * m) eq) (summed (i + 2 * (m + m)) es) (summed (i + 2 * (m + m + m)) et)
  where
    summed : (j : ℕ) {w : ℕ} → w ≡ row_sum b j m → Quarter b j m w
    summed j h = again (stacked (low_from b j) 0 m) h

-- the or of the words of n elements from word i on
abbrev pub SeenFrom : List ℕ → ℕ → ℕ → ℕ → ℕ → Type 0
SeenFrom b i n low high = Seen b (λ (x : ℕ). i + 2 * x) n low high

pub seen-turn : (b : List ℕ) (i n low high x y : ℕ) → x ≡ slice_index b (i + 2 * n) → y ≡ slice_index b (i + 2 * n + 1) → SeenFrom b i n low high
    → SeenFrom b i (n + 1) (bit_or low x) (bit_or high y)
seen-turn b i n low high x y e f s = seen_next b (λ (x : ℕ). i + 2 * x) n low high e f s

pub seen_all : (b : List ℕ) (i n low high : ℕ) → n ≤ 64 → 64 ≤ n → SeenFrom b i n low high → (bit_or (low / 2) high ≡ 0) ↔ BitsFrom b i
seen_all b i n low high l m s =
    let e : n ≡ 64 = omega arith in
    seen-bits b (λ (x : ℕ). i + 2 * x) 64 low high (subst (λ (k : ℕ). SeenFrom b i k low high) e s)

pub word-is : (b : List ℕ) (k : ℕ) → row_sum b (128 * k) 64 ≡ packed_word 1 b 0 k
unfolding packed_word
word-is b k =
    ap (λ (n : ℕ). n % 2 ^ 64)
    (stacked-same (low_from b (128 * k)) (low_at 1 b 0) 0 (64 * k) 64 (λ i _. ap (λ (y : ℕ). slice_index b y) (omega arith)))

pub bits_are : (b : List ℕ) (k : ℕ) → BitsFrom b (128 * k) ↔ BitsIn 1 b (64 * k) (64 * k + 64)
bits_are b k = (
  λ h c d l m n. subst (BitAt b) (omega arith) (h (c - 64 * k) (omega arith)),
  λ h x l. subst (BitAt b) (omega arith) (h (64 * k + x) 0 (omega arith) (omega arith) (omega arith)),
)

-- ---- word after word

pub no_row : (b : List ℕ) (first : ℕ) (out : List ℕ) → InRow b first first out out 0
no_row b first out =
    record {
      lengths = refl;
      here = λ j l m. absurd (omega arith);
      left = λ j l. refl;
      right = λ j l. refl;
      bits = (λ _ c d l m _. absurd (omega arith), λ _. refl);
    }

pub next_row : (b : List ℕ) (first k last : ℕ) (before now : List ℕ) (bad r : ℕ) {w : ℕ} → first ≤ k → k < last
    → last ≤ length before → InRow b first k before now bad
    → w ≡ row_sum b (128 * k) 64 → ((r ≡ 0) ↔ BitsFrom b (128 * k)) → InRow b first (k + 1) before (slice_set now k w) (bit_or bad r)
next_row b first k last before now bad r {w} o l s h e t =
    record {
      lengths = length-set now k w ∙ h.lengths;
      here = λ j m n. here j m n (ℕ_discrete j k);
      left = λ j m. get_or-set_other now k j w 0 (λ q. omega arith) ∙ h.left j m;
      right = λ j m. get_or-set_other now k j w 0 (λ q. omega arith) ∙ h.right j (omega arith);
      bits = (
        λ z. let p = (or-none bad r).0 z in subst (BitsIn 1 b (64 * first)) end (both.0 (h.bits.0 p.0, (bits_are b k).0 (t.0 p.1))),
        λ g.
            let p = both.1 (subst (BitsIn 1 b (64 * first)) (sym end) g) in
            (or-none bad r).1 (h.bits.1 p.0, t.1 ((bits_are b k).1 p.1)),
      );
    }
  where
    both : (BitsIn 1 b (64 * first) (64 * k) × BitsIn 1 b (64 * k) (64 * k + 64)) ↔ BitsIn 1 b (64 * first) (64 * k + 64)
    both = bits-joined 1 b (64 * first) (64 * k) (64 * k + 64) (omega arith) (omega arith)

    end : 64 * k + 64 ≡ 64 * (k + 1)
    end = omega arith

    here : (j : ℕ) → first ≤ j → j < k + 1 → Dec (j ≡ k) → slice_index (slice_set now k w) j ≡ packed_word 1 b 0 j
    here j m n (yes q) =
        ap (λ (x : ℕ). slice_index (slice_set now k w) x) q ∙ get_or-set_same now k w 0 (omega (arith, h.lengths)) ∙ e ∙ word-is b k
        ∙ ap (packed_word 1 b 0) (sym q)
    here j m n (no f) = get_or-set_other now k j w 0 f ∙ h.here j m (omega arith)

-- the loop's end: all words to `last` are passed
pub row_ends : (b : List ℕ) (first k last : ℕ) (before after : List ℕ) (bad : ℕ) → k ≤ last → last ≤ k → InRow b first k before after bad
    → InRow b first last before after bad
row_ends b first k last before after bad l m h =
    let e : k ≡ last = omega arith in subst (λ (n : ℕ). InRow b first n before after bad) e h

-- words of one cycle
pub row-range : (b : List ℕ) (first last : ℕ) (before after : List ℕ) (bad : ℕ) → last ≤ 32 → InRow b first last before after bad
    → Ranged 1 b first last before after bad
row-range b first last before after bad top h =
    record {
      lengths = h.lengths;
      here = λ d j l m n. let e : d ≡ 0 = omega arith in
          ap (λ (x : ℕ). slice_index after (32 * x + j)) e ∙ ap (λ (x : ℕ). slice_index after x) (omega arith) ∙ h.here j m n
          ∙ ap (λ (x : ℕ). packed_word 1 b x j) (sym e);
      left = λ d j l m. left d j l m (ℕ_discrete d 0);
      right = λ d j l m. h.right (32 * d + j) (omega arith);
      bits = h.bits;
    }
  where
    left : (d j : ℕ) → j < 32 → j < first → Dec (d ≡ 0) → slice_index after (32 * d + j) ≡ slice_index before (32 * d + j)
    left d j l m (yes e) = h.left (32 * d + j) (omega arith)
    left d j l m (no f) = h.right (32 * d + j) (omega arith)
