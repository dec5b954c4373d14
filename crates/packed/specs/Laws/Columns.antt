-- Columns stacked four and a word at a time, turn by turn, and what they hold in the end.
-- Assumes nothing.
use Rattle.std.specs.Prelude.{◌≡◌, ℕ, ◌+◌, ◌-◌, ◌*◌, ◌/◌, ◌%◌, ◌^◌, ◌<◌, ◌≤◌, ◌↔◌, List, length, bit_or, slice_index, slice_set, refl}
use Rattle.std.proofs.Common.{sym, ap, ◌∙◌, add-mul, mul_left_comm, mul-le-mul_right, length-set, get_or-set_same, get_or-set_other}
use Rattle.std.proofs.Math.Path.{ap₂, subst}
use Rattle.std.proofs.Math.Decide.{dec_lt, ℕ_discrete}
use native.Mathlib.Omega.{arith}
use Rattle.base.specs.Laws.Compared.{or-none}
use Rattle.layout.specs.Batch.{batch_words}
use Rattle.packed.specs.Packed.{stacked, low_at, packed_word}
use Rattle.packed.specs.Stacked.{pushed}
use Rattle.packed.specs.Seen.{BitAt}
use Rattle.packed.specs.Columns.{pushed_at, seen_at, FourPut, BitsIn, FourIn, WordTurn, WordPut}
use Rattle.packed.specs.Laws.Stacked.{push-on, again, alone}
use Rattle.packed.specs.Laws.Seen.{Seen, seen_none, seen_more, seen-bits}

-- sum after sum
pub pushed-chain : (w a b c d : ℕ) {p q r t : ℕ} → p ≡ pushed 1 w d → q ≡ pushed 1 p c → r ≡ pushed 1 q b → t ≡ pushed 1 r a
    → t ≡ pushed 1 (pushed 1 (pushed 1 (pushed 1 w d) c) b) a
pushed-chain w a b c d e f g h = h ∙ ap (λ (x : ℕ). pushed 1 x a) (g ∙ ap (λ (x : ℕ). pushed 1 x b) (f ∙ ap (λ (x : ℕ). pushed 1 x c) e))

-- where element x of them stands: cycle by cycle, four to a cycle
abbrev place_of : ℕ → ℕ → ℕ → ℕ
place_of at s x = at + 2 * (x / 4) + x % 4 * s

-- after the cycles below d
pub record FourTurn (b : List ℕ) (at s : ℕ) (before now : List ℕ) (low high d i : ℕ) : Type 0 where
  pub lengths : length now ≡ length before
  pub place : i ≡ at + 2 * d
  pub done : (e : ℕ) → e < d → slice_index now e ≡ pushed_at b (at + 2 * e) s (slice_index before e)
  pub left : (e : ℕ) → d ≤ e → slice_index now e ≡ slice_index before e
  pub seen : Seen b (place_of at s) (4 * d) low high

module _ (b : List ℕ) (at s : ℕ) (before : List ℕ) where
  place_is : (d q : ℕ) → q < 4 → place_of at s (4 * d + q) ≡ at + 2 * d + q * s
  place_is d q l = ap₂ (λ (e r : ℕ). at + 2 * e + r * s) (omega arith) (omega arith)

  pub first-turn : FourTurn b at s before before 0 0 0 at
  first-turn =
      record {
        lengths = refl;
        place = omega arith;
        done = λ e l. absurd (omega arith);
        left = λ e l. refl;
        seen = seen_none b (place_of at s);
      }

  four-seen : (d low high : ℕ) → Seen b (place_of at s) (4 * d) low high
      → Seen b (place_of at s) (4 * (d + 1)) (seen_at b (at + 2 * d) s low) (seen_at b (at + 2 * d + 1) s high)
  four-seen d low high h =
      let i = at + 2 * d in
      subst (λ (n : ℕ). Seen b (place_of at s) n (seen_at b i s low) (seen_at b (i + 1) s high)) (omega arith)
      (next 3 (i + 3 * s) (i + 1 + 3 * s) (omega arith) (omega arith) (omega arith)
      (next 2 (i + 2 * s) (i + 1 + 2 * s) (omega arith) (omega arith) (omega arith)
      (next 1 (i + s) (i + 1 + s) (omega arith) (omega arith) (omega arith)
      (next 0 i (i + 1) (omega arith) (omega arith) (omega arith) (subst (λ (n : ℕ). Seen b (place_of at s) n low high) (omega arith) h)))))
    where
      next : (q i j : ℕ) {m n : ℕ} → q < 4 → i ≡ at + 2 * d + q * s → j ≡ at + 2 * d + q * s + 1 → Seen b (place_of at s) (4 * d + q) m n
          → Seen b (place_of at s) (4 * d + (q + 1)) (bit_or m (slice_index b i)) (bit_or n (slice_index b j))
      next q i j {m} {n} l e f t =
          subst (λ (k : ℕ). Seen b (place_of at s) k (bit_or m (slice_index b i)) (bit_or n (slice_index b j))) (omega arith)
          (seen_more b (place_of at s) (4 * d + q) m n i j (e ∙ sym (place_is d q l)) (f ∙ ap (λ (k : ℕ). k + 1) (sym (place_is d q l))) t)

  pub next-turn : (now : List ℕ) (low high d i step : ℕ) {w m n : ℕ} → d < length before → step ≡ 2
      → FourTurn b at s before now low high d i
      → w ≡ pushed_at b i s (slice_index now d) → m ≡ seen_at b i s low → n ≡ seen_at b (i + 1) s high
      → FourTurn b at s before (slice_set now d w) m n (d + 1) (i + step)
  next-turn now low high d i step {w} {m} {n} k two t e f g =
      record {
        lengths = length-set now d w ∙ t.lengths;
        place = omega (arith, t.place);
        done = λ x q. done x q (ℕ_discrete x d);
        left = λ x q. get_or-set_other now d x w 0 (λ z. omega arith) ∙ t.left x (omega arith);
        seen =
            subst (λ (x : ℕ). Seen b (place_of at s) (4 * (d + 1)) x n) (sym (f ∙ ap (λ (j : ℕ). seen_at b j s low) t.place))
            (subst (λ (x : ℕ). Seen b (place_of at s) (4 * (d + 1)) (seen_at b (at + 2 * d) s low) x)
            (sym (g ∙ ap (λ (j : ℕ). seen_at b (j + 1) s high) t.place))
            (four-seen d low high t.seen));
      }
    where
      done : (x : ℕ) → x < d + 1 → Dec (x ≡ d) → slice_index (slice_set now d w) x ≡ pushed_at b (at + 2 * x) s (slice_index before x)
      done x q (yes z) =
          ap (λ (y : ℕ). slice_index (slice_set now d w) y) z ∙ get_or-set_same now d w 0 (omega (arith, t.lengths)) ∙ e
          ∙ ap₂ (λ (j v : ℕ). pushed_at b j s v) t.place (t.left d (omega arith))
          ∙ ap (λ (y : ℕ). pushed_at b (at + 2 * y) s (slice_index before y)) (sym z)
      done x q (no f) = get_or-set_other now d x w 0 f ∙ t.done x (omega arith)

  pub last_turn : (now : List ℕ) (low high d i : ℕ) → d ≡ length before → FourTurn b at s before now low high d i
      → FourPut b at s before now (bit_or (low / 2) high)
  last_turn now low high d i k t =
      let test = seen-bits b (place_of at s) (4 * d) low high t.seen in
      record {
        lengths = t.lengths;
        put = λ x l. t.done x (omega arith);
        bits = (
          λ z x q l m. subst (BitAt b) (place_is x q m) (test.0 z (4 * x + q) (omega arith)),
          λ h. test.1 (λ x l. h (x / 4) (x % 4) (omega arith) (omega arith)),
        );
      }

-- two stretches of columns, one behind the other
pub bits-joined : (cpi : ℕ) (batch : List ℕ) (o m e : ℕ) → o ≤ m → m ≤ e
    → (BitsIn cpi batch o m × BitsIn cpi batch m e) ↔ BitsIn cpi batch o e
bits-joined cpi batch o m e l n = (
  λ h c d p q r. elim (dec_lt c m) [ yes y ↦ h.0 c d p y r | no y ↦ h.1 c d (omega arith) q r ],
  λ h. (λ c d p q r. h c d p (omega arith) r, λ c d p q r. h c d (omega arith) q r),
)

module _ (cpi : ℕ) (b : List ℕ) (k : ℕ) where
  -- where column c + q of cycle d stands
  at : (c q d : ℕ) → c * (2 * cpi) + 2 * d + q * (2 * cpi) ≡ 2 * ((c + q) * cpi + d)
  at c q d = omega (arith, add-mul c q cpi, mul_left_comm c 2 cpi, mul_left_comm q 2 cpi)

  pub column-below : (c : ℕ) → c ≤ 2044 → c * (2 * cpi) + 4 * (2 * cpi) ≤ 4096 * cpi
  column-below c m = omega (arith, mul-le-mul_right {m = c} {n = 2044} (2 * cpi) m)

  pub four-fits : (j step : ℕ) → j < 16 → k < 32 → step ≡ 2 → length b ≡ batch_words cpi → (acc : List ℕ) → length acc ≡ cpi
      → FourIn b ((64 * k + 4 * j) * (2 * cpi)) (2 * cpi) step acc
  four-fits j step l inside two s acc e =
      record { inside = omega (arith, s, column-below (64 * k + 4 * j) (omega arith)); few = omega (arith, e); two = two }

  pub first_word : (acc : List ℕ) → length acc ≡ cpi → ((d : ℕ) → slice_index acc d ≡ 0) → WordTurn cpi b k acc 0 16
  unfolding stacked
  first_word acc s z = record { sized = s; holds = λ d _. z d; bits = (λ _ c d l m _. absurd (omega arith), λ _. refl) }

  -- four columns more
  module _ (acc new : List ℕ) (bad r j : ℕ) (some : 0 < j) (l : j ≤ 16) (h : WordTurn cpi b k acc bad j)
      (f : FourPut b ((64 * k + 4 * (j - 1)) * (2 * cpi)) (2 * cpi) acc new r) where
    abbrev c : ℕ
    c = 64 * k + 4 * (j - 1)

    -- a number of the batch put below a stack of a cycle's low words
    below : (d o n q : ℕ) {w : ℕ} → o ≡ c + q → w ≡ stacked (low_at cpi b d) (o + 1) n % 2 ^ 64
        → pushed 1 w (slice_index b (c * (2 * cpi) + 2 * d + q * (2 * cpi))) ≡ stacked (low_at cpi b d) o (1 + n) % 2 ^ 64
    below d o n q e g =
        push-on (low_at cpi b d) o 1 n _ _ (again (stacked (low_at cpi b d) (o + 1) n) g)
        (alone (low_at cpi b d) o (ap (λ (x : ℕ). slice_index b x) (at c q d ∙ ap (λ (x : ℕ). 2 * (x * cpi + d)) (sym e))))

    -- (the code adds no 0 · s and no 1 · s)
    more-word : (d : ℕ) → d < cpi → slice_index new d ≡ stacked (low_at cpi b d) (64 * k + 4 * (j - 1)) (64 - 4 * (j - 1)) % 2 ^ 64
    more-word d m =
        let z = low_at cpi b d in let i = c * (2 * cpi) + 2 * d in
        let w = pushed 1 (pushed 1 (slice_index acc d) (slice_index b (i + 3 * (2 * cpi)))) (slice_index b (i + 2 * (2 * cpi))) in
        f.put d (omega (arith, h.sized))
        ∙ ap₂ (λ (x y : ℕ). pushed 1 (pushed 1 w (slice_index b x)) (slice_index b y)) (omega arith) (omega arith)
        ∙ below d c (64 - 4 * j + 1 + 1 + 1) 0 (omega arith)
        (below d (c + 1) (64 - 4 * j + 1 + 1) 1 refl
        (below d (c + 1 + 1) (64 - 4 * j + 1) 2 (omega arith)
        (below d (c + 1 + 1 + 1) (64 - 4 * j) 3 (omega arith)
        (h.holds d m ∙ ap (λ (o : ℕ). stacked z o (64 - 4 * j) % 2 ^ 64) (omega arith))
        ∙ ap (λ (n : ℕ). stacked z (c + 1 + 1 + 1) n % 2 ^ 64) (omega arith))
        ∙ ap (λ (n : ℕ). stacked z (c + 1 + 1) n % 2 ^ 64) (omega arith))
        ∙ ap (λ (n : ℕ). stacked z (c + 1) n % 2 ^ 64) (omega arith))
        ∙ ap (λ (n : ℕ). stacked z c n % 2 ^ 64) (omega arith)

    four-bits : (r ≡ 0) ↔ BitsIn cpi b c (c + 4)
    four-bits = (
      λ z x d p q m.
          subst (BitAt b) (at c (x - c) d ∙ ap (λ (y : ℕ). 2 * (y * cpi + d)) (omega arith))
          (f.bits.0 z d (x - c) (omega (arith, h.sized)) (omega arith)),
      λ g. f.bits.1 (λ d q m n. subst (BitAt b) (sym (at c q d)) (g (c + q) d (omega arith) (omega arith) (omega (arith, h.sized)))),
    )

    more-bits : (bit_or bad r ≡ 0) ↔ BitsIn cpi b c (64 * k + 64)
    more-bits =
        let j2 = bits-joined cpi b c (64 * k + 4 * j) (64 * k + 64) (omega arith) (omega arith) in
        let e : c + 4 ≡ 64 * k + 4 * j = omega arith in (
          λ z. let p = (or-none bad r).0 z in j2.0 (subst (BitsIn cpi b c) e (four-bits.0 p.1), h.bits.0 p.0),
          λ g. let p = j2.1 g in (or-none bad r).1 (h.bits.1 p.1, four-bits.1 (subst (BitsIn cpi b c) (sym e) p.0)),
        )

    pub next_word : WordTurn cpi b k new (bit_or bad r) (j - 1)
    next_word = record { sized = f.lengths ∙ h.sized; holds = more-word; bits = more-bits }

  pub last_word : (acc : List ℕ) (bad j : ℕ) → j ≤ 0 → WordTurn cpi b k acc bad j → WordPut cpi b k acc bad
  unfolding packed_word
  last_word acc bad j l h =
      let e : j ≡ 0 = omega arith in let o : 64 * k + 4 * j ≡ 64 * k = omega arith in
      record {
        sized = h.sized;
        holds = λ d m. h.holds d m ∙ ap₂ (λ (x n : ℕ). stacked (low_at cpi b d) x n % 2 ^ 64) o (omega arith);
        bits = subst (λ (x : ℕ). (bad ≡ 0) ↔ BitsIn cpi b x (64 * k + 64)) o h.bits;
      }
