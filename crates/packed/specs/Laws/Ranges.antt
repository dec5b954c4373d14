-- A range of words written over all cycles, turn by turn.
-- Assumes nothing.
use Rattle.std.specs.Prelude.{◌≡◌, ℕ, ◌+◌, ◌*◌, ◌<◌, ◌≤◌, ◌↔◌, List, length, replicate, ◌≢◌, bit_or, slice_index, slice_set, refl}
use Rattle.std.proofs.Common.{sym, ap, subst, ◌∙◌, arith, length-set, get_or-set_same, get_or-set_other}
use Rattle.std.proofs.Math.Decide.{ℕ_discrete, dec_lt}
use Rattle.std.proofs.lemmas.List.{length-replicate, get_or-replicate}
use Rattle.std.proofs.Math.ListN.{get_or-eq_default}
use Rattle.base.specs.Laws.Compared.{or-none}
use Rattle.packed.specs.Packed.{packed_word}
use Rattle.packed.specs.Columns.{BitsIn, WordPut}
use Rattle.packed.specs.Ranges.{Scattered, Ranged}
use Rattle.packed.specs.Laws.Columns.{bits-joined}

pub first-scattered : (acc : List ℕ) (k : ℕ) (out : List ℕ) → Scattered acc k 0 out out
first-scattered acc k out = record { lengths = refl; here = λ d l. absurd (omega arith); elsewhere = λ d j l n. refl }

pub next-scattered : (acc : List ℕ) (k n : ℕ) (before now : List ℕ) → k < 32 → 32 * n + k < length before → Scattered acc k n before now
    → Scattered acc k (n + 1) before (slice_set now (32 * n + k) (slice_index acc n))
next-scattered acc k n before now l m s =
    record {
      lengths = length-set now (32 * n + k) (slice_index acc n) ∙ s.lengths;
      here = λ d q. here d q (ℕ_discrete d n);
      elsewhere = λ d j q f. get_or-set_other now (32 * n + k) (32 * d + j) (slice_index acc n) 0 (λ e. f (omega arith)) ∙ s.elsewhere d j q f;
    }
  where
    here : (d : ℕ) → d < n + 1 → Dec (d ≡ n) → slice_index (slice_set now (32 * n + k) (slice_index acc n)) (32 * d + k) ≡ slice_index acc d
    here d q (yes e) =
        ap (λ (x : ℕ). slice_index (slice_set now (32 * n + k) (slice_index acc n)) (32 * x + k)) e
        ∙ get_or-set_same now (32 * n + k) (slice_index acc n) 0 (omega (arith, s.lengths)) ∙ ap (λ (x : ℕ). slice_index acc x) (sym e)
    here d q (no f) = get_or-set_other now (32 * n + k) (32 * d + k) (slice_index acc n) 0 (λ e. f (omega arith)) ∙ s.here d (omega arith)

-- a cleared slice holds 0 everywhere
pub cleared : (n : ℕ) {acc : List ℕ} → acc ≡ replicate n 0 → (d : ℕ) → slice_index acc d ≡ 0
cleared n {acc} e d =
    ap (λ (u : List ℕ). slice_index u d) e
    ∙ elim (dec_lt d n) [
      | yes l ↦ get_or-replicate n d 0 0 l
      | no l ↦ get_or-eq_default (replicate n 0) 0 (omega (arith, length-replicate {A = ℕ} n 0))
    ]

-- the loop's end: all words to `last` are passed
pub range-ends : (cpi : ℕ) (batch : List ℕ) (first k last : ℕ) (before after : List ℕ) (bad : ℕ) → k ≤ last → last ≤ k
    → Ranged cpi batch first k before after bad → Ranged cpi batch first last before after bad
range-ends cpi batch first k last before after bad l m h =
    let e : k ≡ last = omega arith in subst (λ (n : ℕ). Ranged cpi batch first n before after bad) e h

pub no-range : (cpi : ℕ) (batch : List ℕ) (first : ℕ) (out : List ℕ) → Ranged cpi batch first first out out 0
no-range cpi batch first out =
    record {
      lengths = refl;
      here = λ d j l m n. absurd (omega arith);
      left = λ d j l m. refl;
      right = λ d j l m. refl;
      bits = (λ _ c d l m _. absurd (omega arith), λ _. refl);
    }

-- one word more
more-range : (cpi : ℕ) (batch : List ℕ) (first k : ℕ) (before now new : List ℕ) (bad r : ℕ) → first ≤ k → k < 32
    → Ranged cpi batch first k before now bad → length new ≡ length now
    → ((d : ℕ) → d < cpi → slice_index new (32 * d + k) ≡ packed_word cpi batch d k)
    → ((d j : ℕ) → j < 32 → (j ≢ k) → slice_index new (32 * d + j) ≡ slice_index now (32 * d + j))
    → ((r ≡ 0) ↔ BitsIn cpi batch (64 * k) (64 * k + 64)) → Ranged cpi batch first (k + 1) before new (bit_or bad r)
more-range cpi batch first k before now new bad r o v h s w e t =
    record {
      lengths = s ∙ h.lengths;
      here = λ d j l m n. here d j l m n (ℕ_discrete j k);
      left = λ d j l m. e d j l (λ q. omega arith) ∙ h.left d j l m;
      right = λ d j l m. e d j l (λ q. omega arith) ∙ h.right d j l (omega arith);
      bits = (
        λ z. let p = (or-none bad r).0 z in subst (BitsIn cpi batch (64 * first)) last (both.0 (h.bits.0 p.0, t.0 p.1)),
        λ g. let p = both.1 (subst (BitsIn cpi batch (64 * first)) (sym last) g) in (or-none bad r).1 (h.bits.1 p.0, t.1 p.1),
      );
    }
  where
    both : (BitsIn cpi batch (64 * first) (64 * k) × BitsIn cpi batch (64 * k) (64 * k + 64)) ↔ BitsIn cpi batch (64 * first) (64 * k + 64)
    both = bits-joined cpi batch (64 * first) (64 * k) (64 * k + 64) (omega arith) (omega arith)

    last : 64 * k + 64 ≡ 64 * (k + 1)
    last = omega arith

    here : (d j : ℕ) → d < cpi → first ≤ j → j < k + 1 → Dec (j ≡ k) → slice_index new (32 * d + j) ≡ packed_word cpi batch d j
    here d j l m n (yes q) = ap (λ (x : ℕ). slice_index new (32 * d + x)) q ∙ w d l ∙ ap (packed_word cpi batch d) (sym q)
    here d j l m n (no f) = e d j (omega arith) f ∙ h.here d j l m (omega arith)

-- a word of every cycle, made in a slice and put into its places
pub next-range : (cpi : ℕ) (batch : List ℕ) (first k : ℕ) (acc before now new : List ℕ) (bad r : ℕ) → first ≤ k → k < 32
    → Ranged cpi batch first k before now bad
    → WordPut cpi batch k acc r → Scattered acc k (length acc) now new → Ranged cpi batch first (k + 1) before new (bit_or bad r)
next-range cpi batch first k acc before now new bad r o v h w s =
    more-range cpi batch first k before now new bad r o v h s.lengths
    (λ d l. s.here d (omega (arith, w.sized)) ∙ w.holds d l) s.elsewhere w.bits
