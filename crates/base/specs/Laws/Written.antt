-- What loops have written: nothing yet, one entry or piece more, and in the end all of it.
-- Assumes nothing.
use Rattle.std.specs.Prelude.{◌≡◌, refl, List, ◌∷◌, ℕ, zero, suc, ◌+◌, ◌-◌, ◌≤◌, ◌<◌, length, get_or, set, replicate}
use Rattle.std.proofs.Common.{sym, ap, subst, ◌∙◌, zero-add, arith, lt-ltb, le-ltb, length-set, get_or-set_same, get_or-set_other, ext_get_or}
use Rattle.std.proofs.Math.Decide.{dec_lt}
use Rattle.std.proofs.Math.ListN.{get_or-eq_default}
use Rattle.base.specs.Lists.{from}
use Rattle.base.specs.Written.{Written, copied}
use Rattle.base.specs.Laws.Tests.{passed, refused}
use Rattle.base.specs.Laws.From.{length_from, get_or-from}

pub written_none : (f : ℕ → ℕ) (first : ℕ) (before : List ℕ) → Written f first first before before
written_none f first before = record { lengths = refl; here = λ i l m. absurd (omega arith); left = λ i l. refl; right = λ i l. refl }

pub written-to : (f : ℕ → ℕ) (first k m : ℕ) (before after : List ℕ) → k ≡ m → Written f first k before after
    → Written f first m before after
written-to f first k m before after e w = subst (λ (n : ℕ). Written f first n before after) e w

-- one entry more
pub written-more : (f : ℕ → ℕ) (first k : ℕ) (before after : List ℕ) (v : ℕ) → v ≡ f k → first ≤ k → k < length before
    → Written f first k before after → Written f first (k + 1) before (set after k v)
written-more f first k before after v e s h w =
    record {
      lengths = length-set after k v ∙ w.lengths;
      here = λ i l m. near i l m (dec_lt i k);
      left = λ i l. get_or-set_other after k i v 0 (λ q. omega arith) ∙ w.left i l;
      right = λ i l. get_or-set_other after k i v 0 (λ q. omega arith) ∙ w.right i (omega arith);
    }
  where
    near : (i : ℕ) → first ≤ i → i < k + 1 → Dec (i < k) → get_or (set after k v) i 0 ≡ f i
    near i l m (yes s) = get_or-set_other after k i v 0 (λ q. omega arith) ∙ w.here i l s
    near i l m (no s) = let q : i ≡ k = omega arith in rw q (get_or-set_same after k v 0 (omega (arith, w.lengths)) ∙ e)

-- one piece behind another
pub written_then : (f : ℕ → ℕ) (first k m : ℕ) (before between after : List ℕ) → first ≤ k → k ≤ m → Written f first k before between
    → Written f k m between after → Written f first m before after
written_then f first k m before between after s t v w =
    record {
      lengths = w.lengths ∙ v.lengths;
      here = λ i l h. piece i l h (dec_lt i k);
      left = λ i l. w.left i (omega arith) ∙ v.left i l;
      right = λ i l. w.right i l ∙ v.right i (omega arith);
    }
  where
    piece : (i : ℕ) → first ≤ i → i < m → Dec (i < k) → get_or after i 0 ≡ f i
    piece i l h (yes q) = w.left i q ∙ v.here i l q
    piece i l h (no q) = w.here i (omega arith) h

-- another function that agrees there
pub written_same : (f g : ℕ → ℕ) (first k : ℕ) (before after : List ℕ) → ((i : ℕ) → first ≤ i → i < k → f i ≡ g i)
    → Written f first k before after → Written g first k before after
written_same f g first k before after e w =
    record { lengths = w.lengths; here = λ i l h. w.here i l h ∙ e i l h; left = w.left; right = w.right }

-- the end: all of it is f
pub written_all : (f : ℕ → ℕ) (k n : ℕ) (before after : List ℕ) → length before ≡ n → n ≤ k → Written f 0 k before after
    → after ≡ from 0 n f
written_all f k n before after e h w =
    ext_get_or 0 after (from 0 n f) (w.lengths ∙ e ∙ sym (length_from f n 0))
    (λ i l. w.here i (omega arith) (omega (arith, w.lengths)) ∙ ap f (sym (zero-add i))
    ∙ sym (get_or-from f 0 n 0 i (omega (arith, w.lengths))))

-- behind the end there is nothing, before and after
beyond : (before after : List ℕ) → length after ≡ length before → (i : ℕ) → length before ≤ i → get_or after i 0 ≡ get_or before i 0
beyond before after e i l = get_or-eq_default after 0 (omega arith) ∙ sym (get_or-eq_default before 0 l)

-- as far as the end, where the loops have come that far
pub written-end : (f : ℕ → ℕ) (first k : ℕ) (before after : List ℕ) → length before ≤ k → Written f first k before after
    → Written f first (length before) before after
written-end f first k before after h w =
    record { lengths = w.lengths; here = λ i l m. w.here i l (omega arith); left = w.left; right = beyond before after w.lengths }

from-replicate : (n i v : ℕ) → from i n (λ _. v) ≡ replicate n v
unfolding from
from-replicate zero i v = refl
from-replicate (suc n) i v = ap (λ (l : List ℕ). v ∷ l) (from-replicate n _ v)

-- all of it is 0
pub written-zero : (before after : List ℕ) → Written (λ _. 0) 0 (length before) before after → after ≡ replicate (length before) 0
written-zero before after w =
    written_all (λ _. 0) (length before) (length before) before after refl (omega arith) w ∙ from-replicate (length before) 0 0

-- words copied as far as they reach, or as far as there is room
pub copied-end : (words : List ℕ) (start k : ℕ) (before after : List ℕ) → k ≤ start + length words
    → ((i : ℕ) → k ≤ i → i < length before → start + length words ≤ i) → Written (λ i. get_or words (i - start) 0) start k before after
    → Written (copied words start before) start (length before) before after
copied-end words start k before after h room w =
    record { lengths = w.lengths; here = λ i l m. piece i l m (dec_lt i k); left = w.left; right = beyond before after w.lengths }
  where
    piece : (i : ℕ) → start ≤ i → i < length before → Dec (i < k) → get_or after i 0 ≡ copied words start before i
    piece i l m (yes q) = w.here i l q ∙ passed _ _ _ (lt-ltb i (start + length words) (omega arith))
    piece i l m (no q) = w.right i (omega arith) ∙ refused _ _ _ (le-ltb i (start + length words) (room i (omega arith) m))

-- where there is room for all of them
pub copied-fits : (words : List ℕ) (start : ℕ) (before after : List ℕ) → start + length words ≤ length before
    → Written (copied words start before) start (length before) before after
    → Written (λ i. get_or words (i - start) 0) start (start + length words) before after
copied-fits words start before after h w =
    record { lengths = w.lengths; here = inside; left = w.left; right = λ i l. behind i l (dec_lt i (length before)) }
  where
    inside : (i : ℕ) → start ≤ i → i < start + length words → get_or after i 0 ≡ get_or words (i - start) 0
    inside i l m = w.here i l (omega arith) ∙ sym (passed _ _ _ (lt-ltb i (start + length words) m))

    behind : (i : ℕ) → start + length words ≤ i → Dec (i < length before) → get_or after i 0 ≡ get_or before i 0
    behind i l (yes q) = w.here i (omega arith) q ∙ sym (refused _ _ _ (le-ltb i (start + length words) l))
    behind i l (no q) = w.right i (omega arith)

-- where they take all the room
pub copied-whole : (words before after : List ℕ) → length before ≡ length words → Written (copied words 0 before) 0 (length before) before after
    → after ≡ words
copied-whole words before after e w =
    ext_get_or 0 after words (w.lengths ∙ e)
    (λ i l. (copied-fits words 0 before after (omega arith) w).here i (omega arith) (omega (arith, w.lengths))
    ∙ ap (λ (k : ℕ). get_or words k 0) (omega arith))
