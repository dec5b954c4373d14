-- A text left-aligned in a width, byte by byte.
-- Assumes nothing.
use Rattle.std.specs.Prelude.{◌≡◌, List, ◌++◌, ℕ, ◌+◌, ◌-◌, ◌<◌, ◌≤◌, length, get_or, set}
use Rattle.std.proofs.Common.{sym, ap, ap₂, ◌∙◌, append-nil, append_assoc, add-one, arith, length-append, get_or-append-add}
use Rattle.std.proofs.Math.Decide.{dec_lt}
use Rattle.std.proofs.Math.Nat.{zero-sub}
use Rattle.std.proofs.lemmas.List.{length-replicate, get_or-replicate}
use Rattle.std.proofs.Math.ListN.{get_or-append, get_or-eq_default}
use Rattle.std.proofs.Math.Seq.{paste, paste-suc}
use Rattle.base.specs.Laws.Lists.{get_or-inside}
use Rattle.base.specs.Text.{blanks, left}

pub left-length : (w : ℕ) (t : List ℕ) → length (left w t) ≡ length t + (w - length t)
left-length w t = length-append t (blanks (w - length t)) ∙ ap (λ (n : ℕ). length t + n) (length-replicate {A = ℕ} (w - length t) 0x20)

-- a text that fits takes the width
pub left_in : (w : ℕ) (t : List ℕ) → length t ≤ w → length (left w t) ≡ w
left_in w t h = left-length w t ∙ omega arith

-- a text of some length, and so many blanks
pub left-blanks : (k w : ℕ) (t : List ℕ) → length t ≡ w → left (w + k) t ≡ t ++ blanks k
left-blanks k w t e = ap (λ (n : ℕ). t ++ blanks n) less
  where
    less : w + k - length t ≡ k
    less = omega arith

-- the blanks go behind the last part
pub left_behind : (w v : ℕ) (t u : List ℕ) → length t + v ≡ w → left w (t ++ u) ≡ t ++ left v u
left_behind w v t u e = ap (λ (n : ℕ). t ++ u ++ blanks n) less ∙ append_assoc t u (blanks (v - length u))
  where
    less : w - length (t ++ u) ≡ v - length u
    less = omega (arith, length-append t u)

pub left-none : (t : List ℕ) → left 0 t ≡ t
left-none t = ap (λ (n : ℕ). t ++ blanks n) (zero-sub (length t)) ∙ append-nil t

pub get_or-behind : (t : List ℕ) (i : ℕ) → length t ≤ i → 0x20 ≡ get_or t i 0x20
get_or-behind t i h = sym (get_or-eq_default t 0x20 h)

left_at : (w i : ℕ) (t : List ℕ) → i < length (left w t) → get_or (left w t) i 0 ≡ get_or t i 0x20
left_at w i t h = by_side (dec_lt i (length t))
  where
    at-end : length t + (i - length t) ≡ i → get_or (left w t) i 0 ≡ 0x20
    at-end e =
        ap (λ (k : ℕ). get_or (left w t) k 0) (sym e) ∙ get_or-append-add t (blanks (w - length t)) (i - length t) 0
        ∙ get_or-replicate (w - length t) (i - length t) 0x20 0 (omega (arith, left-length w t))

    by_side : Dec (i < length t) → get_or (left w t) i 0 ≡ get_or t i 0x20
    by_side (yes l) = get_or-append t (blanks (w - length t)) 0 i l ∙ get_or-inside t i 0 0x20 l
    by_side (no l) = at-end (omega arith) ∙ get_or-behind t i (omega arith)

-- one byte more of it is written
pub left-more : (w at i v : ℕ) (t b e : List ℕ) → e ≡ paste b at (left w t) i → v ≡ get_or t i 0x20 → at + i < length b
    → i < length (left w t) → set e (at + i) v ≡ paste b at (left w t) (i + 1)
left-more w at i v t b e h q room inside =
    ap₂ (λ l x. set l (at + i) x) h (q ∙ sym (left_at w i t inside))
    ∙ rw add-one (paste-suc b at (left w t) i 0 room inside)
