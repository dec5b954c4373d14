-- Texts put one behind the other are their concatenation.
-- Assumes nothing.
use Rattle.std.specs.Prelude.{◌≡◌, List, [], ◌++◌, ℕ, ◌+◌, ◌≤◌, ◌<◌, length, take, drop}
use Rattle.std.proofs.Common.{sym, ap, ap₂, subst, ◌∙◌, append-nil, append_assoc, add-zero, arith, le-leb, length-append, length-drop, take-append-drop, length-take-le, take_at, drop-drop}
use Rattle.std.proofs.Math.Decide.{dec_le}
use Rattle.std.proofs.lemmas.Bool.{lt-leb}
use Rattle.std.proofs.Math.Seq.{paste, take-length, drop-append-add}
use Rattle.base.specs.Laws.Tests.{passed, refused}
use Rattle.text.specs.Put.{over, behind, Put, Placed}

-- a text that fits is placed
pub put-fits : (at : ℕ) (t b e : List ℕ) (r : ℕ) → at + length t ≤ length b → Put at t b e r → Placed at t b e r
unfolding over behind
put-fits at t b e r h p =
    let q = le-leb (at + length t) (length b) h in
    record { after_is = p.after_is ∙ sym (passed _ _ _ q); answer-is = p.answer-is ∙ sym (passed _ _ _ q) }

-- the same for a text whose length is known, and the index behind it
pub put-here : (at n : ℕ) (t b e : List ℕ) (r : ℕ) → length t ≡ n → at + n ≤ length b → Put at t b e r
    → Placed at t b e r × (r ≡ at + n)
put-here at n t b e r m h p =
    let q = put-fits at t b e r (omega arith) p in (q, q.answer-is ∙ ap (λ (k : ℕ). at + k) m)

-- a text that is written whole is put, and so is one that does not fit and is not written
pub put_whole : (at n : ℕ) (t b e : List ℕ) → at + length t ≤ length b → n ≡ length t → e ≡ paste b at t n → Put at t b e (at + n)
unfolding over behind
put_whole at n t b e h m q =
    let f = le-leb (at + length t) (length b) h in
    record { after_is = q ∙ rw (m, take-length) (passed _ _ _ f); answer-is = ap (λ (k : ℕ). at + k) m ∙ passed _ _ _ f }

pub put-not : (at : ℕ) (t b : List ℕ) → length b < at + length t → Put at t b b at
unfolding over behind
put-not at t b h =
    let f = lt-leb (at + length t) (length b) h in record { after_is = refused _ _ _ f; answer-is = refused _ _ _ f }

-- the same text, said otherwise
pub put_as : (at : ℕ) (t u b e : List ℕ) (r : ℕ) → t ≡ u → Put at t b e r → Put at u b e r
put_as at t u b e r h p = subst (λ v. Put at v b e r) h p

-- bytes keep their number
placed-length : (at : ℕ) (t b e : List ℕ) (r : ℕ) → at + length t ≤ length b → Placed at t b e r → length e ≡ length b
placed-length at t b e r h p =
    ap length p.after_is ∙ length-append (take at b ++ t) (drop (at + length t) b)
    ∙ omega (arith, length-append (take at b) t, length-take-le at b (omega arith), length-drop (at + length t) b)

-- a text put inside ends inside
pub put-inside : (at : ℕ) (t b e : List ℕ) (r : ℕ) → at ≤ length b → Put at t b e r → r ≤ length e
put-inside at t b e r h p = by_side (dec_le (at + length t) (length b))
  where
    by_side : Dec (at + length t ≤ length b) → r ≤ length e
    by_side (yes l) = let q = put-fits at t b e r l p in omega (arith, placed-length at t b e r l q)
    by_side (no l) =
        let q = put-not at t b (omega arith) in
        omega (arith, p.answer-is ∙ sym q.answer-is, ap length (p.after_is ∙ sym q.after_is))

-- no text
pub placed-none : (at : ℕ) (b : List ℕ) → Placed at [] b b at
placed-none at b =
    record {
      after_is = sym (ap₂ (λ x k. x ++ drop k b) (append-nil (take at b)) (add-zero at) ∙ take-append-drop at b);
      answer-is = sym (add-zero at);
    }

-- two texts, one behind the other
pub placed-then : {at : ℕ} {t u b m e : List ℕ} {r s : ℕ} → r ≤ length b → Placed at t b m r → Placed r u m e s → Placed at (t ++ u) b e s
placed-then {at} {t} {u} {b} {m} {e} {r} {s} fits p q =
    record {
      after_is = q.after_is ∙ rw (front, back, append_assoc (take at b) t u);
      answer-is = omega (arith, p.answer-is, q.answer-is, length-append t u);
    }
  where
    head : length (take at b ++ t) ≡ r
    head = length-append (take at b) t ∙ omega (arith, p.answer-is, length-take-le at b (omega (arith, p.answer-is)))

    front : take r m ≡ take at b ++ t
    front = ap (take r) p.after_is ∙ take_at (take at b ++ t) _ r head

    both : at + length t + length u ≡ at + length (t ++ u)
    both = omega (arith, length-append t u)

    back : drop (r + length u) m ≡ drop (at + length (t ++ u)) b
    back =
        ap₂ (λ k l. drop (k + length u) l) (sym head) p.after_is
        ∙ drop-append-add (take at b ++ t) _ (length u)
        ∙ drop-drop (length u) (at + length t) b
        ∙ ap (λ k. drop k b) both

pub placed-as : (at : ℕ) (t u b e : List ℕ) (r : ℕ) → t ≡ u → Placed at t b e r → Placed at u b e r
placed-as at t u b e r h p = subst (λ v. Placed at v b e r) h p

-- a text placed at the start ends inside, and is what stands before its end
pub placed-inside : (t b e : List ℕ) (r : ℕ) → Placed 0 t b e r → r ≤ length e
placed-inside t b e r p = omega (arith, p.answer-is, ap length p.after_is, length-append t (drop (0 + length t) b))

pub placed_first : (t b e : List ℕ) (r : ℕ) → Placed 0 t b e r → take r e ≡ t
placed_first t b e r p = ap (take r) p.after_is ∙ take_at t (drop (0 + length t) b) r (omega (arith, p.answer-is))
