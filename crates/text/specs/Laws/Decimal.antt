-- How many decimal digits a number has, right-aligned in more bytes or less, and written from the last one on.
-- Assumes nothing.
use Rattle.std.specs.Prelude.{◌≡◌, refl, Bool, true, false, cond, List, [], ◌∷◌, ◌++◌, ltb, eqb, drop, set}
use Rattle.std.proofs.Common.{sym, ap₂, subst, ◌∙◌, pow-suc, arith, ltb-true, ltb-false, lt-ltb, eq-eqb, ne_eqb, length-append, length-set, take-append-drop, take-take, drop_at}
use Rattle.std.proofs.Math.Path.{ap}
use Prim.Native.Nat.{ℕ, zero, suc, ◌-◌, ◌/◌, ◌%◌, ◌^◌, ◌≤◌, ◌<◌}
use Rattle.std.proofs.Math.ListN.{length, take}
use Rattle.std.proofs.lemmas.List.{length-replicate, take-set-le, drop-append-le}
use Rattle.std.proofs.Math.Seq.{take_all}
use Rattle.base.specs.Text.{blanks}
use Rattle.base.specs.Laws.Tests.{passed, refused}
use Rattle.text.specs.declared.Decimal.{Decimal}
use Rattle.text.specs.Decimal.{decimal_of}
use Rattle.text.specs.Digits.{digit, decimal_in, decimal, right}
use Rattle.text.specs.Laws.Blanks.{blanks-less, blanks-first, digit-before}

-- the digits before the last: none where nothing is left
abbrev higher : ℕ → ℕ → List ℕ
higher k n = cond (eqb n 0) [] (decimal_in k n)

decimal-last : (k n : ℕ) → decimal_in (suc k) n ≡ higher k (n / 10) ++ (digit (n % 10) ∷ [])
unfolding decimal_in
decimal-last k n = by-test (ltb n 10) refl
  where
    by-test : (b : Bool) → ltb n 10 ≡ b
        → cond b (digit n ∷ []) (decimal_in k (n / 10) ++ (digit (n % 10) ∷ [])) ≡ higher k (n / 10) ++ (digit (n % 10) ∷ [])
    by-test true e =
        let h = ltb-true n 10 e in let same : n % 10 ≡ n = omega arith in
        ap (λ (d : ℕ). digit d ∷ []) (sym same)
        ∙ ap (λ (front : List ℕ). front ++ (digit (n % 10) ∷ [])) (passed (eqb (n / 10) 0) [] (decimal_in k (n / 10)) (eq-eqb (n / 10) 0
        (omega arith)))
    by-test false e =
        let h = ltb-false n 10 e in
        ap (λ (front : List ℕ). front ++ (digit (n % 10) ∷ [])) (refused (eqb (n / 10) 0) [] (decimal_in k (n / 10)) (ne_eqb (n / 10) 0
        (λ q. omega arith)))

-- at most k digits, and at most w of a number below 10 ^ w
pub decimal-most : (k n : ℕ) → length (decimal_in k n) ≤ k
unfolding decimal_in
decimal-most zero n = omega arith
decimal-most (suc k) n = by-test (ltb n 10) (decimal-most k (n / 10))
  where
    by-test : (b : Bool) → length (decimal_in k (n / 10)) ≤ k
        → length (cond b (digit n ∷ []) (decimal_in k (n / 10) ++ (digit (n % 10) ∷ []))) ≤ suc k
    by-test true h = omega arith
    by-test false h = simp length-append (omega arith)

decimal-few : (w k n : ℕ) → n < 10 ^ suc w → length (decimal_in k n) ≤ suc w
unfolding decimal_in
decimal-few w zero n h = omega arith
decimal-few zero (suc k) n h = omega (
  arith,
  ap length (sym (passed (ltb n 10) (digit n ∷ []) (decimal_in k (n / 10) ++ (digit (n % 10)
      ∷ [])) (lt-ltb n 10 h))),
)
decimal-few (suc w) (suc k) n h =
    let p = pow-suc 10 (suc w) in by-test (ltb n 10) (decimal-few w k (n / 10) (omega arith))
  where
    by-test : (b : Bool) → length (decimal_in k (n / 10)) ≤ suc w
        → length (cond b (digit n ∷ []) (decimal_in k (n / 10) ++ (digit (n % 10) ∷ []))) ≤ suc (suc w)
    by-test true l = omega arith
    by-test false l = omega (arith, length-append (decimal_in k (n / 10)) (digit (n % 10) ∷ []))

-- ---- right-aligned

pub right-length : (w n : ℕ) → length (decimal n) ≤ w → length (right w n) ≡ w
unfolding right
right-length w n h = length-append (blanks (w - length (decimal n))) (decimal n) ∙ omega (
  arith,
  length-replicate {A = ℕ} (w - length
      (decimal n)) 0x20,
)

-- in less of a width, where that is enough
right-narrow : (v w n : ℕ) → length (decimal n) ≤ w → w ≤ v → drop (v - w) (right v n) ≡ right w n
unfolding right
right-narrow v w n h l =
    drop-append-le (v - w) (blanks (v - length (decimal n))) (decimal n) (omega (
      arith,
      length-replicate {A = ℕ} (v - length
          (decimal n)) 0x20,
    ))
    ∙ ap (λ (b : List ℕ). b ++ decimal n) (blanks-less (v - length (decimal n)) (v - w) ∙ ap blanks less)
  where
    less : v - length (decimal n) - (v - w) ≡ w - length (decimal n)
    less = omega arith

-- a number below 10 ^ w fits in w
pub right-fits : (w n : ℕ) → 0 < w → n < 10 ^ w → length (decimal n) ≤ w
right-fits zero n l h = absurd (omega arith)
right-fits (suc w) n l h = decimal-few w 20 n h

-- the digits by themselves, of what `decimal_digits` answers
module _ (n : ℕ) (d : Decimal) (h : d ≡ decimal_of n) where
  pub decimal-starts : d.start ≤ 20
  unfolding decimal_of
  decimal-starts = omega (arith, ap (λ e. e.start) h)

  pub decimal-bytes : length d.bytes ≡ 20
  unfolding decimal_of
  decimal-bytes = ap (λ e. length e.bytes) h ∙ right-length 20 n (decimal-most 20 n)

  pub decimal-tail : take (20 - d.start) (drop d.start d.bytes) ≡ decimal n
  unfolding decimal_of right
  decimal-tail =
      ap (λ e. take (20 - e.start) (drop e.start e.bytes)) h
      ∙ ap (take (20 - start)) (drop_at (blanks start) (decimal n) start (length-replicate {A = ℕ} start 0x20))
      ∙ take_all (20 - start) (decimal n) (omega (arith, decimal-most 20 n))
    where
      start : ℕ
      start = 20 - length (decimal n)

  -- in less than 20 bytes
  pub decimal-narrow : (w : ℕ) → 0 < w → w ≤ 20 → n < 10 ^ w → take (20 - (20 - w)) (drop (20 - w) d.bytes) ≡ right w n
  unfolding decimal_of
  decimal-narrow w l m f =
      ap (λ e. take (20 - (20 - w)) (drop (20 - w) e.bytes)) h
      ∙ ap (take (20 - (20 - w))) (right-narrow 20 w n (right-fits w n l f) m)
      ∙ take_all (20 - (20 - w)) (right w n) (omega (arith, right-length w n (right-fits w n l f)))

-- ---- the decimal digits, written from the last one on: blanks before them, and what is left of the number goes there

pub record Begun (n rest start : ℕ) (bytes : List ℕ) : Type 0 where
  pub width : length bytes ≡ 20
  pub inside : start < 20
  pub room : rest < 10 ^ start
  pub blank : take start bytes ≡ blanks start
  pub digits : decimal n ≡ higher start rest ++ drop start bytes

pub begun : (n : ℕ) → n < 2 ^ 64 → Begun n (n / 10) 19 (set (blanks 20) 19 (digit (n % 10)))
begun n h = record { width = refl; inside = omega arith; room = omega arith; blank = refl; digits = decimal-last 19 n }

-- where more is left, there is room for one more digit
pub begun-room : (n rest start : ℕ) (bytes : List ℕ) → 0 < rest → Begun n rest start bytes → 1 ≤ start
begun-room n rest zero bytes h b = absurd (let r = b.room in omega arith)
begun-room n rest (suc start) bytes h b = omega arith

more : (n rest start : ℕ) (bytes : List ℕ) → 0 < rest → Begun n rest (suc start) bytes
    → Begun n (rest / 10) start (set bytes start (digit (rest % 10)))
more n rest start bytes h b =
    record {
      width = length-set bytes start _ ∙ b.width;
      inside = let l = b.inside in omega arith;
      room = let p = pow-suc 10 start in let r = b.room in omega arith;
      blank = take-set-le start bytes start _ (omega arith) ∙ sym (take-take start (suc start) bytes (omega arith))
          ∙ ap (take start) b.blank ∙ blanks-first start (suc start) (omega arith);
      digits =
          b.digits
          ∙ ap (λ (front : List ℕ). front ++ drop (suc start) bytes)
          (sym (refused (eqb rest 0) [] (decimal_in (suc start) rest) (ne_eqb rest 0 (λ q. omega arith))) ∙ decimal-last start rest)
          ∙ digit-before (higher start (rest / 10)) bytes start (digit (rest % 10)) (omega (arith, b.width, b.inside));
    }

pub begun_more : (n rest start : ℕ) (bytes : List ℕ) → 0 < rest → Begun n rest start bytes
    → Begun n (rest / 10) (start - 1) (set bytes (start - 1) (digit (rest % 10)))
begun_more n rest zero bytes h b = absurd (let r = b.room in omega arith)
begun_more n rest (suc start) bytes h b =
    subst (λ (k : ℕ). Begun n (rest / 10) k (set bytes k (digit (rest % 10)))) (omega arith) (more n rest start bytes h b)

pub begun_all : (n rest start : ℕ) (bytes : List ℕ) → rest ≤ 0 → Begun n rest start bytes
    → ◌≡◌ {A = Decimal} (record { bytes = bytes; start = start }) (decimal_of n)
unfolding decimal_of right
begun_all n rest start bytes h b = λ i. record { bytes = (whole ∙ ap (λ (k : ℕ). blanks k ++ decimal n) start_is) i; start = start_is i }
  where
    whole : bytes ≡ blanks start ++ decimal n
    whole = sym (take-append-drop start bytes) ∙ ap₂ ◌++◌ b.blank (sym (b.digits ∙ ap (λ (front : List ℕ). front ++ drop start bytes)
        (sym (passed (eqb rest 0) [] (decimal_in start rest) (eq-eqb rest 0 (omega arith))))))

    start_is : start ≡ 20 - length (decimal n)
    start_is = omega (arith, ap length whole, b.width, length-append (blanks start) (decimal n), length-replicate {A = ℕ} start 0x20)
