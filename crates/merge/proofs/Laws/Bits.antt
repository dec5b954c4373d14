-- The bit test of a merged batch. A test of its columns finds none before a place where that of the first finds none before the part of it
-- that lies in the first batch, and that of the second none before the part in the second.
-- Assumes nothing.
use Rattle.std.specs.Prelude.{◌≡◌, refl, ◌⊎◌, Bool, true, false, cond, not, List, ℕ, ◌+◌, ◌-◌, ◌*◌, ◌/◌, ◌%◌, ◌≤◌, ◌<◌, leb, length, Err, Some, None, Ok, Option}
use Rattle.std.proofs.Common.{sym, ap, ap₂, subst, ◌∙◌, inl, inr, ⊎_elim, mod-lt, div-add-mod', div-lt_iff_lt-mul, mul-le-mul_right, arith, leb-true, leb-false}
use Rattle.std.proofs.Math.Decide.{dec_lt}
use Rattle.std.proofs.Math.Arith.{digits_lt}
use Rattle.base.specs.Laws.Tests.{passed, refused}
use Rattle.field.specs.Gf.{is_bit}
use Rattle.layout.specs.Batch.{allowed, column_at, batch_words}
use Rattle.layout.specs.Laws.Mapping.{witness-column, column_fits}
use Rattle.layout.specs.Laws.Sizes.{allowed-range}
use Rattle.verdict.specs.Bits.{above_one, bit_tested}
use Rattle.verdict.specs.Laws.BitTest.{all-bits-said, not-bit-named, Above, none, found, above}
use Rattle.verdict.specs.declared.bits.NotBit.{NotBit}
use Rattle.merge.specs.Merged.{merged}
use Rattle.merge.specs.Joined.{joined_bits, in_first, in_second}
use Rattle.merge.specs.Merging.{Bits}
use Rattle.merge.specs.Laws.Columns.{merged-length, first-element, second-element}
use Rattle.layout.specs.Questions.{Answer}

-- ---- places by column and cycle

-- of columns of n cycles each, one before another: its column is the smaller, or they are in one column and its cycle is the smaller
before : (n c d e f : ℕ) → d < n → f < n → c * n + d < e * n + f → (c < e) ⊎ ((c ≡ e) × (d < f))
before n c d e f hd hf h =
    elim (dec_lt c e) [
      | yes l ↦ inl l
      | no g ↦ elim (dec_lt e c) [
        | yes l ↦ absurd (let m : e * n + f < c * n = digits_lt l hf in omega arith)
        | no k ↦ let q : c ≡ e = omega arith in inr (q, let m : c * n ≡ e * n = ap (λ (x : ℕ). x * n) q in omega arith)
      ]
    ]

smaller-column : (n c d e f : ℕ) → d < n → c < e → c * n + d < e * n + f
smaller-column n c d e f hd l = let m : c * n + d < e * n = digits_lt l hd in omega arith

-- ---- a test of the larger batch's columns that is, column by column, a test of the first's and one of the second's

module _ (cpi : ℕ) (some : 0 < cpi) (t t₁ t₂ : ℕ → Bool)
    (in-first : (c d : ℕ) → c < 2048 → d < cpi → t (c * (2 * cpi) + d) ≡ t₁ (c * cpi + d))
    (in-second : (c d : ℕ) → c < 2048 → d < cpi → t (c * (2 * cpi) + (cpi + d)) ≡ t₂ (c * cpi + d)) where
  pub none_before : (x x₁ x₂ : ℕ) → x ≤ 2048 * (2 * cpi)
      → ((c d : ℕ) → c < 2048 → d < cpi → c * (2 * cpi) + d < x → c * cpi + d < x₁)
      → ((c d : ℕ) → c < 2048 → d < cpi → c * (2 * cpi) + (cpi + d) < x → c * cpi + d < x₂)
      → ((k : ℕ) → k < x₁ → t₁ k ≡ false) → ((k : ℕ) → k < x₂ → t₂ k ≡ false) → (k : ℕ) → k < x → t k ≡ false
  none_before x x₁ x₂ inside one two none₁ none₂ k h =
      let twice : 0 < 2 * cpi = omega arith in
      let c = k / (2 * cpi) in let d = k % (2 * cpi) in
      let hc : c < 2048 = (div-lt_iff_lt-mul twice).1 (omega arith) in let hd : d < 2 * cpi = mod-lt k twice in
      let place : c * (2 * cpi) + d ≡ k = div-add-mod' k (2 * cpi) in
      elim (dec_lt d cpi) [
        | yes l ↦ ap t (sym place) ∙ in-first c d hc l ∙ none₁ (c * cpi + d) (one c d hc l (omega arith))
        | no f ↦
            let back : cpi + (d - cpi) ≡ d = omega arith in let l : d - cpi < cpi = omega arith in
            ap t (sym place ∙ ap (λ (e : ℕ). c * (2 * cpi) + e) (sym back)) ∙ in-second c (d - cpi) hc l
            ∙ none₂ (c * cpi + (d - cpi)) (two c (d - cpi) hc l (omega arith))
      ]

  -- none at all, where there is none in either
  pub none-merged : ((k : ℕ) → k < 2048 * cpi → t₁ k ≡ false) → ((k : ℕ) → k < 2048 * cpi → t₂ k ≡ false)
      → (k : ℕ) → k < 2048 * (2 * cpi) → t k ≡ false
  none-merged =
      none_before (2048 * (2 * cpi)) (2048 * cpi) (2048 * cpi) (omega arith) (λ c d h l m. digits_lt h l) (λ c d h l m. digits_lt h l)

-- ---- the bit test

module _ (cpi : ℕ) (first second : List ℕ) where
  pub above-first : (c d : ℕ) → c < 2048 → d < cpi → above_one (merged cpi first second) (c * (2 * cpi) + d) ≡ above_one first (c * cpi + d)
  above-first c d h l = ap (λ x. not (is_bit x)) (first-element cpi first second c d h l)

  pub above-second : (c d : ℕ) → c < 2048 → d < cpi → above_one (merged cpi first second) (c * (2 * cpi) + (cpi + d)) ≡ above_one second (c * cpi + d)
  above-second c d h l = ap (λ x. not (is_bit x)) (second-element cpi first second c d h l)

module _ (cpi : ℕ) (first second : List ℕ) (size : allowed cpi ≡ true) (twice : allowed (2 * cpi) ≡ true)
    (len : length first ≡ batch_words cpi) (long : length second ≡ batch_words cpi) where
  abbrev batch : List ℕ
  batch = merged cpi first second

  some : 0 < cpi
  some = (allowed-range cpi size).0

  abbrev Clean : List ℕ → ℕ → Type 0
  Clean words x = (k : ℕ) → k < x → above_one words k ≡ false

  clean-before : (x x₁ x₂ : ℕ) → x ≤ 2048 * (2 * cpi)
      → ((c d : ℕ) → c < 2048 → d < cpi → c * (2 * cpi) + d < x → c * cpi + d < x₁)
      → ((c d : ℕ) → c < 2048 → d < cpi → c * (2 * cpi) + (cpi + d) < x → c * cpi + d < x₂)
      → Clean first x₁ → Clean second x₂ → Clean batch x
  clean-before = none_before cpi some (above_one batch) (above_one first) (above_one second) (above-first cpi first second) (above-second cpi first second)

  -- the first's column c of cycle d, where the second has none before it in columns up to c
  found_first : (c d : ℕ) → c < 2048 → d < cpi → above_one first (column_at cpi c d) ≡ true → Clean first (column_at cpi c d)
      → (x₂ : ℕ) → Clean second x₂ → c * cpi ≤ x₂ → bit_tested (2 * cpi) batch ≡ in_first cpi c d
  found_first c d hc hd e none₁ x₂ none₂ m =
      let at : column_at (2 * cpi) c d ≡ c * (2 * cpi) + d = witness-column (2 * cpi) c d hc in
      let at₁ : column_at cpi c d ≡ c * cpi + d = witness-column cpi c d hc in
      let x : c * (2 * cpi) + d < 2048 * (2 * cpi) = digits_lt hc (omega arith) in
      not-bit-named (2 * cpi) batch twice (merged-length cpi first second) c d hc (omega arith)
      (ap (above_one batch) at ∙ above-first cpi first second c d hc hd ∙ ap (above_one first) (sym at₁) ∙ e)
      (subst (Clean batch) (sym at)
      (clean-before (c * (2 * cpi) + d) (c * cpi + d) x₂ (omega arith) one two (subst (Clean first) at₁ none₁) none₂))
    where
      one : (b f : ℕ) → b < 2048 → f < cpi → b * (2 * cpi) + f < c * (2 * cpi) + d → b * cpi + f < c * cpi + d
      one b f hb hf h =
          ⊎_elim (λ l. smaller-column cpi b f c d hf l) (λ q. let k : b * cpi ≡ c * cpi = ap (λ (n : ℕ). n * cpi) q.0 in omega (arith, q.1))
          (before (2 * cpi) b f c d (omega arith) (omega arith) h)

      two : (b f : ℕ) → b < 2048 → f < cpi → b * (2 * cpi) + (cpi + f) < c * (2 * cpi) + d → b * cpi + f < x₂
      two b f hb hf h =
          ⊎_elim (λ l. let k : b * cpi + f < c * cpi = digits_lt l hf in omega arith) (λ q. absurd (omega (arith, q.1)))
          (before (2 * cpi) b (cpi + f) c d (omega arith) (omega arith) h)

  -- the second's, where the first has none in columns up to c
  found-second : (c d : ℕ) → c < 2048 → d < cpi → above_one second (column_at cpi c d) ≡ true → Clean second (column_at cpi c d)
      → (x₁ : ℕ) → Clean first x₁ → c * cpi + cpi ≤ x₁ → bit_tested (2 * cpi) batch ≡ in_second cpi c d
  found-second c d hc hd e none₂ x₁ none₁ m =
      let at : column_at (2 * cpi) c (cpi + d) ≡ c * (2 * cpi) + (cpi + d) = witness-column (2 * cpi) c (cpi + d) hc in
      let at₂ : column_at cpi c d ≡ c * cpi + d = witness-column cpi c d hc in
      let x : c * (2 * cpi) + (cpi + d) < 2048 * (2 * cpi) = digits_lt hc (omega arith) in
      not-bit-named (2 * cpi) batch twice (merged-length cpi first second) c (cpi + d) hc (omega arith)
      (ap (above_one batch) at ∙ above-second cpi first second c d hc hd ∙ ap (above_one second) (sym at₂) ∙ e)
      (subst (Clean batch) (sym at)
      (clean-before (c * (2 * cpi) + (cpi + d)) x₁ (c * cpi + d) (omega arith) one two none₁ (subst (Clean second) at₂ none₂)))
    where
      one : (b f : ℕ) → b < 2048 → f < cpi → b * (2 * cpi) + f < c * (2 * cpi) + (cpi + d) → b * cpi + f < x₁
      one b f hb hf h =
          ⊎_elim (λ l. let k : b * cpi + f < c * cpi = digits_lt l hf in omega arith)
          (λ q. let k : b * cpi ≡ c * cpi = ap (λ (n : ℕ). n * cpi) q.0 in omega arith)
          (before (2 * cpi) b f c (cpi + d) (omega arith) (omega arith) h)

      two : (b f : ℕ) → b < 2048 → f < cpi → b * (2 * cpi) + (cpi + f) < c * (2 * cpi) + (cpi + d) → b * cpi + f < c * cpi + d
      two b f hb hf h =
          ⊎_elim (λ l. smaller-column cpi b f c d hf l) (λ q. let k : b * cpi ≡ c * cpi = ap (λ (n : ℕ). n * cpi) q.0 in omega (arith, q.1))
          (before (2 * cpi) b (cpi + f) c (cpi + d) (omega arith) (omega arith) h)

  -- ---- every pair of answers

  answered : Above cpi first size len → Above cpi second size long
      → bit_tested (2 * cpi) batch ≡ joined_bits cpi (bit_tested cpi first) (bit_tested cpi second)
  answered (none p) (none q) =
      all-bits-said (2 * cpi) batch twice (merged-length cpi first second)
      (none-merged cpi some (above_one batch) (above_one first) (above_one second) (above-first cpi first second) (above-second cpi first second) p q)
      ∙ sym (ap₂ (joined_bits cpi) (all-bits-said cpi first size len p) (all-bits-said cpi second size long q))
  answered (found c d hc hd e p) (none q) =
      found_first c d hc hd e p (2048 * cpi) q (mul-le-mul_right cpi (omega arith))
      ∙ sym (ap₂ (joined_bits cpi) (not-bit-named cpi first size len c d hc hd e p) (all-bits-said cpi second size long q))
  answered (none p) (found c d hc hd e q) =
      found-second c d hc hd e q (2048 * cpi) p (column_fits cpi c some hc)
      ∙ sym (ap₂ (joined_bits cpi) (all-bits-said cpi first size len p) (not-bit-named cpi second size long c d hc hd e q))
  answered (found c d hc hd e p) (found b f hb hf g q) =
      by-column (leb c b) refl
      ∙ sym (ap₂ (joined_bits cpi) (not-bit-named cpi first size len c d hc hd e p) (not-bit-named cpi second size long b f hb hf g q))
    where
      by-column : (t : Bool) → leb c b ≡ t → bit_tested (2 * cpi) batch ≡ cond (leb c b) (in_first cpi c d) (in_second cpi b f)
      by-column true l =
          let m : c * cpi ≤ b * cpi = mul-le-mul_right cpi (leb-true c b l) in
          found_first c d hc hd e p (column_at cpi b f) q (omega (arith, witness-column cpi b f hb)) ∙ passed _ _ _ l
      by-column false l =
          let m : (b + 1) * cpi ≤ c * cpi = mul-le-mul_right cpi (omega (arith, leb-false c b l)) in
          found-second b f hb hf g q (column_at cpi c d) p (omega (arith, witness-column cpi c d hc)) ∙ refused _ _ _ l

  all-joined : (v w : Answer (Option NotBit)) → joined_bits cpi v w ≡ Ok None → (v ≡ Ok None) × (w ≡ Ok None)
  all-joined (Ok None) (Ok None) e = (refl, refl)
  all-joined (Ok None) (Ok (Some b)) e = let z : ◌≡◌ {A = ℕ} 0 1 = cc in absurd (omega arith)
  all-joined (Ok None) (Err r) e = let z : ◌≡◌ {A = ℕ} 0 1 = cc in absurd (omega arith)
  all-joined (Err r) w e = let z : ◌≡◌ {A = ℕ} 0 1 = cc in absurd (omega arith)
  all-joined (Ok (Some a)) (Ok None) e = let z : ◌≡◌ {A = ℕ} 0 1 = cc in absurd (omega arith)
  all-joined (Ok (Some a)) (Err r) e = let z : ◌≡◌ {A = ℕ} 0 1 = cc in absurd (omega arith)
  all-joined (Ok (Some a)) (Ok (Some b)) e = by-column (leb a.column b.column) e
    where
      by-column : (t : Bool) → cond t (in_first cpi a.column a.cycle) (in_second cpi b.column b.cycle) ≡ Ok None
          → (◌≡◌ {A = Answer (Option NotBit)} (Ok (Some a)) (Ok None)) × (◌≡◌ {A = Answer (Option NotBit)} (Ok (Some b)) (Ok None))
      by-column true e = let z : ◌≡◌ {A = ℕ} 0 1 = cc in absurd (omega arith)
      by-column false e = let z : ◌≡◌ {A = ℕ} 0 1 = cc in absurd (omega arith)

  pub bits : Bits cpi first second batch
  bits =
      let is = answered (above cpi first size len) (above cpi second size long) in
      record {
        answer = is;
        all = (
          λ e. all-joined (bit_tested cpi first) (bit_tested cpi second) (sym is ∙ e),
          λ h. is ∙ ap₂ (joined_bits cpi) h.0 h.1,
        );
      }
