-- The columns of a merged batch, and its cycles as the check sees them: those of its parts, public columns included.
-- Assumes nothing.
use Rattle.std.specs.Prelude.{◌≡◌, refl, List, ℕ, ◌+◌, ◌-◌, ◌*◌, ◌/◌, ◌%◌, ◌≤◌, ◌<◌, length}
use Rattle.std.proofs.Math.Path.{sym, ap, ap₂}
use Rattle.std.proofs.Common.{◌∙◌, add-zero, zero-add, lt-ltb, le-ltb}
use Rattle.std.proofs.Math.Decide.{dec_lt}
use native.Mathlib.Omega.{arith}
use Rattle.std.proofs.Math.Arith.{digits_lt, digits_div, digits_mod}
use Rattle.std.proofs.Math.ListN.{get_or, get_or-eq_default}
use Rattle.base.specs.Laws.From.{length_from, get_or-from}
use Rattle.base.specs.Laws.Tests.{passed, refused}
use Rattle.field.specs.Gf.{of_words}
use Rattle.field.specs.Gf.Laws.{words-zero}
use Rattle.layout.specs.Batch.{batch_words}
use Rattle.layout.specs.Laws.Mapping.{witness-column, public-column}
use Rattle.verdict.specs.Row.{element_at, cycle_of}
use Rattle.merge.specs.Merged.{cycle_word, lower_word, public_word, merged_word, merged}
use Rattle.merge.specs.Merging.{Columns}

-- the public columns of two batches are equal
abbrev pub SamePublic : ℕ → List ℕ → List ℕ → Type 0
SamePublic cpi first second = (x : ℕ) → 2048 * cpi ≤ x → x < 4096 * cpi → element_at first x ≡ element_at second x

-- behind the end there are zeros
past_end : (words : List ℕ) (n k : ℕ) → length words ≡ n → n ≤ k → get_or words k 0 ≡ 0
past_end words n k e h = get_or-eq_default words 0 (omega arith)

module _ (cpi : ℕ) (first second : List ℕ) where
  abbrev batch : List ℕ
  batch = merged cpi first second

  pub merged-length : length batch ≡ batch_words (2 * cpi)
  unfolding merged
  merged-length = length_from (merged_word cpi first second) (batch_words (2 * cpi)) 0

  -- ---- words

  pub lower-part : (k : ℕ) → k < 8192 * cpi → merged_word cpi first second k ≡ lower_word cpi first second k
  unfolding merged_word
  lower-part k h = sym (passed _ _ _ (lt-ltb k (8192 * cpi) h))

  pub public-part : (k : ℕ) → 8192 * cpi ≤ k → k < 12288 * cpi → merged_word cpi first second k ≡ get_or first (4096 * cpi + (k - 8192 * cpi)) 0
  unfolding merged_word public_word
  public-part k l h =
      sym
      (passed _ _ _ (lt-ltb (k - 8192 * cpi) (4096 * cpi) (omega arith)) ∙ refused _ (lower_word cpi first second k) _ (le-ltb k (8192 * cpi) l))

  pub zero-part : (k : ℕ) → 12288 * cpi ≤ k → merged_word cpi first second k ≡ 0
  unfolding merged_word public_word
  zero-part k l =
      sym
      (refused _ (get_or first (4096 * cpi + (k - 8192 * cpi)) 0) _ (le-ltb (k - 8192 * cpi) (4096 * cpi) (omega arith))
      ∙ refused _ (lower_word cpi first second k) _ (le-ltb k (8192 * cpi) (omega arith)))

  -- word r of column c of cycle d, by its index
  pub lower-is : (c d r k : ℕ) → d < 2 * cpi → r < 2 → k ≡ 2 * (c * (2 * cpi) + d) + r
      → lower_word cpi first second k ≡ cycle_word cpi first second c d r
  unfolding lower_word
  lower-is c d r k l s e =
      let middle : k / 2 ≡ c * (2 * cpi) + d = omega arith in let parity : k % 2 ≡ r = omega arith in
      ap₂ (λ (y t : ℕ). cycle_word cpi first second (y / (2 * cpi)) (y % (2 * cpi)) t) middle parity
      ∙ ap₂ (λ (u v : ℕ). cycle_word cpi first second u v r) (digits_div c l) (digits_mod c l)

  pub word_first : (c d r : ℕ) → d < cpi → cycle_word cpi first second c d r ≡ get_or first (2 * (c * cpi + d) + r) 0
  unfolding cycle_word
  word_first c d r h = sym (passed _ _ _ (lt-ltb d cpi h))

  pub word-second : (c d r : ℕ) → cycle_word cpi first second c (cpi + d) r ≡ get_or second (2 * (c * cpi + d) + r) 0
  unfolding cycle_word
  word-second c d r =
      let e : cpi + d - cpi ≡ d = omega arith in
      sym (refused _ _ _ (le-ltb (cpi + d) cpi (omega arith))) ∙ ap (λ (n : ℕ). get_or second (2 * (c * cpi + n) + r) 0) e

  -- of the list: a word of it, and behind its end 0
  word_at : (k : ℕ) → k < 16384 * cpi → get_or batch k 0 ≡ merged_word cpi first second k
  unfolding merged
  word_at k h =
      get_or-from (merged_word cpi first second) 0 (batch_words (2 * cpi)) 0 k (omega arith) ∙ ap (merged_word cpi first second) (zero-add k)

  word-past : (k : ℕ) → 16384 * cpi ≤ k → get_or batch k 0 ≡ 0
  word-past k h = past_end batch (batch_words (2 * cpi)) k merged-length (omega arith)

  lower_word_lem : (c d r : ℕ) → c < 2048 → d < 2 * cpi → r < 2
      → get_or batch (2 * (c * (2 * cpi) + d) + r) 0 ≡ cycle_word cpi first second c d r
  lower_word_lem c d r h l s =
      let inside : c * (2 * cpi) + d < 2048 * (2 * cpi) = digits_lt h l in let k = 2 * (c * (2 * cpi) + d) + r in
      word_at k (omega arith) ∙ lower-part k (omega arith) ∙ lower-is c d r k l s refl

  -- ---- elements

  element : (x y : ℕ) (words : List ℕ) → ((r : ℕ) → r < 2 → get_or batch (2 * x + r) 0 ≡ get_or words (2 * y + r) 0)
      → element_at batch x ≡ element_at words y
  element x y words h =
      ap₂ of_words
      (ap (λ (n : ℕ). get_or batch n 0) (sym (add-zero (2 * x))) ∙ h 0 (omega arith) ∙ ap (λ (n : ℕ). get_or words n 0) (add-zero (2 * y)))
      (h 1 (omega arith))

  pub first-element : (c d : ℕ) → c < 2048 → d < cpi → element_at batch (c * (2 * cpi) + d) ≡ element_at first (c * cpi + d)
  first-element c d h l =
      element (c * (2 * cpi) + d) (c * cpi + d) first (λ r s. lower_word_lem c d r h (omega arith) s ∙ word_first c d r l)

  pub second-element : (c d : ℕ) → c < 2048 → d < cpi → element_at batch (c * (2 * cpi) + (cpi + d)) ≡ element_at second (c * cpi + d)
  second-element c d h l =
      element (c * (2 * cpi) + (cpi + d)) (c * cpi + d) second (λ r s. lower_word_lem c (cpi + d) r h (omega arith) s ∙ word-second c d r)

  -- a public column, wherever it stands: behind the end of the given ones there are zeros, on both sides
  pub public-element : length first ≡ batch_words cpi → (p : ℕ) → element_at batch (2048 * (2 * cpi) + p) ≡ element_at first (2048 * cpi + p)
  public-element len p = element (2048 * (2 * cpi) + p) (2048 * cpi + p) first (λ r s. public-word r)
    where
      public-word : (r : ℕ) → get_or batch (2 * (2048 * (2 * cpi) + p) + r) 0 ≡ get_or first (2 * (2048 * cpi + p) + r) 0
      public-word r =
          let k = 2 * (2048 * (2 * cpi) + p) + r in
          let at : 4096 * cpi + (k - 8192 * cpi) ≡ 2 * (2048 * cpi + p) + r = omega arith in
          let behind : 12288 * cpi ≤ k → get_or first (2 * (2048 * cpi + p) + r) 0 ≡ 0 =
          λ h. past_end first (batch_words cpi) _ len (omega arith) in
          elim (dec_lt k (12288 * cpi)) [
            | yes h ↦ word_at k (omega arith) ∙ public-part k (omega arith) h ∙ ap (λ (n : ℕ). get_or first n 0) at
            | no f ↦ elim (dec_lt k (16384 * cpi)) [
              | yes h ↦ word_at k h ∙ zero-part k (omega arith) ∙ sym (behind (omega arith))
              | no g ↦ word-past k (omega arith) ∙ sym (behind (omega arith))
            ]
          ]

  -- ---- as the check sees them

  module _ (len : length first ≡ batch_words cpi) where
    public-seen : (c d e : ℕ) → 2048 ≤ c → cycle_of (2 * cpi) batch d c ≡ cycle_of cpi first e c
    unfolding cycle_of
    public-seen c d e h =
        ap (element_at batch) (public-column (2 * cpi) c d h) ∙ public-element len (c - 2048)
        ∙ ap (element_at first) (sym (public-column cpi c e h))

    -- the first's cycles
    pub seen_first : (d : ℕ) → d < cpi → (c : ℕ) → cycle_of (2 * cpi) batch d c ≡ cycle_of cpi first d c
    unfolding cycle_of
    seen_first d l c =
        elim (dec_lt c 2048) [
          | yes h ↦ ap (element_at batch) (witness-column (2 * cpi) c d h) ∙ first-element c d h l
              ∙ ap (element_at first) (sym (witness-column cpi c d h))
          | no f ↦ public-seen c d d (omega arith)
        ]

    -- and the second's, behind them
    module _ (long : length second ≡ batch_words cpi) (same : SamePublic cpi first second) where
      pub same-upper : (x : ℕ) → 2048 * cpi ≤ x → element_at first x ≡ element_at second x
      same-upper x m =
          elim (dec_lt x (4096 * cpi)) [
            | yes h ↦ same x m h
            | no f ↦ ap₂ of_words
                (past_end first (batch_words cpi) (2 * x) len (omega arith) ∙ sym (past_end second (batch_words cpi) (2 * x) long (omega arith)))
                (past_end first (batch_words cpi) (2 * x + 1) len (omega arith)
                ∙ sym (past_end second (batch_words cpi) (2 * x + 1) long (omega arith)))
          ]

      pub seen-second : (d : ℕ) → d < cpi → (c : ℕ) → cycle_of (2 * cpi) batch (cpi + d) c ≡ cycle_of cpi second d c
      unfolding cycle_of
      seen-second d l c =
          elim (dec_lt c 2048) [
            | yes h ↦ ap (element_at batch) (witness-column (2 * cpi) c (cpi + d) h) ∙ second-element c d h l
                ∙ ap (element_at second) (sym (witness-column cpi c d h))
            | no f ↦ public-seen c (cpi + d) d (omega arith)
                ∙ ap (element_at first) (public-column cpi c d (omega arith))
                ∙ same-upper (2048 * cpi + (c - 2048)) (omega arith)
                ∙ ap (element_at second) (sym (public-column cpi c d (omega arith)))
          ]

      pub columns : Columns cpi first second batch
      columns =
          record {
            words = merged-length;
            first-cycles = λ c d h l.
                ap (element_at batch) (witness-column (2 * cpi) c d h) ∙ first-element c d h l
                ∙ ap (element_at first) (sym (witness-column cpi c d h));
            second-cycles = λ c d h l.
                ap (element_at batch) (witness-column (2 * cpi) c (cpi + d) h) ∙ second-element c d h l
                ∙ ap (element_at second) (sym (witness-column cpi c d h));
            given = λ p h. (public-element len p, public-element len p ∙ same-upper (2048 * cpi + p) (omega arith));
            zeros = λ p l h.
                public-element len p
                ∙ ap₂ of_words (past_end first (batch_words cpi) _ len (omega arith)) (past_end first (batch_words cpi) _ len (omega arith))
                ∙ words-zero;
          }
