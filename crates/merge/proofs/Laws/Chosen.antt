-- Batches of any size from any choice of bits, merged: the merge of two is the batch of both choices, the first's cycles before the second's.
-- The filler refuses neither, so what is said of fillings is said of these.
-- Assumes nothing.
use Rattle.std.specs.Prelude.{◌≡◌, Bool, true, cond, List, ℕ, ◌+◌, ◌-◌, ◌*◌, ◌/◌, ◌%◌, ◌≤◌, ◌<◌, ltb, eqb, length}
use Rattle.std.proofs.Math.Path.{sym, ap}
use Rattle.std.proofs.Common.{◌∙◌, mod-lt, div-add-mod', div-lt_iff_lt-mul, lt-ltb, le-ltb}
use Rattle.std.proofs.Math.Decide.{dec_lt}
use native.Mathlib.Omega.{arith}
use Rattle.base.specs.Laws.Tests.{passed, refused}
use Rattle.field.specs.Gf.{of_bit}
use Rattle.layout.specs.Batch.{allowed, column_at, batch_words}
use Rattle.layout.specs.Questions.{Left}
use Rattle.layout.specs.Laws.Mapping.{witness-column, public-column}
use Rattle.layout.specs.Laws.Questions.{called-yes}
use Rattle.layout.specs.Laws.Sizes.{allowed-range}
use Rattle.verdict.specs.Row.{element_at, cycle_of}
use Rattle.step.specs.Filling.{filled}
use Rattle.step.proofs.Laws.Chosen.{batch_of, batch-length, with_one, cycle-is}
use Rattle.step.proofs.Laws.FillingElements.{by-elements}
use Rattle.merge.specs.Merged.{merged}
use Rattle.merge.specs.Calls.{merge_asked, merge_called}
use Rattle.merge.specs.Laws.Answers.{fitting-yes}
use Rattle.merge.specs.Laws.Columns.{SamePublic, merged-length, seen_first, seen-second}
use Rattle.merge.proofs.Laws.Filling.{merged-filling}

-- batches whose cycles are seen alike are the same
by-cycles : (n : ℕ) (u w : List ℕ) → 0 < n → length u ≡ length w → ((d : ℕ) → d < n → (c : ℕ) → cycle_of n u d c ≡ cycle_of n w d c) → u ≡ w
unfolding cycle_of
by-cycles n u w some l same = by-elements u w l (λ x. at x)
  where
    at : (x : ℕ) → element_at u x ≡ element_at w x
    at x =
        elim (dec_lt x (2048 * n)) [
          | yes h ↦
              let c = x / n in let d = x % n in let hc : c < 2048 = (div-lt_iff_lt-mul some).1 h in
              let place : column_at n c d ≡ x = witness-column n c d hc ∙ div-add-mod' x n in
              ap (element_at u) (sym place) ∙ same d (mod-lt x some) c ∙ ap (element_at w) place
          | no f ↦
              let c = 2048 + (x - 2048 * n) in
              let place : column_at n c 0 ≡ x = public-column n c 0 (omega arith) ∙ omega arith in
              ap (element_at u) (sym place) ∙ same 0 some c ∙ ap (element_at w) place
        ]

-- the bits of both choices: those of the first for its cycles, and then those of the second
abbrev pub both_choices : ℕ → (ℕ → ℕ → Bool) → (ℕ → ℕ → Bool) → ℕ → ℕ → Bool
both_choices cpi b b₂ d = cond (ltb d cpi) (b d) (b₂ (d - cpi))

module _ (cpi : ℕ) (size : allowed cpi ≡ true) (few : cpi ≤ 128) (b b₂ : ℕ → ℕ → Bool) where
  abbrev first : List ℕ
  first = batch_of cpi b

  abbrev second : List ℕ
  second = batch_of cpi b₂

  some : 0 < cpi
  some = (allowed-range cpi size).0

  -- from the one column on every choice has 1 and then zeros
  public-is : (a : ℕ → ℕ → Bool) (x : ℕ) → 2048 * cpi ≤ x → element_at (batch_of cpi a) x ≡ of_bit (eqb (2048 + (x - 2048 * cpi)) 2048)
  unfolding cycle_of
  public-is a x l =
      let c = 2048 + (x - 2048 * cpi) in
      let place : column_at cpi c 0 ≡ x = public-column cpi c 0 (omega arith) ∙ omega arith in
      ap (element_at (batch_of cpi a)) (sym place) ∙ cycle-is cpi some a 0 some c
      ∙ ap of_bit (sym (refused _ (a 0 c) (eqb c 2048) (le-ltb c 2048 (omega arith))))

  same-public : SamePublic cpi first second
  same-public x l h = public-is b x l ∙ sym (public-is b₂ x l)

  pub merged-chosen : merged cpi first second ≡ batch_of (2 * cpi) (both_choices cpi b b₂)
  merged-chosen =
      by-cycles (2 * cpi) (merged cpi first second) (batch_of (2 * cpi) both) (omega (arith, some))
      (merged-length cpi first second ∙ sym (batch-length (2 * cpi) (omega (arith, some)) both)) same
    where
      both : ℕ → ℕ → Bool
      both = both_choices cpi b b₂

      same : (d : ℕ) → d < 2 * cpi → (c : ℕ) → cycle_of (2 * cpi) (merged cpi first second) d c ≡ cycle_of (2 * cpi) (batch_of (2 * cpi) both) d c
      same d h c =
          elim (dec_lt d cpi) [
            | yes l ↦ seen_first cpi first second (batch-length cpi some b) d l c ∙ cycle-is cpi some b d l c
                ∙ ap (λ (a : ℕ → Bool). of_bit (with_one a c)) (passed _ (b d) (b₂ (d - cpi)) (lt-ltb d cpi l))
                ∙ sym (cycle-is (2 * cpi) (omega (arith, some)) both d h c)
            | no f ↦
                let back : cpi + (d - cpi) ≡ d = omega arith in
                ap (λ (e : ℕ). cycle_of (2 * cpi) (merged cpi first second) e c) (sym back)
                ∙ seen-second cpi first second (batch-length cpi some b) (batch-length cpi some b₂) same-public (d - cpi) (omega arith) c
                ∙ cycle-is cpi some b₂ (d - cpi) (omega arith) c
                ∙ ap (λ (a : ℕ → Bool). of_bit (with_one a c)) (refused _ (b d) (b₂ (d - cpi)) (le-ltb d cpi (omega arith)))
                ∙ sym (cycle-is (2 * cpi) (omega (arith, some)) both d h c)
          ]

  -- the call is answered with yes, whatever stood in the lent batch
  pub chosen-yes : (there : List ℕ) → length there ≡ batch_words (2 * cpi)
      → Left (merge_called cpi first cpi second there) (batch_of (2 * cpi) (both_choices cpi b b₂))
  unfolding merge_called
  chosen-yes there room =
      sym
      (called-yes (merge_asked cpi first cpi second (length there)) (merged cpi first second) there _
      (fitting-yes cpi first second (length there) size few (batch-length cpi some b) (batch-length cpi some b₂) room same-public) (sym merged-chosen))

  -- and the filling of the larger choice is the merge of the fillings
  pub chosen-filled : filled (2 * cpi) (batch_of (2 * cpi) (both_choices cpi b b₂)) ≡ merged cpi (filled cpi first) (filled cpi second)
  chosen-filled =
      ap (filled (2 * cpi)) (sym merged-chosen)
      ∙ sym (merged-filling cpi first second some (batch-length cpi some b) (batch-length cpi some b₂) same-public)
