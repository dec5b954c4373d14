-- Rows over the field, of a cycle whose columns up to the one column are bits: a bin row says what it says over bits, and a fld row that
-- words agree, add up, or are the public output.
-- Assumes nothing.
use Rattle.std.specs.Prelude.{◌≡◌, refl, ◌↔◌, Bool, true, false, ◌&&◌, List, [], ◌∷◌, ◌++◌, ℕ, ◌+◌, ◌≤◌, leb}
use Rattle.std.proofs.Common.{sym, ap₂, ◌∙◌, arith}
use Rattle.std.proofs.Math.Path.{ap}
use Rattle.std.proofs.Math.Bool.{not}
use borrow.Author.Tests.{leb-true, not-true}
use Rattle.base.specs.Lists.{All}
use Rattle.base.specs.Bits.{◌⊻◌, word}
use Rattle.base.specs.Laws.Values.{val_same}
use Rattle.base.specs.Laws.Tests.{both}
use Rattle.base.specs.Laws.Cases.{of_four, xor-false, xor-two, xor_self, xor-cancel}
use Rattle.field.specs.declared.Gf128.{Gf128}
use Rattle.field.specs.Gf.{of_words, Proper, same, added, of_bit}
use Rattle.field.specs.Gf.Tests.{same_true, same_self}
use Rattle.field.specs.Gf.Bits.{proper-bit, bit-gates}
use Rattle.field.specs.Gf.Laws.{power_zero, added-zero}
use Rattle.layout.specs.Columns.{ONE-COL, RD, T1, T2, CARRY-OFF, ALU, IS-ARITH, HALT}
use Rattle.circuit.specs.Rows.{Term, Sides}
use Rattle.circuit.specs.Circuit.{col, row, packed, agree_row, sum_row, output_row}
use Rattle.verdict.specs.Row.{sum_of, balanced, holds}
use Rattle.verdict.specs.OverBits.{plain_row}
use Rattle.verdict.specs.Named.{named_by}
use Rattle.verdict.specs.Laws.OverBits.{holds-bits}
use Rattle.verdict.specs.Laws.Named.{holds-depends}
use Rattle.verdict.specs.Laws.SideSums.{proper-sum, sum-append}
use Rattle.step.specs.Solve.{lacks, Holds}
use Rattle.step.proofs.Laws.Conditions.{Agree, Summed}
use Rattle.step.proofs.Laws.FieldSums.{bit_sum, sum-col, sum-packed, packed_zero}
use Rattle.field.specs.Gf as gf
use Rattle.field.specs.Gf.Laws as law

-- ---- the test of a bin row: coefficients 0 and 1, and columns up to the one column

abbrev pub up_to_one : List ℕ → Bool
up_to_one [] = true
up_to_one (c ∷ cs) = leb c ONE-COL && up_to_one cs

abbrev pub over_bits : Sides → Bool
over_bits s = plain_row s && up_to_one (named_by s)

xor-four : (t u c a : Bool) → (t ⊻ (u ⊻ (c ⊻ (a ⊻ false)))) ≡ a ⊻ (t ⊻ u ⊻ c)
xor-four = of_four _ _ refl

-- ---- rows

-- a row whose C is empty
holds-zero : (z : ℕ → Gf128) (l m : List Term) → (holds z (row l m []) ≡ true) ↔ (gf.product (sum_of z l) (sum_of z m) ≡ gf.zero)
unfolding balanced sum_of
holds-zero z l m = (λ h. same_true _ _ h, λ e. ap (λ (x : Gf128). same x gf.zero) e ∙ same_self gf.zero)

module _ (z : ℕ → Gf128) (b : ℕ → Bool) (bits : (c : ℕ) → c ≤ ONE-COL → z c ≡ of_bit (b c)) where
  named-bits : (cs : List ℕ) → up_to_one cs ≡ true → All (λ c. z c ≡ of_bit (b c)) cs
  named-bits [] e = tt
  named-bits (c ∷ cs) e = let p = both (leb c ONE-COL) (up_to_one cs) e in (bits c (leb-true c ONE-COL p.0), named-bits cs p.1)

  pub bin-row : (s : Sides) → over_bits s ≡ true → (holds z s ≡ true) ↔ Holds b s
  unfolding lacks
  bin-row s e =
      let p = both (plain_row s) (up_to_one (named_by s)) e in
      let q = holds-depends z (λ c. of_bit (b c)) s (named-bits (named_by s) p.1) ∙ holds-bits (λ c. of_bit (b c)) b (λ c. refl) s p.0 in
      (λ h. not-true _ (sym q ∙ h), λ h. q ∙ ap not h)

  -- where column x is 1, the side m is zero
  gated : (x : ℕ) (m : List Term) → x ≤ ONE-COL → (holds z (row (col x ∷ []) m []) ≡ true) ↔ (b x ≡ true → sum_of z m ≡ gf.zero)
  gated x m l =
      let e = ap (λ (w : Gf128). gf.product w (sum_of z m)) (sum-col z b bits x l) in
      let g = bit-gates (b x) (sum_of z m) (proper-sum z m) in
      (λ h. g.0 (sym e ∙ (holds-zero z (col x ∷ []) m).0 h), λ h. (holds-zero z (col x ∷ []) m).1 (e ∙ g.1 h))

  -- ---- the fld rows

  pub agree-row : (n x y w : ℕ) → n ≤ 64 → x ≤ ONE-COL → y + n ≤ ONE-COL → w + n ≤ ONE-COL → (holds z (agree_row n x y w) ≡ true)
      ↔ Agree b n x y w
  agree-row n x y w l m p q =
      let g = gated x (packed n (y ∷ w ∷ [])) m in let k = packed_zero z b bits n (y ∷ w ∷ []) l (p, (q, tt)) in (
        λ h e i o. xor-cancel (b (y + i)) (b (w + i)) (sym (xor-two (b (y + i)) (b (w + i))) ∙ k.0 (g.0 h e) i o),
        λ h. g.1 (λ e. k.1 (λ i o. xor-two (b (y + i)) (b (w + i)) ∙ xor_self (b (y + i)) (b (w + i)) (h e i o))),
      )

  pub sum_row_lem : (holds z sum_row ≡ true) ↔ (b IS-ARITH ≡ true → Summed b)
  sum_row_lem =
      let words = T1 ∷ T2 ∷ CARRY-OFF ∷ ALU ∷ [] in
      let k = packed_zero z b bits 64 words (omega arith) (omega arith, (omega arith, (omega arith, (omega arith, tt)))) in
      let a = sum_of z (packed 64 words) in
      let f = bit-gates (b IS-ARITH) a (proper-sum z (packed 64 words)) in
      let e =
      ap (gf.product a) (sum-col z b bits IS-ARITH (omega arith))
      ∙ law.mul_comm a (of_bit (b IS-ARITH)) (proper-sum z (packed 64 words)) (proper-bit (b IS-ARITH)) in
      let s : (ℕ → Bool) = λ i. b (T1 + i) ⊻ b (T2 + i) ⊻ b (CARRY-OFF + i) in
      let four : ((i : ℕ) → bit_sum b words i ≡ b (ALU + i) ⊻ s i) = λ i. xor-four (b (T1 + i)) (b (T2 + i)) (b (CARRY-OFF + i))
      (b (ALU + i)) in (
        λ h g i o. xor-cancel (b (ALU + i)) (s i) (sym (four i)
            ∙ k.0 (f.0 (sym e ∙ (holds-zero z (packed 64 words) (col IS-ARITH ∷ [])).0 h) g) i o),
        λ h. (holds-zero z (packed 64 words) (col IS-ARITH ∷ [])).1
            (e ∙ f.1 (λ g. k.1 (λ i o. four i ∙ xor_self (b (ALU + i)) (s i) (h g i o)))),
      )

  sum-public : Proper (z (ONE-COL + 1)) → sum_of z (col (ONE-COL + 1) ∷ []) ≡ z (ONE-COL + 1)
  unfolding sum_of
  sum-public p = law.add-zero _ ∙ ap (gf.product (z (ONE-COL + 1))) power_zero ∙ law.mul-one (z (ONE-COL + 1)) p

  pub output_row_lem : Proper (z (ONE-COL + 1)) → (holds z output_row ≡ true) ↔ (b HALT ≡ true → z (ONE-COL + 1) ≡ of_words (word b RD 64) 0)
  output_row_lem p =
      let g = gated HALT (packed 64 (RD ∷ []) ++ (col (ONE-COL + 1) ∷ [])) (omega arith) in
      let k = added-zero (of_words (word b RD 64) 0) (z (ONE-COL + 1)) in
      (λ h e. k.0 (sym is ∙ g.0 h e), λ h. g.1 (λ e. is ∙ k.1 (h e)))
    where
      is : sum_of z (packed 64 (RD ∷ []) ++ (col (ONE-COL + 1) ∷ [])) ≡ added (of_words (word b RD 64) 0) (z (ONE-COL + 1))
      is =
          sum-append z (packed 64 (RD ∷ [])) (col (ONE-COL + 1) ∷ [])
          ∙ ap₂ added
          (sum-packed z b bits 64 (RD ∷ []) (omega arith) (omega arith, tt)
          ∙ ap (λ (v : ℕ). of_words v 0) (val_same _ _ 64 (λ i l. xor-false (b (RD + i)))))
          (sum-public p)
