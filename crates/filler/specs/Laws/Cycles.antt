-- Cycle after cycle filled by words, a batch becomes the filler's: `filled`, of which demand 3 speaks.
-- Assumes nothing.
use Rattle.std.specs.Prelude.{◌≡◌, ℕ, zero, suc, ◌+◌, ◌*◌, ◌/◌, ◌%◌, ◌<◌, ◌≤◌, Bool, true, List, length, nat_eq}
use Rattle.std.proofs.Math.Path.{refl, ap, fun_ext}
use Rattle.std.proofs.Common.{sym, ◌∙◌, ⊎_elim, eq-or-lt_of_le, le_of_suc-le-suc, not-suc-le-zero, div-add-mod', arith}
use Rattle.std.proofs.Math.Nat.{mod-lt}
use Rattle.std.proofs.Math.Decide.{ℕ_discrete}
use Rattle.field.specs.declared.Gf128.{Gf128}
use Rattle.field.specs.Gf.{low, of_bit}
use Rattle.layout.specs.Columns.{ONE-COL}
use Rattle.layout.specs.Batch.{column_at, batch_words}
use Rattle.layout.specs.Laws.Mapping.{column-cycle}
use Rattle.verdict.specs.Row.{element_at, cycle_of, bits_of}
use Rattle.step.specs.Derived.{derived_in}
use Rattle.step.specs.Determining.{filled_bits}
use Rattle.step.specs.Filling.{filler_bits, filled}
use Rattle.step.proofs.Laws.FillingElements.{is-filling}
use Rattle.step.proofs.Laws.Batch.{one-is-set}
use Rattle.filler.specs.Words.{fill_cycle, fill_cycles}
use Rattle.filler.specs.Laws.Cycle.{cycle-length, cycle-given, cycle-other, cycle-derived}
use Rattle.field.specs.Gf as gf

module _ (cpi : ℕ) (b : List ℕ) (words : length b ≡ batch_words cpi) (one-is : element_at b (2048 * cpi) ≡ gf.one) where
  -- the derived columns of cycles 0 .. n - 1 are filled, and nothing else is changed
  abbrev Done : ℕ → ℕ → Type 0
  Done n x = (x < 2048 * cpi) × ((derived_in cpi x ≡ true) × (x % cpi < n))

  pub record DoneTo (n : ℕ) (B : List ℕ) : Type 0 where
    pub lengths : length B ≡ length b
    pub done : (x : ℕ) → Done n x → element_at B x ≡ of_bit (filler_bits cpi b x)
    pub left : (x : ℕ) → (Done n x → ⊥) → element_at B x ≡ element_at b x

  module _ (n : ℕ) (B : List ℕ) (l : n < cpi) (h : DoneTo n B) where
    sized : length B ≡ batch_words cpi
    sized = h.lengths ∙ words

    -- the next cycle is still as it was
    same-cycle : bits_of cpi B n ≡ bits_of cpi b n
    unfolding bits_of cycle_of
    same-cycle =
        fun_ext (λ c. ap (λ (x : Gf128). nat_eq (low x) 1)
        (h.left (column_at cpi c n) (λ k. omega (arith, column-cycle cpi c n l k.0, k.1.1))))

    at : (x : ℕ) → x % cpi ≡ n → x / cpi * cpi + n ≡ x
    at x e = ap (λ (m : ℕ). x / cpi * cpi + m) (sym e) ∙ div-add-mod' x cpi

    here : (x : ℕ) → x % cpi ≡ n → derived_in cpi x ≡ true → element_at (fill_cycle cpi n B) x ≡ of_bit (filler_bits cpi b x)
    here x e q =
        ap (element_at (fill_cycle cpi n B)) (sym (at x e))
        ∙ cycle-derived cpi n l B sized (ap (λ (f : ℕ → Bool). f ONE-COL) same-cycle ∙ one-is-set cpi b one-is n) (x / cpi) q
        ∙ ap (λ (f : ℕ → Bool). of_bit (filled_bits f (x / cpi))) (same-cycle ∙ ap (bits_of cpi b) (sym e))

    pub done_more : DoneTo (suc n) (fill_cycle cpi n B)
    done_more =
        record {
          lengths = cycle-length cpi n l B sized ∙ h.lengths;
          done = λ x k.
              ⊎_elim (λ e. here x e k.1.0) (λ m. cycle-other cpi n l B sized x (λ e. omega arith) ∙ h.done x (k.0, (k.1.0, m)))
              (eq-or-lt_of_le (le_of_suc-le-suc k.1.1));
          left = λ x f. rest x f (ℕ_discrete (x % cpi) n);
        }
      where
        rest : (x : ℕ) → (Done (suc n) x → ⊥) → Dec (x % cpi ≡ n) → element_at (fill_cycle cpi n B) x ≡ element_at b x
        rest x f (yes e) =
            cycle-given cpi n l B sized x (λ m q. f (m, (q, omega arith))) ∙ h.left x (λ k. f (k.0, (k.1.0, omega (arith, k.1.1))))
        rest x f (no e) = cycle-other cpi n l B sized x e ∙ h.left x (λ k. f (k.0, (k.1.0, omega (arith, k.1.1))))

  done_all : (n : ℕ) → n ≤ cpi → DoneTo n (fill_cycles cpi n b)
  unfolding fill_cycles
  done_all zero l = record { lengths = refl; done = λ x k. absurd (not-suc-le-zero k.1.1); left = λ x f. refl }
  done_all (suc n) l = done_more n (fill_cycles cpi n b) l (done_all n (omega arith))

  -- by words it is the batch that the rows determine
  pub all-cycles : 0 < cpi → fill_cycles cpi cpi b ≡ filled cpi b
  unfolding filled
  all-cycles some =
      let k = done_all cpi (omega arith) in
      is-filling cpi (filler_bits cpi b) (fill_cycles cpi cpi b) b words
      (record { lengths = k.lengths; elements = λ x n. k.left x (λ m. n m.0 m.1.0) })
      (λ x m e. k.done x (m, (e, mod-lt x some)))
