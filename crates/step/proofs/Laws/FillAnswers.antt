-- The filler's yes is what demand 3 supposes of a batch, and of every such batch the filler answers yes.
-- Assumes nothing.
use Rattle.std.specs.Prelude.{◌≡◌, Bool, ◌&&◌, List, ℕ, ◌+◌, ◌*◌, ◌/◌, ◌%◌, ◌^◌, ◌≤◌, ◌<◌, leb, length, get_or, Err, Ok}
use Rattle.std.proofs.Math.Path.{refl, sym, ap}
use Rattle.std.proofs.Common.{◌∙◌, mod-lt, div-lt_iff_lt-mul, arith}
use Rattle.std.proofs.Math.Bool.{true, false, not, true≢false}
use Rattle.std.proofs.Math.Nat.{div-add-mod'}
use borrow.Author.Tests.{leb-true, leb-false, le-leb, not-true}
use Rattle.std.proofs.Math.Arith.{digits_div, digits_lt}
use Rattle.base.specs.Laws.Tests.{passed, both}
use Rattle.base.specs.Laws.First.{first_passes, first-least}
use Rattle.field.specs.Gf.{one, same, is_bit}
use Rattle.field.specs.Gf.Tests.{same_true, same_self}
use Rattle.layout.specs.Batch.{allowed, scratch_fits, batch_asked}
use Rattle.layout.specs.Questions.{after, Asked}
use Rattle.layout.specs.Laws.Mapping.{witness-column}
use Rattle.layout.specs.Laws.Questions.{answered, after-yes, both_yes, batch-yes, if_yes_lem, yes-batch}
use Rattle.layout.specs.Laws.Sizes.{allowed-range}
use Rattle.circuit.specs.Circuit.{circuit_words}
use Rattle.verdict.specs.Row.{element_at, cycle_of}
use Rattle.step.specs.Step.{Step}
use Rattle.step.specs.Derived.{derived, derived_in}
use Rattle.step.specs.Filling.{filled}
use Rattle.step.specs.Demand3.{Premises, Demand3}
use Rattle.step.specs.Fill.{faulty, first_faulty, fill_asked, called, Passed}
use Rattle.step.proofs.Laws.Proved.{demand3}

module _ (cpi : ℕ) (batch : List ℕ) where
  pub all-passed : fill_asked cpi batch ≡ Ok tt → Passed cpi batch
  unfolding fill_asked
  all-passed e =
      let first = both_yes (batch_asked cpi (length batch)) _ e in let batch-is = batch-yes cpi (length batch) first.0 in
      let third = answered (leb (2048 * cpi) (first_faulty cpi batch)) _ _ first.1 in
      let fourth = answered (same (element_at batch (2048 * cpi)) one) _ _ third.1 in
      record { size = batch-is.0; words = batch-is.1; bits = leb-true _ _ third.0; one-is = same_true _ _ fourth.0 }

  pub passed-all : Passed cpi batch → fill_asked cpi batch ≡ Ok tt
  unfolding fill_asked
  passed-all p =
      sym
      (passed _ _ _ (ap (λ x. same x one) p.one-is ∙ same_self one) ∙ passed _ _ _ (le-leb _ _ p.bits)
      ∙ if_yes_lem Err _ (yes-batch cpi (length batch) p.size p.words))

  -- of a slice as it is lent, whose words are words
  pub premises : Passed cpi batch → ((i : ℕ) → get_or batch i 0 < 2 ^ 64) → Premises cpi batch
  unfolding cycle_of
  premises p fit = record { words = p.words; fit = fit; given = given; one-is = p.one-is }
    where
      bit-or-derived : (a b : Bool) → (not a && not b) ≡ false → b ≡ false → a ≡ true
      bit-or-derived true b e f = refl
      bit-or-derived false true e f = absurd (true≢false f)
      bit-or-derived false false e f = absurd (true≢false e)

      given : (c d : ℕ) → c < 2048 → d < cpi → derived c ≡ false → is_bit (cycle_of cpi batch d c) ≡ true
      given c d l h e =
          let x = c * cpi + d in
          let m : x < 2048 * cpi = digits_lt l h in
          ap (λ (k : ℕ). is_bit (element_at batch k)) (witness-column cpi c d l)
          ∙ bit-or-derived (is_bit (element_at batch x)) (derived_in cpi x)
          (first-least (faulty cpi batch) (2048 * cpi) 0 x (omega arith) (omega (arith, p.bits))) (ap derived (digits_div c h) ∙ e)

  pub passes : allowed cpi ≡ true → Premises cpi batch → Passed cpi batch
  unfolding cycle_of
  passes size p = record {
    size = size;
    words = p.words;
    bits = none-faulty
        (leb (2048 * cpi) (first_faulty cpi batch)) refl;
    one-is = p.one-is;
  }
    where
      no-fault : (x : ℕ) → x < 2048 * cpi → faulty cpi batch x ≡ true → ⊥
      no-fault x l e =
          let f = both (not (is_bit (element_at batch x))) (not (derived_in cpi x)) e in let some = (allowed-range cpi size).0 in
          let m : x / cpi < 2048 = (div-lt_iff_lt-mul some).1 l in
          true≢false
          (sym (p.given (x / cpi) (x % cpi) m (mod-lt x some) (not-true _ f.1))
          ∙ ap (λ (k : ℕ). is_bit (element_at batch k)) (witness-column cpi (x / cpi) (x % cpi) m ∙ div-add-mod' x cpi) ∙ not-true _ f.0)

      none-faulty : (k : Bool) → leb (2048 * cpi) (first_faulty cpi batch) ≡ k → 2048 * cpi ≤ first_faulty cpi batch
      none-faulty true e = leb-true _ _ e
      none-faulty false e =
          let l : first_faulty cpi batch < 2048 * cpi = leb-false _ _ e in
          absurd (no-fault (first_faulty cpi batch) l (first_passes (faulty cpi batch) (2048 * cpi) 0 (omega arith)))

  -- so of every batch that demand 3 speaks of it makes the filling
  pub fills : allowed cpi ≡ true → Premises cpi batch → called cpi batch ≡ record { answer = Ok tt; batch = filled cpi batch }
  unfolding called
  fills size p = ap (λ (a : Asked). after a (filled cpi batch) batch) (passed-all (passes size p))

  -- Demand 3 of the filler as it is called, of a slice as it is lent: where it answers yes, it leaves the batch of which all is said
  pub demand3-of-fill : (u scratch : List ℕ) → called cpi batch ≡ record { answer = Ok tt; batch = u } → ((i : ℕ) → get_or batch i 0 < 2 ^ 64)
      → scratch_fits (length scratch) ≡ true → (u ≡ filled cpi batch) × Demand3 circuit_words Step cpi batch scratch
  unfolding called
  demand3-of-fill u scratch e fit room =
      let a = after-yes (fill_asked cpi batch) (filled cpi batch) batch u e in let p = all-passed a.0 in
      (a.1, demand3 cpi p.size batch scratch room (premises p fit))
