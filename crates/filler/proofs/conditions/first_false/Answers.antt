-- `filler::conditions::first_false` meets its contract: the test that `position` finds is the first that is not met.
-- Assumes nothing.
use Rattle.std.proofs.Common.{◌≡◌, ℕ, ◌+◌, ◌-◌, ◌<◌, ◌≤◌, Bool, true, false, not, List, length, get_or, sym, ap, ◌∙◌, arith, rules, lt-ltb}
use Rattle.std.specs.Prelude.{None, Some, Option, MatchOption, option_map}
use Rattle.std.specs.List.{AllWithin, HoldsAt}
use Rattle.std.proofs.lemmas.Iterator.{IsFirst-from_position, YieldsList-from_slice}
use borrow.Author.Tests.{tests}
use Rattle.base.specs.Laws.Tests.{passed}
use Rattle.base.specs.Laws.First.{first-none, first-at-from}
use Rattle.filler.specs.Met.{named, numbered, first_false}
use Rattle.filler.proofs.conditions.first_false.Goals as goal

module _ (met : List Bool) (ten : length met ≡ 10) where
  met_at : (n : ℕ) → AllWithin (λ (b : Bool). b ≡ true) met 0 n → (k : ℕ) → 1 ≤ k → k < 1 + n → not (numbered met k) ≡ false
  met_at n h k l m = ap not (h (k - 1) false (omega arith) (omega arith))

  none : AllWithin (λ (b : Bool). b ≡ true) met 0 (length met) → first_false met ≡ None
  unfolding first_false
  none h =
      ap named (first-none (λ (k : ℕ). not (numbered met k)) 10 1 (λ k l m. met_at (length met) h k l (omega arith)))

  one : (i : ℕ) → i < length met → HoldsAt (λ (b : Bool). b ≡ false) met i → AllWithin (λ (b : Bool). b ≡ true) met 0 i
      → Some (i + 1) ≡ first_false met
  unfolding first_false
  one i l h before =
      let e : i + 1 - 1 ≡ i = omega arith in
      passed _ _ _ (lt-ltb (i + 1) 11 (omega arith))
      ∙ ap named (sym (first-at-from (λ (k : ℕ). not (numbered met k)) 10 1 (i + 1) (omega arith) (omega arith)
      (ap (λ (j : ℕ). not (get_or met j false)) e ∙ ap not (h false)) (λ k l m. met_at i before k l (omega arith))))

first_of : (met : List Bool) → length met ≡ 10 → (r : Option ℕ)
    → MatchOption r (AllWithin (λ (b : Bool). b ≡ true) met 0 (length met))
    (λ i. (i < length met) × HoldsAt (λ (b : Bool). b ≡ false) met i × AllWithin (λ (b : Bool). b ≡ true) met 0 i)
    → option_map (λ i. i + 1) r ≡ first_false met
first_of met ten None h = sym (none met ten h)
first_of met ten (Some i) (l, h, before) = one met ten i l h before

pub returns-in_err-k : goal.returns-in_err-k
returns-in_err-k c =
    let ten : length c.args.met ≡ 10 = omega (arith, c.well_formed) in
    let f = IsFirst-from_position _ _ _ (λ (b : Bool). b ≡ false) (λ (b : Bool). b ≡ true) c.position.ensures.ran
    (YieldsList-from_slice _ cc) (λ x q k. search (rules, tests)) (λ x q k. search (rules, tests)) in
    c.from_residual.ensures ∙ ap (option_map (λ i. i + 1)) (sym c.in_err-k.was) ∙ first_of c.args.met ten _ f

pub returns : goal.returns
returns c =
    let ten : length c.args.met ≡ 10 = omega (arith, c.well_formed) in
    let f = IsFirst-from_position _ _ _ (λ (b : Bool). b ≡ false) (λ (b : Bool). b ≡ true) c.position.ensures.ran
    (YieldsList-from_slice _ cc) (λ x q k. search (rules, tests)) (λ x q k. search (rules, tests)) in
    ap (option_map (λ i. i + 1)) (sym c.in_ok-k.was) ∙ first_of c.args.met ten _ f
