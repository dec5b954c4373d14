-- The parts of a row or a batch below and from the one column on, and what a yes to questions 1 to 3 says.
-- Assumes nothing.
use Rattle.std.specs.Prelude.{◌≡◌, ℕ, suc, ◌-◌, ◌*◌, ◌%◌, ◌<◌, ◌≤◌, Bool, true, false, cond, List, ◌∷◌, ◌==◌, nat_le, slice_index, Ok}
use Rattle.std.proofs.Math.Path.{sym}
use Rattle.std.proofs.Common.{ap, arith, lt-ltb, le-ltb, leb-true}
use Rattle.std.proofs.lemmas.Bool.{false≢true}
use Rattle.base.specs.Laws.Tests.{passed, refused}
use Rattle.layout.specs.Batch.{allowed, batch_words, batch_asked}
use Rattle.layout.specs.Laws.Questions.{answered, both_yes, batch-yes}
use Rattle.witness.specs.Upper.{upper_word, batch_word, public_fits, public_asked}

-- ---- the parts of a row or a batch

pub public-word : (public : List ℕ) (j : ℕ) → 2 ≤ j → upper_word public j ≡ slice_index public (j - 2)
unfolding upper_word
public-word public j h = let e : j ≡ suc (suc (j - 2)) = omega arith in ap (λ (i : ℕ). slice_index (1 ∷ 0 ∷ public) i) e

module _ (one : ℕ) (lower : ℕ → ℕ) (public : List ℕ) (k : ℕ) where
  pub in-lower : k < 2 * one → batch_word one lower public k ≡ lower k
  unfolding batch_word
  in-lower h = sym (passed _ _ _ (lt-ltb k (2 * one) h))

  pub in-upper : 2 * one ≤ k → batch_word one lower public k ≡ upper_word public (k - 2 * one)
  unfolding batch_word
  in-upper h = sym (refused _ _ _ (le-ltb k (2 * one) h))

-- a yes to question 3 says that the public words fit
fits-most : (words most : ℕ) → public_fits words most ≡ true → words ≤ most
unfolding public_fits
fits-most words most e = go (words % 2 == 0) e
  where
    go : (even : Bool) → cond even (nat_le words most) false ≡ true → words ≤ most
    go true q = leb-true words most q
    go false q = absurd (false≢true q)

pub public-yes : (cpi public batch : ℕ) → public_asked cpi public batch ≡ Ok tt
    → (allowed cpi ≡ true) × ((batch ≡ batch_words cpi) × (public ≤ 4096 * cpi - 2))
unfolding public_asked
public-yes cpi public batch e =
    let first = both_yes (batch_asked cpi batch) _ e in let is = batch-yes cpi batch first.0 in
    (is.0, (is.1, fits-most public (4096 * cpi - 2) (answered (public_fits public (4096 * cpi - 2)) _ _ first.1).0))
