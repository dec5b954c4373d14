-- What a yes to the questions of merging says, and when it is given.
-- Assumes nothing.
use Rattle.std.specs.Prelude.{◌≡◌, refl, true, List, ℕ, ◌+◌, ◌*◌, ◌≤◌, eqb, leb, length, Ok}
use Rattle.std.proofs.Math.Path.{sym, ap}
use Rattle.std.proofs.Common.{subst, ◌∙◌, arith}
use Rattle.std.proofs.Math.Bool.{false, not}
use borrow.Author.Tests.{eqb-true, eq-eqb, leb-true, le-leb, not-false}
use Rattle.base.specs.Laws.First.{first-least, first-none}
use Rattle.base.specs.Laws.Lists.{◌and◌}
use Rattle.base.specs.Laws.Tests.{passed}
use Rattle.field.specs.Gf.{same}
use Rattle.field.specs.Gf.Tests.{same_true, same_self}
use Rattle.layout.specs.Batch.{allowed, batch_words}
use Rattle.layout.specs.Laws.Questions.{answered, both_yes, if_yes_lem}
use Rattle.layout.specs.Laws.Sizes.{each-size, allowed-range}
use Rattle.verdict.specs.Row.{element_at}
use Rattle.merge.specs.Calls.{sizes_asked, differs, first_differing, merge_asked}
use Rattle.merge.specs.Parts.{Parts}
use Rattle.merge.specs.Laws.Columns.{SamePublic}

-- a size of at most 128 cycles can be doubled
pub twice-allowed : (cpi : ℕ) → allowed cpi ≡ true → cpi ≤ 128 → allowed (2 * cpi) ≡ true
unfolding allowed
twice-allowed =
    each-size (λ n. n ≤ 128 → allowed (2 * n) ≡ true)
    ((λ h. refl) and (λ h. refl) and (λ h. refl) and (λ h. refl) and (λ h. refl) and (λ h. refl) and (λ h. refl) and (λ h. refl)
    and (λ h. absurd (omega arith)) and tt)

-- a yes to questions 1, 19 and 2
pub record Sized (cpi words cpi₂ words₂ room : ℕ) : Type 0 where
  pub size : allowed cpi ≡ true
  pub sizes : cpi ≡ cpi₂
  pub few : cpi ≤ 128
  pub first-words : words ≡ batch_words cpi
  pub second-words : words₂ ≡ batch_words cpi
  pub room-words : room ≡ batch_words (2 * cpi)

pub sized : (cpi words cpi₂ words₂ room : ℕ) → sizes_asked cpi words cpi₂ words₂ room ≡ Ok tt → Sized cpi words cpi₂ words₂ room
unfolding sizes_asked
sized cpi words cpi₂ words₂ room e =
    let q1 = answered (allowed cpi) _ _ e in let q1₂ = answered (allowed cpi₂) _ _ q1.1 in
    let q19 = answered (eqb cpi cpi₂) _ _ q1₂.1 in let q19₂ = answered (leb (2 * cpi) 256) _ _ q19.1 in
    let q2 = answered (eqb words (batch_words cpi)) _ _ q19₂.1 in let q2₂ = answered (eqb words₂ (batch_words cpi)) _ _ q2.1 in
    let q2₃ = answered (eqb room (batch_words (2 * cpi))) _ _ q2₂.1 in
    record {
      size = q1.0;
      sizes = eqb-true _ _ q19.0;
      few = let most : 2 * cpi ≤ 256 = leb-true _ _ q19₂.0 in omega arith;
      first-words = eqb-true _ _ q2.0;
      second-words = eqb-true _ _ q2₂.0;
      room-words = eqb-true _ _ q2₃.0;
    }

pub sizes-yes : (cpi words cpi₂ words₂ room : ℕ) → Sized cpi words cpi₂ words₂ room → sizes_asked cpi words cpi₂ words₂ room ≡ Ok tt
unfolding sizes_asked
sizes-yes cpi words cpi₂ words₂ room s =
    sym
    (passed _ _ _ (eq-eqb _ _ s.room-words) ∙ passed _ _ _ (eq-eqb _ _ s.second-words) ∙ passed _ _ _ (eq-eqb _ _ s.first-words)
    ∙ passed _ _ _ (le-leb (2 * cpi) 256 (omega (arith, s.few))) ∙ passed _ _ _ (eq-eqb _ _ s.sizes)
    ∙ passed _ _ _ (subst (λ (n : ℕ). allowed n ≡ true) s.sizes s.size) ∙ passed _ _ _ s.size)

-- and to 20
module _ (cpi : ℕ) (first : List ℕ) (cpi₂ : ℕ) (second : List ℕ) (room : ℕ) where
  pub record Passed : Type 0 where
    pub sizes-passed : Sized cpi (length first) cpi₂ (length second) room
    pub public : SamePublic cpi first second

  pub all-passed : merge_asked cpi first cpi₂ second room ≡ Ok tt → Passed
  unfolding merge_asked
  all-passed e =
      let y = both_yes (sizes_asked cpi (length first) cpi₂ (length second) room) _ e in
      let q20 = answered (leb (4096 * cpi) (first_differing cpi first second)) _ _ y.1 in
      let far : 4096 * cpi ≤ first_differing cpi first second = leb-true _ _ q20.0 in
      record {
        sizes-passed = sized cpi (length first) cpi₂ (length second) room y.0;
        public = λ x l h.
            same_true (element_at first x) (element_at second x)
            (not-false _ (first-least (differs first second) (2048 * cpi) (2048 * cpi) x l (omega arith)));
      }

  pub passed-all : Passed → merge_asked cpi first cpi₂ second room ≡ Ok tt
  unfolding merge_asked
  passed-all p =
      let none : first_differing cpi first second ≡ 2048 * cpi + 2048 * cpi =
      first-none (differs first second) (2048 * cpi) (2048 * cpi) (λ k l h. alike k (p.public k l (omega arith))) in
      sym
      (passed _ _ _ (le-leb (4096 * cpi) (first_differing cpi first second) (omega arith))
      ∙ if_yes_lem _ _ (sizes-yes cpi (length first) cpi₂ (length second) room p.sizes-passed))
    where
      alike : (x : ℕ) → element_at first x ≡ element_at second x → differs first second x ≡ false
      alike x e = ap not (ap (λ y. same y (element_at second x)) e ∙ same_self (element_at second x))

-- batches of one size that fit: what is to be shown for a yes
pub fitting-yes : (cpi : ℕ) (first second : List ℕ) (room : ℕ) → allowed cpi ≡ true → cpi ≤ 128 → length first ≡ batch_words cpi
    → length second ≡ batch_words cpi → room ≡ batch_words (2 * cpi) → SamePublic cpi first second → merge_asked cpi first cpi second room ≡ Ok tt
fitting-yes cpi first second room size few len long there same =
    passed-all cpi first cpi second room
    (record {
      sizes-passed = record { size = size; sizes = refl; few = few; first-words = len; second-words = long; room-words = there };
      public = same;
    })

-- what the functions inside are told
pub parts : (cpi : ℕ) (first : List ℕ) (cpi₂ : ℕ) (second : List ℕ) (room : ℕ) → Sized cpi (length first) cpi₂ (length second) room
    → Parts cpi first second
parts cpi first cpi₂ second room s =
    record { some = (allowed-range cpi s.size).0; few = s.few; first-words = s.first-words; second-words = s.second-words }
