-- A cycle is judged with yes exactly when it meets the conditions of the listing and each of its derived columns is what the filler makes it.
-- Nothing is asked of what stands in the columns: they need not be bits.
-- Assumes nothing.
use Rattle.std.specs.Prelude.{◌≡◌, ◌↔◌, Bool, true, List, ℕ, ◌<◌, length}
use Rattle.std.proofs.Common.{sym, ◌∙◌}
use Rattle.std.proofs.Math.Logic.Iff.{trans as iff_trans}
use Rattle.base.specs.Lists.{All}
use Rattle.base.specs.Laws.Tests.{both_so}
use Rattle.base.specs.Blocks.{Block, in_blocks}
use Rattle.base.specs.Laws.Lists.{all_two}
use Rattle.base.specs.Laws.Blocks.{EachColumn, every-column}
use Rattle.field.specs.declared.Gf128.{Gf128}
use Rattle.layout.specs.Columns.{ONE-COL}
use Rattle.layout.specs.Batch.{batch_words}
use Rattle.strict.specs.declared.Known.{Known}
use Rattle.verdict.specs.Row.{bits_of}
use Rattle.step.specs.Strict.{ConditionsOf}
use Rattle.step.specs.Derived.{derived}
use Rattle.step.specs.Determining.{filled_bits}
use Rattle.step.proofs.Laws.Derived.{derived-below}
use Rattle.filler.specs.Words.{word_at, given_words, derived_words, blocks}
use Rattle.filler.specs.Laws.Cycle.{blocks-are-derived, in-blocks-derived}
use Rattle.filler.specs.Laws.Promise.{filled-bits}
use Rattle.filler.specs.Laws.MetFirst.{all_known_lem}
use Rattle.judge.specs.Judged.{judged_cycle}
use Rattle.judge.specs.Laws.Written.{HasWord, all-written}

-- blocks that hold a cycle's bits y: they stand in a cycle z exactly when it agrees with y in each of their columns
blocks-agree : (y z : ℕ → Bool) (ks : List Block) → All (HasWord y) ks → All (HasWord z) ks ↔ ((c : ℕ) → in_blocks ks c ≡ true → z c ≡ y c)
blocks-agree y z ks h = (
  λ g. (every-column Agrees ks).0 (all_two (HasWord z) (HasWord y) (EachColumn Agrees) (λ k a b i l. a i l ∙ sym (b i l)) ks g h),
  λ g. all_two (EachColumn Agrees) (HasWord y) (HasWord z) (λ k a b i l. a i l ∙ b i l) ks ((every-column Agrees ks).1 g) h,
)
  where
    Agrees : ℕ → Type 0
    Agrees c = z c ≡ y c

module _ (cpi : ℕ) (batch : List ℕ) (words : length batch ≡ batch_words cpi) (d : ℕ) (inside : d < cpi)
    (one : bits_of cpi batch d ONE-COL ≡ true) where
  abbrev z : ℕ → Bool
  z = bits_of cpi batch d

  abbrev ks : List Block
  ks = blocks (given_words cpi batch d) (derived_words (given_words cpi batch d))

  -- the blocks are the derived columns
  every-derived : {P : ℕ → Type 0} → ((c : ℕ) → in_blocks ks c ≡ true → P c) ↔ ((c : ℕ) → derived c ≡ true → P c)
  every-derived =
      let g = given_words cpi batch d in (
        λ h c e. h c (sym (blocks-are-derived g (derived_words g) c (derived-below c e)) ∙ e),
        λ h c e. h c (in-blocks-derived g (derived_words g) c e),
      )

  pub judged-exactly : (k : Known) (output : Gf128) → (judged_cycle k (bits_of cpi batch d) output ≡ true)
      ↔ (ConditionsOf k (bits_of cpi batch d) output × ((c : ℕ) → derived c ≡ true → bits_of cpi batch d c ≡ filled_bits (bits_of cpi batch d) c))
  unfolding judged_cycle word_at
  judged-exactly k output =
      both_so _ _ (all_known_lem z output k)
      (iff_trans (all-written z ks) (iff_trans (blocks-agree (filled_bits z) z ks (filled-bits cpi batch words d inside one)) every-derived))
