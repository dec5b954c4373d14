-- Blocks are written in a cycle exactly when each of their columns has the bit of its block's word.
-- Assumes nothing.
use Rattle.std.specs.Prelude.{◌≡◌, refl, ◌↔◌, Bool, true, List, [], ◌∷◌, ℕ, ◌+◌, ◌%◌, ◌^◌, ◌<◌}
use Rattle.std.proofs.Common.{sym, ap, ◌∙◌, mod-lt, eqb-true, eq-eqb, pow_pos}
use Rattle.base.specs.Lists.{All}
use Rattle.base.specs.Laws.Tests.{both_so}
use Rattle.base.specs.Bits.{bit_at}
use Rattle.base.specs.Blocks.{Block}
use Rattle.base.specs.Laws.Values.{val_same}
use Rattle.base.specs.Laws.Numbers.{val-bits}
use Rattle.base.specs.Laws.Bits.{bit_cut, word-bit}
use Rattle.judge.specs.Judged.{is_written, all_written}

module _ (b : ℕ → Bool) where
  -- column by column
  abbrev pub HasWord : Block → Type 0
  HasWord k = (i : ℕ) → i < k.width → b (k.column + i) ≡ bit_at k.word i

  is-written : (k : Block) → (is_written b k ≡ true) ↔ HasWord k
  is-written k = (
    λ e i l. sym (word-bit b k.column k.width i l) ∙ ap (λ (n : ℕ). bit_at n i) (eqb-true _ _ e) ∙ bit_cut k.word k.width i l,
    λ h. eq-eqb _ _
        (val_same _ _ k.width (λ i l. h i l ∙ sym (bit_cut k.word k.width i l))
        ∙ val-bits k.width (k.word % 2 ^ k.width) (mod-lt k.word (pow_pos k.width))),
  )

  pub all-written : (ks : List Block) → (all_written b ks ≡ true) ↔ All HasWord ks
  all-written [] = (λ _. tt, λ _. refl)
  all-written (k ∷ ks) = both_so (is_written b k) (all_written b ks) (is-written k) (all-written ks)
