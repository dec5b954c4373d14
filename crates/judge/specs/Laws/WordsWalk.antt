-- The blocks part by part; and cycle after cycle: a turn of the loop, and each cycle of a yes.
-- Assumes nothing.
use Rattle.std.specs.Prelude.{◌≡◌, ◌↔◌, true, false, List, [], ◌∷◌, ◌++◌}
use Rattle.std.proofs.Math.Path.{refl, ap, ap₂}
use Rattle.std.proofs.Common.{sym, ◌∙◌, eq-or-lt_of_le}
use Rattle.std.proofs.Math.Logic.{⊎_elim}
use Rattle.std.proofs.Math.Bool.{◌&&◌, and_assoc}
use Prim.Native.Nat.{ℕ, zero, suc, ◌+◌, ◌*◌, ◌-◌, ◌≤◌, ◌<◌}
use native.Mathlib.Omega.{arith}
use Rattle.base.specs.Blocks.{Block}
use Rattle.base.specs.Laws.Tests.{both}
use Rattle.field.specs.declared.Gf128.{Gf128}
use Rattle.strict.specs.declared.Known.{Known}
use Rattle.judge.specs.Words.{words_from, is_written_in, all_written_in, judged_words, all_judged}

-- two lists of blocks, one behind the other
pub written-parts : (ws : ℕ → ℕ) (js ks : List Block) → all_written_in ws (js ++ ks) ≡ (all_written_in ws js && all_written_in ws ks)
written-parts ws [] ks = refl
written-parts ws (j ∷ js) ks =
    ap (◌&&◌ (is_written_in ws j)) (written-parts ws js ks) ∙ sym (and_assoc (is_written_in ws j) (all_written_in ws js) (all_written_in ws ks))

module _ (k : Known) (list : List ℕ) (output : Gf128) where
  -- ---- a turn at cycle d with up to the limit to go

  pub judged-stops : (limit d : ℕ) → d < limit → judged_words k (words_from list (32 * d)) output ≡ false
      → all_judged k list output (limit - d) d ≡ false
  unfolding all_judged
  judged-stops limit d l e = let s : limit - d ≡ suc (limit - (d + 1)) = omega arith in rw (s, e)

  pub judged-goes : (limit d : ℕ) → d < limit → judged_words k (words_from list (32 * d)) output ≡ true
      → all_judged k list output (limit - d) d ≡ all_judged k list output (limit - (d + 1)) (d + 1)
  unfolding all_judged
  judged-goes limit d l e = let s : limit - d ≡ suc (limit - (d + 1)) = omega arith in rw (s, e)

  pub judged-ends : (limit d : ℕ) → limit ≤ d → all_judged k list output (limit - d) d ≡ true
  unfolding all_judged
  judged-ends limit d l = let s : limit - d ≡ 0 = omega arith in rw s

  -- ---- a yes to all is a yes to each

  each-judged : (n s : ℕ) → all_judged k list output n s ≡ true → (d : ℕ) → s ≤ d → d < s + n
      → judged_words k (words_from list (32 * d)) output ≡ true
  unfolding all_judged
  each-judged zero s e d l m = absurd (omega arith)
  each-judged (suc n) s e d l m =
      let q = both (judged_words k (words_from list (32 * s)) output) (all_judged k list output n (s + 1)) e in
      ⊎_elim (λ z. ap (λ (x : ℕ). judged_words k (words_from list (32 * x)) output) (sym z) ∙ q.0)
      (λ g. each-judged n (s + 1) q.1 d (omega arith) (omega arith)) (eq-or-lt_of_le l)

  judged-each : (n s : ℕ) → ((d : ℕ) → s ≤ d → d < s + n → judged_words k (words_from list (32 * d)) output ≡ true)
      → all_judged k list output n s ≡ true
  unfolding all_judged
  judged-each zero s h = refl
  judged-each (suc n) s h = ap₂ ◌&&◌ (h s (omega arith) (omega arith)) (judged-each n (s + 1) (λ d l m. h d (omega arith) (omega arith)))

  pub all-judged : (n : ℕ) → (all_judged k list output n 0 ≡ true) ↔ ((d : ℕ) → d < n → judged_words k (words_from list (32 * d)) output ≡ true)
  all-judged n = (λ e d l. each-judged n 0 e d (omega arith) (omega arith), λ h. judged-each n 0 (λ d _ m. h d (omega arith)))
