-- The judgement of packed words is that of the cycle's bits, and reads no other words than it says; so with every cycle of a batch.
-- Assumes nothing.
use Rattle.std.specs.Prelude.{◌≡◌, refl, ◌↔◌, Bool, true, List, [], ◌∷◌, ℕ, zero, suc, ◌+◌, ◌*◌, ◌/◌, ◌%◌, ◌^◌, ◌≤◌, ◌<◌, eqb, leb, get_or, drop}
use Rattle.std.specs.Simd.{first_chunks}
use Rattle.std.proofs.Common.{sym, ap, ◌∙◌, arith, leb-true}
use Rattle.std.proofs.lemmas.List.{get_or-take, get_or-drop}
use Rattle.std.proofs.Math.Path.{ap₂}
use Rattle.std.proofs.Math.Bool.{◌&&◌}
use Rattle.base.specs.Bits.{word}
use Rattle.base.specs.Blocks.{Block}
use Rattle.base.specs.Laws.Tests.{both}
use Rattle.base.specs.Laws.Bits.{word-part}
use Rattle.field.specs.declared.Gf128.{Gf128}
use Rattle.layout.specs.Columns.{ONE-COL}
use Rattle.layout.specs.Batch.{column_at}
use Rattle.layout.specs.Laws.Mapping.{public-column}
use Rattle.strict.specs.declared.Known.{Known}
use Rattle.verdict.specs.Row.{element_at, cycle_of, bits_of}
use Rattle.filler.specs.declared.derive.GivenWords.{GivenWords}
use Rattle.filler.specs.declared.derive.DerivedWords.{DerivedWords}
use Rattle.filler.specs.declared.conditions.StepWords.{StepWords}
use Rattle.filler.specs.Words.{derived_words, blocks}
use Rattle.filler.specs.Met.{step_words, words_of, flags_in, conditions_of, all_true}
use Rattle.filler.specs.Laws.MetRead.{opcode-in, flags-in}
use Rattle.packed.specs.Packed.{named_word}
use Rattle.packed.specs.Laws.Words.{named-range}
use Rattle.judge.specs.Judged.{given_of, all_written, judged_cycle, JudgedYes}
use Rattle.judge.specs.Words.{words_from, given_in, same_bits, all_written_in, judged_words, all_judged}
use Rattle.judge.specs.Laws.WordsWalk.{all-judged}

-- every block lies in one word, and in one that is read
abbrev in_words : List Block → Bool
in_words [] = true
in_words (k ∷ ks) = leb (k.column % 64 + k.width) 64 && (named_word (k.column / 64) && in_words ks)

-- by one computed test
blocks-in-words : (g : GivenWords) (w : DerivedWords) → in_words (blocks g w) ≡ true
blocks-in-words g w = refl

-- ---- words that agree wherever one is read

module _ (ws vs : ℕ → ℕ) (h : (k : ℕ) → named_word k ≡ true → ws k ≡ vs k) where
  written-agree : (ks : List Block) → in_words ks ≡ true → all_written_in ws ks ≡ all_written_in vs ks
  written-agree [] t = refl
  written-agree (k ∷ ks) t =
      let p = both (leb (k.column % 64 + k.width) 64) (named_word (k.column / 64) && in_words ks) t in
      let q = both (named_word (k.column / 64)) (in_words ks) p.1 in
      ap₂ ◌&&◌
      (ap (λ (w : ℕ). same_bits (k.column % 64) k.width w k.word) (h (k.column / 64) q.0))
      (written-agree ks q.1)

  given-agree : given_in ws ≡ given_in vs
  given-agree = cc (h 0 refl, h 1 refl, h 3 refl, h 5 refl, h 6 refl, h 8 refl, h 12 refl, h 13 refl)

  pub judged-agree : (k : Known) (output : Gf128) → judged_words k ws output ≡ judged_words k vs output
  unfolding judged_words
  judged-agree k output =
      ap₂ ◌&&◌
      (ap (λ (g : GivenWords). all_true (conditions_of k (step_words g (ws 2) (ws 4)) (flags_in g.flags) output)) given-agree
      ∙ ap₂ (λ (r s : ℕ). all_true (conditions_of k (step_words (given_in vs) r s) (flags_in (vs 12)) output)) (h 2 refl) (h 4 refl))
      (ap (λ (g : GivenWords). all_written_in ws (blocks g (derived_words g))) given-agree
      ∙ written-agree (blocks (given_in vs) (derived_words (given_in vs))) (blocks-in-words (given_in vs) (derived_words (given_in vs))))

-- ---- cycle d of a slice that is read as arrays of 32 words

chunk-at : (xs : List ℕ) (n d i : ℕ) → d < n → i < 32 → words_from (get_or (first_chunks 32 n xs) d []) 0 i ≡ words_from xs (32 * d) i
chunk-at xs zero d i l m = absurd (omega (arith, l))
chunk-at xs (suc n) zero i l m = get_or-take 32 xs (0 + i) 0 (omega (arith, m)) ∙ ap (λ (x : ℕ). get_or xs x 0) (omega arith)
chunk-at xs (suc n) (suc d) i l m =
    chunk-at (drop 32 xs) n d i (omega (arith, l)) m
    ∙ get_or-drop 32 xs (32 * d + i) 0
    ∙ ap (λ (x : ℕ). get_or xs x 0) (omega arith)

pub judged-chunk : (k : Known) (list : List ℕ) (n d : ℕ) (output : Gf128) {cycles : List (List ℕ)} → cycles ≡ first_chunks 32 n list → d < n
    → judged_words k (words_from list (32 * d)) output ≡ judged_words k (words_from (get_or cycles d []) 0) output
judged-chunk k list n d output e l =
    let read = first_chunks 32 n list in
    sym
    (ap (λ (c : List (List ℕ)). judged_words k (words_from (get_or c d []) 0) output) e
    ∙ judged-agree (words_from (get_or read d []) 0) (words_from list (32 * d))
    (λ i t. let r = named-range i t in chunk-at list n d i l (omega (arith, r.0))) k output)

-- ---- from what was read of the words, worked out and tested

pub judged-from : (k : Known) (ws : ℕ → ℕ) (output : Gf128) (g : GivenWords) (rd shift : ℕ) (w : StepWords) (d : DerivedWords) (met all : Bool)
    → g ≡ given_in ws → rd ≡ ws 2 → shift ≡ ws 4 → w ≡ step_words g rd shift → met ≡ all_true (conditions_of k w (flags_in g.flags) output)
    → d ≡ derived_words g → all ≡ all_written_in ws (blocks g d) → (met && all) ≡ judged_words k ws output
unfolding judged_words
judged-from k ws output g rd shift w d met all eg er es ew em ed ea = rw (em, ea, ed, ew, er, es, eg)

-- ---- a cycle's bits, packed

module _ (b : ℕ → Bool) where
  abbrev packed : ℕ → ℕ
  packed k = word b (64 * k) 64

  written-packed : (ks : List Block) → in_words ks ≡ true → all_written_in packed ks ≡ all_written b ks
  written-packed [] t = refl
  written-packed (k ∷ ks) t =
      let p = both (leb (k.column % 64 + k.width) 64) (named_word (k.column / 64) && in_words ks) t in
      let q = both (named_word (k.column / 64)) (in_words ks) p.1 in
      ap₂ ◌&&◌ (ap (λ (x : ℕ). eqb x (k.word % 2 ^ k.width)) (part k.column k.width (leb-true _ _ p.0)))
      (written-packed ks q.1)
    where
      part : (c n : ℕ) → c % 64 + n ≤ 64 → packed (c / 64) / 2 ^ (c % 64) % 2 ^ n ≡ word b c n
      part c n l = word-part b (64 * (c / 64)) 64 (c % 64) n l ∙ ap (λ (o : ℕ). word b o n) (omega arith)

  step-packed : step_words (given_in packed) (packed 2) (packed 4) ≡ words_of b
  step-packed = cc (opcode-in b)

  judged-packed : (k : Known) (output : Gf128) → judged_words k packed output ≡ judged_cycle k b output
  unfolding judged_words judged_cycle
  judged-packed k output =
      ap₂ ◌&&◌
      (ap₂ (λ s f. all_true (conditions_of k s f output)) step-packed (flags-in b))
      (written-packed (blocks (given_of b) (derived_words (given_of b))) (blocks-in-words (given_of b) (derived_words (given_of b))))

  pub judged-same : (k : Known) (ws : ℕ → ℕ) → ((i : ℕ) → named_word i ≡ true → ws i ≡ word b (64 * i) 64) → (output : Gf128)
      → judged_words k ws output ≡ judged_cycle k b output
  judged-same k ws h output = judged-agree ws packed h k output ∙ judged-packed k output

-- ---- a batch whose cycles are packed, 32 words each

pub packed-batch : (k : Known) (cpi : ℕ) (batch list : List ℕ)
    → ((d i : ℕ) → d < cpi → named_word i ≡ true → words_from list (32 * d) i ≡ word (bits_of cpi batch d) (64 * i) 64)
    → (all_judged k list (element_at batch (2048 * cpi + 1)) cpi 0 ≡ true) ↔ JudgedYes k cpi batch
unfolding cycle_of
packed-batch k cpi batch list h =
    let output = element_at batch (2048 * cpi + 1) in let all = all-judged k list output cpi in (
      λ e d l. ap (judged_cycle k (bits_of cpi batch d)) (public d) ∙ sym (same d l) ∙ all.0 e d l,
      λ y. all.1 (λ d l. same d l ∙ ap (judged_cycle k (bits_of cpi batch d)) (sym (public d)) ∙ y d l),
    )
  where
    public : (d : ℕ) → element_at batch (column_at cpi (ONE-COL + 1) d) ≡ element_at batch (2048 * cpi + 1)
    public d = ap (element_at batch) (public-column cpi (ONE-COL + 1) d (omega arith) ∙ omega arith)

    same : (d : ℕ) → d < cpi
        → judged_words k (words_from list (32 * d)) (element_at batch (2048 * cpi + 1))
        ≡ judged_cycle k (bits_of cpi batch d) (element_at batch (2048 * cpi + 1))
    same d l = judged-same (bits_of cpi batch d) k (words_from list (32 * d)) (λ i t. h d i l t) (element_at batch (2048 * cpi + 1))
