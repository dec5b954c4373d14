-- What the filler promises to the crates above it, of every batch and cycle: in the batch that the rows determine, the blocks of a cycle
-- hold their words' bits, and a batch where they do is that batch already; such words are read back. Bit by bit, the laws of ByBit.
-- Assumes nothing.
use Rattle.std.specs.Prelude.{◌≡◌, ℕ, ◌+◌, ◌*◌, ◌/◌, ◌%◌, ◌^◌, ◌<◌, ◌≤◌, Bool, true, List, length}
use Rattle.std.proofs.Math.Path.{refl, sym, ap, ap₂}
use Rattle.std.proofs.Common.{◌∙◌, div-add-mod', arith}
use Rattle.std.proofs.Math.Nat.{mod-lt}
use Rattle.std.proofs.Math.Arith.{digits_div, digits_mod, digits_lt}
use Rattle.base.specs.Bits.{bit_at}
use Rattle.base.specs.Lists.{All}
use Rattle.base.specs.Blocks.{Block, block}
use Rattle.base.specs.Laws.Lists.{all_two}
use Rattle.base.specs.Laws.Blocks.{EachColumn, every-column, reads}
use Rattle.field.specs.Gf.{of_bit}
use Rattle.layout.specs.Columns.{ONE-COL}
use Rattle.layout.specs.Batch.{batch_words}
use Rattle.verdict.specs.Row.{element_at, bits_of}
use Rattle.step.specs.Derived.{derived, derived_in}
use Rattle.step.specs.Determining.{filled_bits}
use Rattle.step.specs.Filling.{filler_bits, filled}
use Rattle.step.proofs.Laws.Derived.{derived-below}
use Rattle.step.proofs.Laws.FillingElements.{filling-here, is-filling}
use Rattle.step.proofs.Laws.Batch.{one-is-set}
use Rattle.filler.specs.declared.derive.GivenWords.{GivenWords}
use Rattle.filler.specs.declared.derive.DerivedWords.{DerivedWords}
use Rattle.filler.specs.Blocks.{HoldsWord}
use Rattle.filler.specs.Words.{word_at, given_words, derived_words, blocks, fill_cycle}
use Rattle.filler.specs.Laws.Blocks.{blocks-below}
use Rattle.filler.specs.Laws.Cycle.{blocks-ordered, blocks-are-derived, in-blocks-derived, at-column, cycle-words, cycle-filled}
use Rattle.field.specs.Gf as gf
pub use Rattle.filler.specs.Laws.ByBit.{carry-bits, run-bits, opcode-field, hot-field, pair-field, gated-field, one_of_two}

-- a word whose bits stand in 64 columns is read back
pub read_back : (cpi d : ℕ) (b : List ℕ) (o w : ℕ) → o + 64 ≤ 2048 → w < 2 ^ 64 → HoldsWord cpi d b (block o 64 w) → word_at cpi b d o ≡ w
unfolding word_at
read_back cpi d b o w m l h = reads (bits_of cpi b d) o 64 w l (λ i k. at-column cpi d b (o + i) (bit_at w i) (omega arith) (h i k))

module _ (cpi : ℕ) (b : List ℕ) (words : length b ≡ batch_words cpi) where
  -- a cycle's blocks: of its given words, and of what is worked out of them
  abbrev given : ℕ → GivenWords
  given = given_words cpi b

  abbrev worked : ℕ → DerivedWords
  worked d = derived_words (given d)

  abbrev cycle_blocks : ℕ → List Block
  cycle_blocks d = blocks (given d) (worked d)

  -- the bits that the rows determine, and whether a block has them
  abbrev bits : ℕ → ℕ → Bool
  bits d = filled_bits (bits_of cpi b d)

  abbrev HasBits : ℕ → Block → Type 0
  HasBits d k = (i : ℕ) → i < k.width → bits d (k.column + i) ≡ bit_at k.word i

  -- of one cycle: in a block's columns they are its word's
  pub filled-bits : (d : ℕ) → d < cpi → bits_of cpi b d ONE-COL ≡ true → All (HasBits d) (cycle_blocks d)
  filled-bits d l one =
      all_two (EachColumn (λ c. c < 2048)) (HoldsWord cpi d (fill_cycle cpi d b)) (HasBits d)
      (λ k below h i m. let n = k.column + i in
      sym (cycle-filled cpi d l b words one n (below i m)) ∙ at-column cpi d (fill_cycle cpi d b) n _ (below i m) (h i m))
      (cycle_blocks d)
      ((every-column (λ c. c < 2048) (cycle_blocks d)).1 (λ c. blocks-below (cycle_blocks d) 0 c (blocks-ordered (given d) (worked d))))
      (cycle-words cpi d l b words)

  module _ (one-is : element_at b (2048 * cpi) ≡ gf.one) where
    of-cycle : (d : ℕ) → d < cpi → All (HasBits d) (cycle_blocks d)
    of-cycle d l = filled-bits d l (one-is-set cpi b one-is d)

    -- a column of cycle d, in a batch, holds them
    abbrev Filled : List ℕ → ℕ → ℕ → Type 0
    Filled batch d c = element_at batch (c * cpi + d) ≡ of_bit (bits d c)

    derived-at : (d : ℕ) → d < cpi → (c : ℕ) → derived c ≡ true → Filled (filled cpi b) d c
    unfolding filled
    derived-at d l c e =
        filling-here cpi (filler_bits cpi b) b (c * cpi + d) (digits_lt (derived-below c e) l) (ap derived (digits_div c l) ∙ e) words
        ∙ ap₂ (λ (t k : ℕ). of_bit (bits t k)) (digits_mod c l) (digits_div c l)

    -- in the filled batch, the blocks of a cycle hold their words' bits
    pub filled-words : (d : ℕ) → d < cpi → All (HoldsWord cpi d (filled cpi b)) (cycle_blocks d)
    filled-words d l =
        all_two (EachColumn (Filled (filled cpi b) d)) (HasBits d) (HoldsWord cpi d (filled cpi b))
        (λ k h e i m. h i m ∙ ap (λ (v : Bool). of_bit v) (e i m)) (cycle_blocks d)
        ((every-column (Filled (filled cpi b) d) (cycle_blocks d)).1 (λ c e. derived-at d l c (in-blocks-derived (given d) (worked d) c e)))
        (of-cycle d l)

    -- where they do before, in every cycle, filling changes nothing
    pub filled_keeps : ((d : ℕ) → d < cpi → All (HoldsWord cpi d b) (cycle_blocks d)) → filled cpi b ≡ b
    unfolding filled
    filled_keeps h =
        sym (is-filling cpi (filler_bits cpi b) b b words (record { lengths = refl; elements = λ x _. refl }) stands)
      where
        stands : (x : ℕ) → x < 2048 * cpi → derived_in cpi x ≡ true → element_at b x ≡ of_bit (filler_bits cpi b x)
        stands x m e =
            let c = x / cpi in let d = x % cpi in let l : d < cpi = mod-lt x (omega arith) in
            ap (element_at b) (sym (div-add-mod' x cpi))
            ∙ (every-column (Filled b d) (cycle_blocks d)
            ).0
            (all_two (HoldsWord cpi d b) (HasBits d) (EachColumn (Filled b d)) (λ k w f i n. w i n ∙ ap (λ (v : Bool). of_bit v) (sym (f i n)))
            (cycle_blocks d) (h d l) (of-cycle d l))
            c (sym (blocks-are-derived (given d) (worked d) c (derived-below c e)) ∙ e)
