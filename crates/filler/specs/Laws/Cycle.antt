-- The cycle that the filler writes by words is the one whose determining rows hold.
-- Assumes nothing.
use Rattle.std.specs.Prelude.{◌≡◌, ℕ, ◌+◌, ◌*◌, ◌/◌, ◌%◌, ◌^◌, ◌<◌, ◌≤◌, Bool, true, false, List, ◌++◌, length, ◌≢◌, nat_eq}
use Rattle.std.proofs.Math.Path.{refl, sym, ap, ap₂}
use Rattle.std.proofs.Common.{◌∙◌, div-one, arith}
use Rattle.std.proofs.Math.Arith.{digits_div, digits_mod, digits_lt}
use Rattle.base.specs.Bits.{digit, word, bit_at}
use Rattle.base.specs.Lists.{All}
use Rattle.base.specs.Blocks.{Block, block, in_blocks}
use Rattle.base.specs.Laws.Lists.{same-below}
use Rattle.base.specs.Laws.Values.{val_same}
use Rattle.base.specs.Laws.Bits.{bit-digit, bit-shr, word-part, word-bit}
use Rattle.field.specs.declared.Gf128.{Gf128}
use Rattle.field.specs.Gf.{low, of_bit}
use Rattle.field.specs.Gf.Bits.{low_bit}
use Rattle.layout.specs.Columns.{ONE-COL, RS1, RS2, LOAD-VAL, T1, T2, CARRY-OFF, ALU, SHIFT-SRC, STORE-OLD, STORE-SRC, FLAGS, SUB, HALT, TAKEN, FETCH, EQA, ZERO, OPSYS}
use Rattle.layout.specs.Batch.{column_at, batch_words}
use Rattle.layout.specs.Laws.Mapping.{witness-column}
use Rattle.verdict.specs.Row.{element_at, cycle_of, bits_of}
use Rattle.step.specs.Step.{opcode, funct3, offset}
use Rattle.step.specs.Derived.{derived, derived_in}
use Rattle.step.specs.Determining.{filled_bits}
use Rattle.step.specs.Filling.{NotDerived}
use Rattle.step.proofs.Laws.Derived.{derived-below, one-given}
use Rattle.step.proofs.Laws.Given.{all_given, given-at}
use Rattle.step.proofs.Laws.Determining.{filled-only}
use Rattle.step.proofs.Laws.FillingElements.{not-derived}
use Rattle.filler.specs.declared.derive.GivenWords.{GivenWords}
use Rattle.filler.specs.declared.derive.DerivedWords.{DerivedWords}
use Rattle.filler.specs.Derive.{carry_word, run_word, lane_word, branch_word, taken_bit}
use Rattle.filler.specs.Blocks.{put_blocks, HoldsWord}
use Rattle.filler.specs.Words.{word_at, given_words, gate_flags, top_bits_of, lanes_of, carry_of, derived_words, flag_blocks, high_blocks, blocks, fill_cycle}
use Rattle.filler.specs.Met.{flags_at}
use Rattle.filler.specs.Laws.Derive.{top_bits_at, ByWords}
use Rattle.filler.specs.Laws.Rows.{rows-hold}
use Rattle.filler.specs.Laws.Blocks.{ordered, blocks-below, blocks-length, blocks-elsewhere, written, holds-bit}

-- ---- the two computed tests: the blocks are in order, and are the derived columns

module _ (g : GivenWords) (w : DerivedWords) where
  pub blocks-ordered : ordered 0 (blocks g w) ≡ true
  blocks-ordered = refl

  pub blocks-are-derived : (c : ℕ) → c < 2048 → derived c ≡ in_blocks (blocks g w) c
  unfolding derived
  blocks-are-derived = same-below 2048 derived (in_blocks (blocks g w)) refl

  pub in-blocks-derived : (c : ℕ) → in_blocks (blocks g w) c ≡ true → derived c ≡ true
  in-blocks-derived c e = blocks-are-derived c (blocks-below (blocks g w) 0 c blocks-ordered e) ∙ e

-- a column that holds a bit
pub at-column : (cpi d : ℕ) (batch : List ℕ) (c : ℕ) (v : Bool) → c < 2048 → element_at batch (c * cpi + d) ≡ of_bit v
    → bits_of cpi batch d c ≡ v
unfolding bits_of cycle_of
at-column cpi d batch c v m e = ap (λ (x : Gf128). nat_eq (low x) 1) (ap (element_at batch) (witness-column cpi c d m) ∙ e) ∙ low_bit v

module _ (cpi d : ℕ) (l : d < cpi) (b : List ℕ) (s : length b ≡ batch_words cpi) where
  abbrev g : GivenWords
  g = given_words cpi b d

  abbrev w : DerivedWords
  w = derived_words g

  abbrev ks : List Block
  ks = blocks g w

  abbrev W : List ℕ
  W = put_blocks cpi d ks b

  -- the cycle before and after
  abbrev z : ℕ → Bool
  z = bits_of cpi b d

  abbrev y : ℕ → Bool
  y = bits_of cpi W d

  parts : All (HoldsWord cpi d W) ks
  parts = written cpi d l ks 0 b s (blocks-ordered g w)

  -- each block's columns hold its word's bits
  pub cycle-words : All (HoldsWord cpi d (fill_cycle cpi d b)) (blocks (given_words cpi b d) (derived_words (given_words cpi b d)))
  unfolding fill_cycle
  cycle-words = parts

  flag-parts : All (HoldsWord cpi d W) (flag_blocks w ++ high_blocks w)
  flag-parts = parts.1.1.1.1

  high_parts : All (HoldsWord cpi d W) (high_blocks w)
  high_parts = flag-parts.1.1

  -- ---- what stays

  pub cycle-length : length (fill_cycle cpi d b) ≡ length b
  unfolding fill_cycle
  cycle-length = blocks-length cpi d l ks b

  pub cycle-elsewhere : (x : ℕ) → ((c : ℕ) → derived c ≡ true → x ≢ c * cpi + d) → element_at (fill_cycle cpi d b) x ≡ element_at b x
  unfolding fill_cycle
  cycle-elsewhere x h = blocks-elsewhere cpi d l ks b x (λ c e. h c (in-blocks-derived g w c e))

  pub cycle-given : (x : ℕ) → NotDerived cpi x → element_at (fill_cycle cpi d b) x ≡ element_at b x
  cycle-given x n =
      cycle-elsewhere x
      (λ c e q. n (rw q (digits_lt (derived-below c e) l)) (ap (derived_in cpi) q ∙ ap derived (digits_div c l) ∙ e))

  pub cycle-other : (x : ℕ) → (x % cpi ≢ d) → element_at (fill_cycle cpi d b) x ≡ element_at b x
  cycle-other x n = cycle-elsewhere x (λ c e q. n (ap (λ (k : ℕ). k % cpi) q ∙ digits_mod c l))

  kept : (c : ℕ) → derived c ≡ false → y c ≡ z c
  unfolding bits_of cycle_of fill_cycle
  kept c e = ap (λ (x : Gf128). nat_eq (low x) 1) (cycle-given (column_at cpi c d) (not-derived cpi c d l e))

  -- ---- the given words, read before, are those of the cycle after

  given_word : (o : ℕ) → all_given o 64 ≡ true → word_at cpi b d o ≡ word y o 64
  unfolding word_at
  given_word o t = val_same _ _ 64 (λ i m. sym (kept (o + i) (given-at 64 o (o + i) t (omega arith) (omega arith))))

  given-bit : (o i : ℕ) → i < 64 → derived (o + i) ≡ false → bit_at (word_at cpi b d o) i ≡ y (o + i)
  unfolding word_at
  given-bit o i m e = word-bit z o 64 i m ∙ sym (kept (o + i) e)

  given-part : (o k n : ℕ) → k + n ≤ 64 → all_given (o + k) n ≡ true → word_at cpi b d o / 2 ^ k % 2 ^ n ≡ word y (o + k) n
  unfolding word_at
  given-part o k n h t =
      word-part z o 64 k n h ∙ val_same _ _ n (λ i m. sym (kept (o + k + i) (given-at n (o + k) (o + k + i) t (omega arith) (omega arith))))

  -- ---- the derived words, as the cycle after has them

  in-part : (o n v : ℕ) → ((i : ℕ) → i < n → element_at W ((o + i) * cpi + d) ≡ of_bit (bit_at v i)) → o + n ≤ 2048
      → (i : ℕ) → i < n → y (o + i) ≡ bit_at v i
  in-part o n v h m i k = at-column cpi d W (o + i) (bit_at v i) (omega arith) (h i k)

  flag : (i : ℕ) → i < 64 → derived (FLAGS + i) ≡ false → bit_at g.flags i ≡ y (FLAGS + i)
  flag i m e = given-bit FLAGS i m e

  flags-same : gate_flags g.flags ≡ flags_at y
  unfolding derived
  flags-same =
      cc (
        flag 1 (omega arith) refl,
        flag 2 (omega arith) refl,
        flag 8 (omega arith) refl,
        flag 9 (omega arith) refl,
        flag 10 (omega arith) refl,
      )

  carry_same : carry_of g ≡ carry_word (word y T1 64) (word y T2 64) (digit (y SUB))
  unfolding derived
  carry_same = cc (given_word T1 refl, given_word T2 refl, flag 0 (omega arith) refl)

  lanes-same : lanes_of g.flags ≡ lane_word (offset y) (flags_at y)
  unfolding derived
  lanes-same = ap₂ lane_word (given-part FLAGS 16 3 (omega arith) refl) flags-same

  top : (o : ℕ) → derived (o + 63) ≡ false → bit_at (word_at cpi b d o) 63 ≡ y (o + 63)
  top o e = given-bit o 63 (omega arith) e

  tops-same : top_bits_of g w.carry w.zeros ≡ top_bits_at y
  unfolding derived
  tops-same =
      cc (
        top RS1 refl,
        top RS2 refl,
        top ALU refl,
        top T1 refl,
        top T2 refl,
        in-part CARRY-OFF 64 w.carry parts.0 (omega arith) 63 (omega arith),
        in-part ZERO 64 w.zeros high_parts.1.0 (omega arith) 63 (omega arith),
      )

  branches-same : w.branches ≡ branch_word (opcode y) (funct3 y) (top_bits_at y) (flags_at y)
  unfolding derived
  branches-same =
      cc (
        ap (λ (n : ℕ). n % 2 ^ 7) (sym (div-one g.fetch)) ∙ given-part FETCH 0 7 (omega arith) refl,
        given-part FETCH 25 3 (omega arith) refl,
        tops-same,
        flags-same,
      )

  branch : (i : ℕ) → i < 39 → y (OPSYS + i) ≡ bit_at w.branches i
  branch = in-part OPSYS 39 w.branches high_parts.1.1.0 (omega arith)

  copied : (o source : ℕ) → HoldsWord cpi d W (block o 64 (word_at cpi b d source)) → o + 64 ≤ 2048 → all_given source 64 ≡ true
      → (i : ℕ) → i < 64 → y (o + i) ≡ y (source + i)
  copied o source h m t i k = in-part o 64 _ h m i k ∙ given-bit source i k (given-at 64 source (source + i) t (omega arith) (omega arith))

  by-words : ByWords y
  unfolding taken_bit derived
  by-words =
      record {
        carry = λ i m. in-part CARRY-OFF 64 _ parts.0 (omega arith) i m ∙ ap (λ (v : ℕ). bit_at v i) carry_same;
        shift-src = copied SHIFT-SRC RS1 parts.1.0 (omega arith) refl;
        store-old = copied STORE-OLD LOAD-VAL parts.1.1.0 (omega arith) refl;
        store-src = copied STORE-SRC RS2 parts.1.1.1.0 (omega arith) refl;
        halt = in-part HALT 1 _ flag-parts.0 (omega arith) 0 (omega arith) ∙ bit-shr w.branches 6 0 ∙ sym (branch 6 (omega arith));
        taken = in-part TAKEN 1 _ flag-parts.1.0 (omega arith) 0 (omega arith) ∙ bit-digit (taken_bit w.branches)
            ∙ cc (
              branch 13 (omega arith),
              branch 34 (omega arith),
              branch 23 (omega arith),
              branch 35 (omega arith),
              branch 27 (omega arith),
              branch 36 (omega arith),
              branch 29 (omega arith),
            );
        lanes = λ i m. in-part EQA 58 _ high_parts.0 (omega arith) i m ∙ ap (λ (v : ℕ). bit_at v i) lanes-same;
        zeros = λ i m. in-part ZERO 64 _ high_parts.1.0 (omega arith) i m ∙ ap (λ (v : ℕ). bit_at (run_word v) i) (given_word ALU refl);
        branches = λ i m. branch i m ∙ ap (λ (v : ℕ). bit_at v i) branches-same;
      }

  -- its determining rows hold, so it is the filling
  pub cycle-filled : z ONE-COL ≡ true → (c : ℕ) → c < 2048 → bits_of cpi (fill_cycle cpi d b) d c ≡ filled_bits z c
  unfolding fill_cycle
  cycle-filled one = filled-only z one y kept (rows-hold y (kept ONE-COL one-given ∙ one) by-words)

  pub cycle-derived : z ONE-COL ≡ true → (c : ℕ) → derived c ≡ true → element_at (fill_cycle cpi d b) (c * cpi + d) ≡ of_bit (filled_bits z c)
  unfolding bits_of cycle_of
  cycle-derived one c e =
      let m = derived-below c e in
      holds-bit cpi d l ks (fill_cycle cpi d b) cycle-words c (sym (blocks-are-derived g w c m) ∙ e)
      ∙ ap (λ (v : Bool). of_bit v)
      (ap (λ (x : ℕ). nat_eq (low (element_at (fill_cycle cpi d b) x)) 1) (sym (witness-column cpi c d m)) ∙ cycle-filled one c m)
