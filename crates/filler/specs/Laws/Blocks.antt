-- What a batch holds after words are put into blocks of a cycle's columns.
-- Assumes nothing.
use Rattle.std.specs.Prelude.{◌≡◌, ℕ, zero, suc, ◌+◌, ◌*◌, ◌<◌, ◌≤◌, Bool, true, List, [], ◌∷◌, length, ◌==◌, ◌≢◌}
use Rattle.std.proofs.Math.Path.{refl, subst}
use Rattle.std.proofs.Common.{sym, ◌∙◌, eq-or-lt_of_le, le_of_suc-le-suc, not-suc-le-zero, arith}
use Rattle.std.proofs.Math.Logic.{⊎_elim}
use Rattle.std.proofs.lemmas.Bool.{false≢true}
use Rattle.std.proofs.Math.Nat.{add_right_cancel, eq_of_mul-eq-mul_right}
use Rattle.std.proofs.Math.Arith.{digits_lt}
use Rattle.base.specs.Lists.{All}
use Rattle.base.specs.Bits.{bit_at}
use Rattle.base.specs.Blocks.{between, Block, in_block, in_blocks}
use Rattle.base.specs.Laws.Lists.{all_then}
use Rattle.base.specs.Laws.Blocks.{EachColumn, ends, every-column, goes_on, in-block, one_of, starts}
use Rattle.field.specs.Gf.{low, of_bit}
use Rattle.field.specs.Gf.Bits.{as-bit}
use Rattle.layout.specs.Batch.{batch_words}
use Rattle.verdict.specs.Row.{element_at}
use Rattle.step.specs.Filling.{put}
use Rattle.step.proofs.Laws.FillingElements.{put-length, put-here, put-elsewhere}
use Rattle.filler.specs.Blocks.{put_word, put_blocks, HoldsWord}

abbrev pub ordered : ℕ → List Block → Bool
ordered o ks = between o 2048 ks

pub blocks-below : (ks : List Block) (o c : ℕ) → ordered o ks ≡ true → in_blocks ks c ≡ true → c < 2048
blocks-below [] o c t e = absurd (false≢true e)
blocks-below (k ∷ ks) o c t e =
    let r = goes_on o 2048 k ks t in
    ⊎_elim (λ q. omega (arith, in-block k c q, ends ks (k.column + k.width) 2048 r)) (blocks-below ks (k.column + k.width) c r)
    (one_of (in_block k c) (in_blocks ks c) e)

module _ (cpi d : ℕ) (l : d < cpi) where
  same-column : (c t : ℕ) → c * cpi + d ≡ t * cpi + d → c ≡ t
  same-column c t e = eq_of_mul-eq-mul_right cpi (omega arith) c t (add_right_cancel d e)

  -- ---- one word put

  word-length : (o w n : ℕ) (b : List ℕ) → length (put_word cpi d o w n b) ≡ length b
  unfolding put_word
  word-length o w zero b = refl
  word-length o w (suc n) b = put-length (put_word cpi d o w n b) ((o + n) * cpi + d) (bit_at w n) ∙ word-length o w n b

  word-elsewhere : (o w n : ℕ) (b : List ℕ) (x : ℕ) → ((i : ℕ) → i < n → x ≢ (o + i) * cpi + d)
      → element_at (put_word cpi d o w n b) x ≡ element_at b x
  unfolding put_word
  word-elsewhere o w zero b x h = refl
  word-elsewhere o w (suc n) b x h =
      put-elsewhere (put_word cpi d o w n b) ((o + n) * cpi + d) x (bit_at w n) (h n (omega arith))
      ∙ word-elsewhere o w n b x (λ i m. h i (omega arith))

  word-here : (o w n : ℕ) (b : List ℕ) → length b ≡ batch_words cpi → o + n ≤ 2048 → (i : ℕ) → i < n
      → element_at (put_word cpi d o w n b) ((o + i) * cpi + d) ≡ of_bit (bit_at w i)
  unfolding put_word
  word-here o w zero b s f i m = absurd (not-suc-le-zero m)
  word-here o w (suc n) b s f i m =
      let B = put_word cpi d o w n b in
      let last : element_at (put B ((o + n) * cpi + d) (bit_at w n)) ((o + n) * cpi + d) ≡ of_bit (bit_at w n) =
      put-here B ((o + n) * cpi + d) (bit_at w n)
      (omega (arith, word-length o w n b, digits_lt {q = o + n} {m = 2048} {r = d} {c = cpi} (omega arith) l)) in
      ⊎_elim
      (λ e. subst (λ (j : ℕ). element_at (put B ((o + n) * cpi + d) (bit_at w n)) ((o + j) * cpi + d) ≡ of_bit (bit_at w j)) (sym e) last)
      (λ k. put-elsewhere B ((o + n) * cpi + d) ((o + i) * cpi + d) (bit_at w n) (λ q. omega (arith, same-column (o + i) (o + n) q))
      ∙ word-here o w n b s (omega arith) i k)
      (eq-or-lt_of_le (le_of_suc-le-suc m))

  -- ---- blocks put

  pub blocks-length : (ks : List Block) (b : List ℕ) → length (put_blocks cpi d ks b) ≡ length b
  blocks-length [] b = refl
  blocks-length (k ∷ ks) b = blocks-length ks _ ∙ word-length k.column k.word k.width b

  -- whatever is none of the blocks' columns stays
  pub blocks-elsewhere : (ks : List Block) (b : List ℕ) (x : ℕ) → ((c : ℕ) → in_blocks ks c ≡ true → x ≢ c * cpi + d)
      → element_at (put_blocks cpi d ks b) x ≡ element_at b x
  blocks-elsewhere ks b x h = go ks b ((every-column (λ c. x ≢ c * cpi + d) ks).1 h)
    where
      go : (ks : List Block) (b : List ℕ) → All (EachColumn (λ c. x ≢ c * cpi + d)) ks
          → element_at (put_blocks cpi d ks b) x ≡ element_at b x
      go [] b h = refl
      go (k ∷ ks) b h = go ks _ h.1 ∙ word-elsewhere k.column k.word k.width b x h.0

  before-blocks : (ks : List Block) (o : ℕ) (b : List ℕ) (c : ℕ) → ordered o ks ≡ true → c < o
      → element_at (put_blocks cpi d ks b) (c * cpi + d) ≡ element_at b (c * cpi + d)
  before-blocks [] o b c t h = refl
  before-blocks (k ∷ ks) o b c t h =
      let g = starts o 2048 k ks t in
      before-blocks ks (k.column + k.width) _ c (goes_on o 2048 k ks t) (omega arith)
      ∙ word-elsewhere k.column k.word k.width b (c * cpi + d) (λ i m e. omega (arith, same-column c (k.column + i) e))

  pub written : (ks : List Block) (o : ℕ) (b : List ℕ) → length b ≡ batch_words cpi → ordered o ks ≡ true
      → All (HoldsWord cpi d (put_blocks cpi d ks b)) ks
  written [] o b s t = tt
  written (k ∷ ks) o b s t =
      let r = goes_on o 2048 k ks t in let B = put_word cpi d k.column k.word k.width b in (
        λ i m. before-blocks ks (k.column + k.width) B (k.column + i) r (omega arith)
            ∙ word-here k.column k.word k.width b s (ends ks (k.column + k.width) 2048 r) i m,
        written ks (k.column + k.width) B (word-length k.column k.word k.width b ∙ s) r,
      )

  -- in a block, a column holds a bit
  pub holds-bit : (ks : List Block) (batch : List ℕ) → All (HoldsWord cpi d batch) ks → (c : ℕ) → in_blocks ks c ≡ true
      → element_at batch (c * cpi + d) ≡ of_bit (low (element_at batch (c * cpi + d)) == 1)
  holds-bit ks batch h =
      (every-column (λ c. element_at batch (c * cpi + d) ≡ of_bit (low (element_at batch (c * cpi + d)) == 1)) ks
      ).0 (all_then _ _ (λ k w i m. as-bit (bit_at k.word i) (w i m)) ks h)
