-- What the filler's code makes at each turn of its loops, and of its words.
-- Assumes nothing.
use Rattle.std.specs.Prelude.{◌≡◌, ℕ, suc, ◌+◌, ◌-◌, ◌*◌, ◌/◌, ◌%◌, ◌^◌, ◌<◌, ◌≤◌, Bool, true, not, ◌&&◌, List, [], ◌∷◌, slice_set, refl}
use Rattle.std.proofs.Common.{sym, ◌∙◌, add-zero, div-one, one-mul, add-one, arith, pow_mono, shl_exact}
use Rattle.std.proofs.Math.Path.{ap, ap₂}
use Rattle.std.specs.Bool.{beq}
use Rattle.base.specs.Bits.{digit, val, ◌⊻◌, word, is_set, bit_at}
use Rattle.base.specs.Fields.{pack, flags}
use Rattle.base.specs.Laws.Values.{val-lt, val_same}
use Rattle.base.specs.Laws.Cases.{of_two}
use Rattle.base.specs.Laws.Numbers.{digit-of}
use Rattle.base.specs.Laws.Bits.{bit-shr}
use Rattle.step.specs.Filling.{put}
use Rattle.filler.specs.declared.bits.Flags.{Flags}
use Rattle.filler.specs.declared.derive.TopBits.{TopBits}
use Rattle.filler.specs.declared.derive.GivenWords.{GivenWords}
use Rattle.filler.specs.declared.derive.DerivedWords.{DerivedWords}
use Rattle.filler.specs.Lanes.{hot, pair, next}
use Rattle.filler.specs.Derive.{gate_bits, lane_word, compare_word}
use Rattle.filler.specs.Blocks.{put_word, put_blocks}
use Rattle.filler.specs.Words.{given_words, derived_words, low_blocks, flag_blocks, high_blocks, blocks, fill_cycle}
use Rattle.filler.specs.Laws.Lanes.{hot-lt, pair_lt}

module _ (z : ℕ → Bool) (o i w : ℕ) (some : 0 < i) where
  word_more : (o n : ℕ) → word z o (suc n) ≡ digit (z o) + 2 * word z (suc o) n
  unfolding val
  word_more o n = ap₂ (λ (b : Bool) (m : ℕ). digit b + 2 * m) (ap z (add-zero o)) (val_same _ _ n (λ j l. ap z (omega arith)))

  pub word-turn : i ≤ 64 → w ≡ word z (o + i) (64 - i) → digit (z (o + (i - 1))) + 2 * w ≡ word z (o + (i - 1)) (64 - (i - 1))
  word-turn l e =
      ap (λ (m : ℕ). digit (z (o + (i - 1))) + 2 * m) (e ∙ ap (λ (a : ℕ). word z a (64 - i)) (omega arith))
      ∙ sym (word_more (o + (i - 1)) (64 - i)) ∙ ap (word z (o + (i - 1))) (omega arith)

  pub word_fits : w ≡ word z o (64 - i) → w < 2 ^ 63
  word_fits e = omega (arith, val-lt (64 - i) (λ j. z (o + j)), pow_mono {i = 64 - i} {j = 63} (omega arith))

-- ---- a word put, from its lowest bit up

pub put_is : (b : List ℕ) (k x w : ℕ) → k ≡ x → slice_set (slice_set b (2 * k) (w % 2)) (2 * k + 1) 0 ≡ put b x (bit_at w 0)
put_is b k x w e =
    ap₂ (λ (j v : ℕ). slice_set (slice_set b (2 * j) v) (2 * j + 1) 0) e
    (digit-of (w % 2) (omega arith) ∙ ap (λ (q : ℕ). digit (is_set (q % 2))) (sym (div-one w)))

module _ (w i : ℕ) {rest : ℕ} (h : rest ≡ w / 2 ^ i) where
  pub put-turn : (cpi d o : ℕ) (b₀ : List ℕ) {b : List ℕ} → b ≡ put_word cpi d o w i b₀
      → put b ((o + i) * cpi + d) (bit_at rest 0) ≡ put_word cpi d o w (i + 1) b₀
  unfolding put_word
  put-turn cpi d o b₀ e =
      ap₂ (λ (u : List ℕ) (v : Bool). put u ((o + i) * cpi + d) v) e
      (ap (λ (r : ℕ). bit_at r 0) h ∙ bit-shr w i 0 ∙ ap (bit_at w) (add-zero i))
      ∙ ap (λ (n : ℕ). put_word cpi d o w n b₀) (sym (add-one i))

pub hot-is : (x : ℕ) → x < 8 → (1 * 2 ^ x % 2 ^ 64 ≡ hot x) × (1 * 2 ^ x % 2 ^ 64 < 256)
hot-is x l = let e = shl_exact {a = 1} 1 x 64 (omega arith) (omega arith) ∙ one-mul (2 ^ x) in (e, omega (arith, e, hot-lt x l))

pub pair_is : (x : ℕ) → (17 * 2 ^ (x % 4) % 2 ^ 64 ≡ pair x) × (17 * 2 ^ (x % 4) % 2 ^ 64 < 256)
pair_is x = let e = shl_exact {a = 17} 5 (x % 4) 64 (omega arith) (omega arith) in (e, omega (arith, e, pair_lt x))

pub xor_is : (a b : Bool) → not (beq a b) ≡ a ⊻ b
xor_is = of_two _ _ refl

-- the words of fields, each field as its function gives it
pub lanes-are : (x : ℕ) {f g : Flags} {eqa pa eqb pb ca ch ch2 gates : ℕ} → f ≡ g → eqa ≡ hot x → pa ≡ pair x → eqb ≡ hot (next x)
    → pb ≡ pair (next x)
    → ca ≡ digit f.byte * eqa → ch ≡ digit f.half * eqa → ch2 ≡ digit f.half * eqb → gates ≡ pack (flags (gate_bits f))
    → eqa + 256 * (pa + 256 * (eqb + 256 * (pb + 256 * (ca + 256 * (ch + 256 * (ch2 + 256 * gates)))))) ≡ lane_word x g
unfolding lane_word
lanes-are x ef ea ep eb eq ec eh ei eg = cc

pub compare-is : (e : ℕ) (t : TopBits) (f : Flags) {s n q ceq v clt u w clu : Bool} {r : ℕ} → s ≡ t.rs1 ⊻ t.rs2 → n ≡ s ⊻ true
    → q ≡ t.t1 ⊻ t.t2
    → ceq ≡ ((bit_at e 0 ⊻ bit_at e 1) && t.zero)
    → v ≡ ((s && t.rs1) ⊻ (n && t.alu)) → clt ≡ ((bit_at e 4 ⊻ bit_at e 5) && v)
    → u ≡ ((t.t1 && t.t2) ⊻ (t.carry && q)) → w ≡ u ⊻ true → clu ≡ ((bit_at e 6 ⊻ bit_at e 7) && w)
    → r
    ≡ pack (flags ((s && t.rs1) ∷ (n && t.alu) ∷ (t.t1 && t.t2) ∷ (t.carry && q) ∷ ceq ∷ clt ∷ clu
    ∷ (not f.whole && f.load) ∷ ((not f.whole && not f.half) && f.load) ∷ []))
    → r ≡ compare_word e t f
unfolding compare_word
compare-is e t f es en eq ec ev el eu ew em er = er ∙ rw (em, ew, eu, el, ev, ec, en, es, eq)

-- ---- a cycle's blocks, written in three parts

pub cycle-is : (cpi d : ℕ) (b : List ℕ) {b₁ b₂ b₃ : List ℕ} {g : GivenWords} {w : DerivedWords} → g ≡ given_words cpi b d
    → w ≡ derived_words g
    → b₁ ≡ put_blocks cpi d (low_blocks g w) b → b₂ ≡ put_blocks cpi d (flag_blocks w) b₁ → b₃ ≡ put_blocks cpi d (high_blocks w) b₂
    → b₃ ≡ fill_cycle cpi d b
unfolding fill_cycle
cycle-is cpi d b {g = g} {w = w} eg ew e₁ e₂ e₃ =
    e₃ ∙ ap (put_blocks cpi d (high_blocks w)) (e₂ ∙ ap (put_blocks cpi d (flag_blocks w)) e₁)
    ∙ ap (λ (v : DerivedWords). put_blocks cpi d (blocks g v) b) ew
    ∙ ap (λ (h : GivenWords). put_blocks cpi d (blocks h (derived_words h)) b) eg
