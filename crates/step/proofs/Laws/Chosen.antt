-- A batch of any size from any choice of bits, which meets demand 3's premises: so these ask for no size and for no choice.
-- Assumes nothing.
use Rattle.std.specs.Prelude.{◌≡◌, Bool, false, cond, List, ltb, length, get_or, replicate}
use Rattle.std.proofs.Math.Path.{refl, ap, ap₂, fun_ext}
use Rattle.std.proofs.Common.{sym, ◌∙◌, arith, eqb-true, lt-ltb, ltb-true, ltb-false}
use Rattle.std.proofs.Math.Bool.{true}
use Prim.Native.Nat.{ℕ, ◌+◌, ◌*◌, ◌-◌, ◌/◌, ◌%◌, ◌^◌, ◌≤◌, ◌<◌}
use Rattle.std.proofs.lemmas.Bool.{eqb-false}
use Rattle.std.proofs.Math.Arith.{digits_lt, digits_div, digits_mod}
use Rattle.std.proofs.Math.Dec.{eqb}
use Rattle.std.proofs.Math.ListN.{length-replicate}
use Rattle.base.specs.Laws.Values.{digit_lt}
use Rattle.field.specs.declared.Gf128.{Gf128}
use Rattle.field.specs.Gf.{of_words, low, is_bit, of_bit}
use Rattle.field.specs.Gf.Tests.{is_bit-bit}
use Rattle.field.specs.Gf.Bits.{bit-words, low_bit}
use Rattle.field.specs.Gf.Laws.{words-zero, words-injective}
use Rattle.layout.specs.Laws.Mapping.{witness-column, public-column}
use Rattle.layout.specs.Batch.{batch_words}
use Rattle.verdict.specs.Row.{element_at, cycle_of, bits_of}
use Rattle.verdict.proofs.Laws.Sheet.{zeros}
use Rattle.step.specs.Filling.{NotDerived, put, put_each, filler_bits, filled}
use Rattle.step.specs.Demand3.{Premises}
use Rattle.step.proofs.Laws.Given.{SameGiven}
use Rattle.step.proofs.Laws.FillingElements.{put-length, put-here, put-elsewhere, each-length, each-here, each-other, each_word, not-derived}
use Rattle.step.proofs.Laws.Batch.{same-given}
use Rattle.field.specs.Gf as gf

-- bit b d c put into column c of cycle d, for all of them, 1 into the one column, and 0 into the public elements after it. (Batch column
-- x is column x / cpi of cycle x % cpi.)
unfoldable pub batch_of : ℕ → (ℕ → ℕ → Bool) → List ℕ
batch_of cpi b =
    put (put_each (λ x. true) (2048 * cpi) 0 (λ x. b (x % cpi) (x / cpi)) (replicate (batch_words cpi) 0)) (2048 * cpi) true

-- a cycle's bits with those of the public columns: 1 in the one column, 0 after it
abbrev pub with_one : (ℕ → Bool) → ℕ → Bool
with_one b c = cond (ltb c 2048) (b c) (eqb c 2048)

module _ (cpi : ℕ) (some : 0 < cpi) (b : ℕ → ℕ → Bool) where
  abbrev none : List ℕ
  none = replicate (batch_words cpi) 0

  abbrev chosen : ℕ → Bool
  chosen x = b (x % cpi) (x / cpi)

  abbrev columns : List ℕ
  columns = put_each (λ x. true) (2048 * cpi) 0 chosen none

  columns-length : length columns ≡ batch_words cpi
  columns-length = each-length (λ x. true) (2048 * cpi) 0 chosen none ∙ length-replicate {A = ℕ} (batch_words cpi) 0

  pub batch-length : length (batch_of cpi b) ≡ batch_words cpi
  unfolding batch_of
  batch-length = put-length columns (2048 * cpi) true ∙ columns-length

  -- ---- by batch column

  below : (x : ℕ) → x < 2048 * cpi → element_at (batch_of cpi b) x ≡ of_bit (chosen x)
  unfolding batch_of
  below x l =
      put-elsewhere columns (2048 * cpi) x true (λ e. omega arith)
      ∙ each-here (λ y. true) (2048 * cpi) 0 chosen none x (omega arith) (omega arith) refl
      (omega (arith, length-replicate {A = ℕ} (batch_words cpi) 0))

  at_one : element_at (batch_of cpi b) (2048 * cpi) ≡ gf.one
  unfolding batch_of
  at_one = put-here columns (2048 * cpi) true (omega (arith, columns-length))

  above : (x : ℕ) → 2048 * cpi < x → element_at (batch_of cpi b) x ≡ gf.zero
  unfolding batch_of
  above x l =
      put-elsewhere columns (2048 * cpi) x true (λ e. omega arith)
      ∙ each-other (λ y. true) (2048 * cpi) 0 chosen none x (λ k m e. omega arith)
      ∙ ap₂ of_words (zeros (batch_words cpi) (2 * x)) (zeros (batch_words cpi) (2 * x + 1)) ∙ words-zero

  -- so every element is a bit
  pub is-bit : (x : ℕ) → (k : Bool) × (element_at (batch_of cpi b) x ≡ of_bit k)
  is-bit x = go (ltb x (2048 * cpi)) (eqb x (2048 * cpi)) refl refl
    where
      go : (i j : Bool) → ltb x (2048 * cpi) ≡ i → eqb x (2048 * cpi) ≡ j → (k : Bool) × (element_at (batch_of cpi b) x ≡ of_bit k)
      go true j p q = (chosen x, below x (ltb-true x (2048 * cpi) p))
      go false true p q = (true, ap (element_at (batch_of cpi b)) (eqb-true x (2048 * cpi) q) ∙ at_one)
      go false false p q =
          let l = ltb-false x (2048 * cpi) p in let n = eqb-false x (2048 * cpi) q in
          (false, above x (omega arith))

  fit : (i : ℕ) → get_or (batch_of cpi b) i 0 < 2 ^ 64
  fit =
      each_word (λ (i : ℕ). get_or (batch_of cpi b) i 0 < 2 ^ 64)
      (λ x. let k = is-bit x in
      let w = words-injective _ _ _ _ (k.1 ∙ sym (bit-words k.0)) in
      (omega (arith, w.0, digit_lt k.0), omega (arith, w.1)))

  -- ---- by cycle and column

  module _ (d : ℕ) (l : d < cpi) where
    witness-bit : (c : ℕ) → c < 2048 → cycle_of cpi (batch_of cpi b) d c ≡ of_bit (b d c)
    unfolding cycle_of
    witness-bit c m =
        ap (element_at (batch_of cpi b)) (witness-column cpi c d m) ∙ below (c * cpi + d) (digits_lt m l)
        ∙ ap₂ (λ (i j : ℕ). of_bit (b i j)) (digits_mod c l) (digits_div c l)

    public-bit : (c : ℕ) → 2048 < c → cycle_of cpi (batch_of cpi b) d c ≡ gf.zero
    unfolding cycle_of
    public-bit c m = ap (element_at (batch_of cpi b)) (public-column cpi c d (omega arith)) ∙ above (2048 * cpi + (c - 2048)) (omega arith)

    one-column : cycle_of cpi (batch_of cpi b) d 2048 ≡ gf.one
    unfolding cycle_of
    one-column = ap (element_at (batch_of cpi b)) (public-column cpi 2048 d (omega arith) ∙ omega arith) ∙ at_one

    pub cycle-is : (c : ℕ) → cycle_of cpi (batch_of cpi b) d c ≡ of_bit (with_one (b d) c)
    cycle-is c = go (ltb c 2048) (eqb c 2048) refl refl
      where
        go : (i j : Bool) → ltb c 2048 ≡ i → eqb c 2048 ≡ j → cycle_of cpi (batch_of cpi b) d c ≡ of_bit (cond i (b d c) j)
        go true j p q = witness-bit c (ltb-true c 2048 p)
        go false true p q = ap (cycle_of cpi (batch_of cpi b) d) (eqb-true c 2048 q) ∙ one-column
        go false false p q = let m = ltb-false c 2048 p in let n = eqb-false c 2048 q in public-bit c (omega arith)

    pub all-bits-of : bits_of cpi (batch_of cpi b) d ≡ with_one (b d)
    unfolding bits_of
    all-bits-of = fun_ext (λ c. ap (λ (x : Gf128). eqb (low x) 1) (cycle-is c) ∙ low_bit (with_one (b d) c))

    -- the batch holds the bits that were chosen
    pub bits-of : (c : ℕ) → c < 2048 → bits_of cpi (batch_of cpi b) d c ≡ b d c
    bits-of c m = ap (λ (f : ℕ → Bool). f c) all-bits-of ∙ ap (λ (k : Bool). cond k (b d c) (eqb c 2048)) (lt-ltb c 2048 m)

  -- and meets demand 3's premises
  pub premises-of : Premises cpi (batch_of cpi b)
  premises-of =
      record {
        words = batch-length;
        fit = fit;
        given = λ c d m l e. ap is_bit (witness-bit d l c m) ∙ is_bit-bit (b d c);
        one-is = at_one;
      }

  -- so does its filling, in the given columns
  pub filled-given : (d : ℕ) → d < cpi → SameGiven (bits_of cpi (filled cpi (batch_of cpi b)) d) (with_one (b d))
  unfolding filled
  filled-given d l c e =
      same-given cpi some (batch_of cpi b) premises-of (filler_bits cpi (batch_of cpi b)) d l c e
      ∙ ap (λ (f : ℕ → Bool). f c) (all-bits-of d l)

-- ---- nor do the premises ask anything of the derived columns and of the public ones behind the one column: whatever else stands there,
-- as words, they are met

pub premises-whatever : (cpi : ℕ) (u w : List ℕ) → Premises cpi w → length u ≡ length w → ((i : ℕ) → get_or u i 0 < 2 ^ 64)
    → ((x : ℕ) → x ≤ 2048 * cpi → NotDerived cpi x → element_at u x ≡ element_at w x) → Premises cpi u
unfolding cycle_of
premises-whatever cpi u w p lengths words-fit same =
    record {
      words = lengths ∙ p.words;
      fit = words-fit;
      given = λ c d m l e.
          let inside : c * cpi + d < 2048 * cpi = digits_lt m l in
          ap is_bit (same _ (omega (arith, witness-column cpi c d m)) (not-derived cpi c d l e)) ∙ p.given c d m l e;
      one-is = same (2048 * cpi) (omega arith) (λ l e. omega arith) ∙ p.one-is;
    }
