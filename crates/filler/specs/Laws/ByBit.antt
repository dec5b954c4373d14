-- The filler's words bit by bit: carries, chains and lanes as recursions and equalities, with no word operation in them.
-- Assumes nothing.
use Rattle.std.specs.Prelude.{◌≡◌, ℕ, zero, suc, ◌*◌, ◌%◌, ◌^◌, ◌<◌, ◌≤◌, Bool, true, not, ◌&&◌, ◌||◌, ◌==◌, nat_eq, refl}
use Rattle.std.proofs.Math.Path.{sym, ap₂}
use Rattle.std.proofs.Common.{ap, ◌∙◌, mod-lt, lt_of_lt_of_le, arith, pow_pos}
use Rattle.std.specs.Int.Bits.{bit_xor}
use Rattle.std.proofs.lemmas.Nat.{xor_lt}
use Rattle.base.specs.Bits.{digit, val, ◌⊻◌, Carries, alike, bit_at}
use Rattle.base.specs.Lists.{all_below}
use Rattle.base.specs.Laws.Lists.{same-below}
use Rattle.base.specs.Laws.Cases.{alike-not}
use Rattle.base.specs.Laws.Numbers.{made_of}
use Rattle.base.specs.Laws.Chain.{Chained}
use Rattle.base.specs.Laws.Bits.{bit_cut, bit-xor, carries-into, carry-bit, run-first, run-next}
use Rattle.base.specs.Laws.Fields.{gated, gated-lt}
use Rattle.filler.specs.Lanes.{hot, pair}
use Rattle.filler.specs.Derive.{carry_word, run_word, opcode_run}
use Rattle.filler.specs.Laws.Lanes.{hot-lt, pair_lt, by-lanes}

-- ---- the carries of a sum

pub carry-bits : (a b : ℕ) (c : ℕ → Bool) → Carries 63 (bit_at a) (bit_at b) c → a < 2 ^ 64 → b < 2 ^ 64 → (i : ℕ) → i < 64
    → bit_at (carry_word a b (digit (c 0))) i ≡ c i
unfolding carry_word
carry-bits a b c h f g i l = carry-bit 63 a b (c 0) f g i l ∙ carries-into 63 a b c h i (omega arith)

-- ---- chains: with a test of each bit, those of the bits below it

module _ (x : ℕ) (l : x < 2 ^ 64) (n : ℕ) (small : n < 64) (test p : ℕ → Bool) (first : p 0 ≡ test 0)
    (next : (i : ℕ) → i < n → p (suc i) ≡ (p i && test (suc i))) (tests : (i : ℕ) → i ≤ n → not (bit_at x i) ≡ test i) where
  pub run-bits : (i : ℕ) → i ≤ n → bit_at (run_word x) i ≡ p i
  unfolding run_word
  run-bits zero m = run-first 63 x l ∙ tests 0 m ∙ sym first
  run-bits (suc i) m =
      run-next 63 x l i (omega arith) ∙ ap₂ ◌&&◌ (run-bits i (omega arith)) (tests (suc i) m) ∙ sym (next i (omega arith))

pub opcode-field : (op k : ℕ) → op < 2 ^ 7 → k < 2 ^ 7 → (p : ℕ → Bool) → Chained (bit_at op) (bit_at k) 6 p
    → val p 7 % 2 ^ 7 ≡ opcode_run op k
opcode-field op k f g p h =
    made_of 7 (opcode_run op k) p (mod-lt _ (pow_pos 7))
    (λ i l. bit_cut (run_word (bit_xor op k)) 7 i l
    ∙ run-bits (bit_xor op k) (lt_of_lt_of_le (xor_lt 7 op k f g) (omega arith)) 6 (omega arith)
    (λ i. alike (bit_at op i) (bit_at k i)) p h.0 h.1
    (λ i m. ap not (bit-xor op k i) ∙ sym (alike-not (bit_at op i) (bit_at k i))) i (omega arith))

-- ---- a lane or funct3 compared with each number below 8

module _ (x : ℕ) (l : x < 8) where
  hot-is : (i : ℕ) → i < 8 → bit_at (hot x) i ≡ (x == i)
  hot-is i = by-lanes (λ x. bit_at (hot x)) nat_eq refl x i l

  pair_is : (i : ℕ) → i < 8 → bit_at (pair x) i ≡ (x % 4 == i % 4)
  pair_is i = by-lanes (λ x. bit_at (pair x)) (λ x i. nat_eq (x % 4) (i % 4)) refl x i l

  pub hot-field : val (λ k. nat_eq x k) 8 % 2 ^ 8 ≡ hot x
  hot-field = made_of 8 (hot x) _ (hot-lt x l) hot-is

  pub pair-field : val (λ k. nat_eq (x % 4) (k % 4)) 8 % 2 ^ 8 ≡ pair x
  pair-field = made_of 8 (pair x) _ (pair_lt x) pair_is

  pub gated-field : (b : Bool) → val (λ k. (x == k) && b) 8 % 2 ^ 8 ≡ digit b * hot x
  gated-field b =
      made_of 8 (digit b * hot x) _ (gated-lt b (hot x) _ (hot-lt x l)) (λ i m. gated b (hot x) i ∙ ap (λ (e : Bool). e && b) (hot-is i m))

  -- it is one of two
  pub one_of_two : (i j : ℕ) → all_below 8 (λ x. not ((bit_at (hot x) i ⊻ bit_at (hot x) j) ⊻ (x == i || x == j))) ≡ true
      → bit_at (hot x) i ⊻ bit_at (hot x) j ≡ (x == i || x == j)
  one_of_two i j t = same-below 8 (λ x. bit_at (hot x) i ⊻ bit_at (hot x) j) (λ x. (x == i) || x == j) t x l
