-- Each test is true exactly when the condition of its number holds.
-- Assumes nothing.
use Rattle.std.specs.Prelude.{◌≡◌, ℕ, zero, suc, ◌+◌, ◌-◌, ◌*◌, ◌/◌, ◌%◌, ◌^◌, ◌<◌, Bool, true, false, not, ◌&&◌, ◌↔◌, List, [], ◌∷◌, ◌==◌, slice_index_or}
use Rattle.std.proofs.Math.Path.{refl}
use Rattle.std.proofs.Common.{sym, ap, ◌∙◌, mod-eq_of_lt, arith, eqb-true, eq-eqb}
use Rattle.std.proofs.Math.Logic.Iff.{trans as iff_trans}
use Rattle.std.proofs.lemmas.Bool.{false≢true, not-true}
use Rattle.base.specs.Bits.{◌⊻◌, word, Carries}
use Rattle.base.specs.Laws.Tests.{both_so}
use Rattle.base.specs.Laws.Values.{val-lt}
use Rattle.base.specs.Laws.Bits.{word-part}
use Rattle.field.specs.declared.Gf128.{Gf128}
use Rattle.field.specs.Gf.{same}
use Rattle.field.specs.Gf.Tests.{same_true, same_self}
use Rattle.layout.specs.Columns.{RD, LOAD-VAL, T1, T2, ALU, SUB, WE, IS-LOAD, IS-STORE, IS-ARITH, IS-SHIFT, LD-BYTE, LD-HALF, LD-WORD}
use Rattle.step.specs.Step.{opcode, offset, byte, Conditions, Condition}
use Rattle.step.proofs.Laws.Step.{offset-lt}
use Rattle.step.proofs.Laws.Conditions.{sum-bits}
use Rattle.filler.specs.Met.{words_of, flags_of, ◌⇒◌, byte_of, conditions, numbered}

-- ---- "where this, that", and what a test says

where-so : (p : Bool) {q : Bool} {Q : Type 0} → (q ≡ true) ↔ Q → ((p ⇒ q) ≡ true) ↔ (p ≡ true → Q)
where-so true h = (λ e l. h.0 e, λ g. h.1 (g refl))
where-so false h = (λ e l. absurd (false≢true l), λ g. refl)

-- a second premise, which is that a flag is not set
but-not : (p r : Bool) {Q : Type 0} → ((p && not r) ≡ true → Q) ↔ (p ≡ true → r ≡ false → Q)
but-not true r = (λ g e n. g (ap not n), λ g e. g refl (not-true r e))
but-not false r = (λ g e n. absurd (false≢true e), λ g e. absurd (false≢true e))

equal : (m n : ℕ) → ((m == n) ≡ true) ↔ (m ≡ n)
equal m n = (eqb-true m n, eq-eqb m n)

same-is : (x y : Gf128) → (same x y ≡ true) ↔ (x ≡ y)
same-is x y = (same_true x y, λ e. ap (same x) (sym e) ∙ same_self x)

-- a premise that two numbers are equal
but-equal : (m n : ℕ) {Q : Type 0} → ((m == n) ≡ true → Q) ↔ (m ≡ n → Q)
but-equal m n = (λ g e. g (eq-eqb m n e), λ g e. g (eqb-true m n e))

-- equal to other words that are equal to these
instead : {m n x y : ℕ} → m ≡ x → n ≡ y → (m ≡ n) ↔ (x ≡ y)
instead p q = (λ e. sym p ∙ e ∙ q, λ e. p ∙ e ∙ sym q)

-- each test of a list is true exactly when the proposition at its place holds
infixr 5 ◌also◌
data Tells : List Bool → List (Type 0) → Type 1 where
  end : Tells [] []
  ◌also◌ : {t : Bool} {P : Type 0} {ts : List Bool} {Ps : List (Type 0)} → (t ≡ true) ↔ P → Tells ts Ps → Tells (t ∷ ts) (P ∷ Ps)

told : {ts : List Bool} {Ps : List (Type 0)} → Tells ts Ps → (k : ℕ) → (slice_index_or ts k false ≡ true) ↔ slice_index_or Ps k ⊥
told end k = (λ e. absurd (false≢true e), λ e. absurd e)
told (h also hs) zero = h
told (h also hs) (suc k) = told hs k

module _ (b : ℕ → Bool) (output : Gf128) where
  -- is condition k met?
  abbrev pub met : ℕ → Bool
  met k = numbered (conditions (words_of b) (flags_of b) output) k

  byte-in : (o k : ℕ) → k < 8 → byte_of (word b o 64) k ≡ byte b o k
  unfolding byte_of
  byte-in o k l = word-part b o 64 (8 * k) 8 (omega arith)

  lane-so : (k j : ℕ) → k < 8 → j < 8
      → ((byte_of (word b RD 64) k == byte_of (word b LOAD-VAL 64) j) ≡ true) ↔ (byte b RD k ≡ byte b LOAD-VAL j)
  lane-so k j l m = iff_trans (equal _ _) (instead (byte-in RD k l) (byte-in LOAD-VAL j m))

  upper : word b RD 64 / 2 ^ 16 ≡ word b (RD + 16) 48
  upper =
      sym (mod-eq_of_lt {n = word b RD 64 / 2 ^ 16} {m = 2 ^ 48} (omega (arith, val-lt 64 (λ i. b (RD + i)))))
      ∙ word-part b RD 64 16 48 (omega arith)

  pub each-met : (k : ℕ) → (met k ≡ true) ↔ Condition b output k
  unfolding conditions
  each-met k = told all (k - 1)
    where
      all : Tells (conditions (words_of b) (flags_of b) output) (Conditions b output)
      all =
          where-so (b IS-ARITH) (equal _ _)
          also where-so (b IS-SHIFT) (equal _ _)
          also iff_trans (where-so (b WE && not (b IS-LOAD)) (equal _ _)) (but-not (b WE) (b IS-LOAD))
          also iff_trans (where-so (opcode b == 0x73) (both_so _ _ (equal _ _) (same-is _ _))) (but-equal (opcode b) 0x73)
          also where-so (b LD-WORD) (equal _ _)
          also where-so (b LD-BYTE) (lane-so 0 (offset b) (omega arith) (offset-lt b))
          also where-so (b LD-HALF)
          (both_so _ _ (lane-so 0 (offset b) (omega arith) (offset-lt b)) (lane-so 1 ((offset b + 1) % 8) (omega arith) (omega arith)))
          also iff_trans (where-so (b IS-LOAD && not (b LD-WORD)) (iff_trans (equal _ _) (instead upper refl)))
          (but-not (b IS-LOAD) (b LD-WORD))
          also iff_trans
          (where-so (b IS-LOAD && not (b LD-WORD) && not (b LD-HALF)) (iff_trans (equal _ _) (instead (byte-in RD 1 (omega arith)) refl)))
          (iff_trans (but-not (b IS-LOAD && not (b LD-WORD)) (b LD-HALF)) (but-not (b IS-LOAD) (b LD-WORD)))
          also where-so (b IS-LOAD ⊻ b IS-STORE) (iff_trans (equal _ _) (instead refl (word-part b ALU 64 3 8 (omega arith))))
          also end

  -- the test of condition 1, over the carries into each bit
  pub arithmetic-bits : (c : ℕ → Bool) → Carries 63 (λ i. b (T1 + i)) (λ i. b (T2 + i)) c → c 0 ≡ b SUB
      → (met 1 ≡ true) ↔ (b IS-ARITH ≡ true → (i : ℕ) → i < 64 → b (ALU + i) ≡ b (T1 + i) ⊻ b (T2 + i) ⊻ c i)
  arithmetic-bits c h e = iff_trans (each-met 1) (sum-bits b output c h e)
