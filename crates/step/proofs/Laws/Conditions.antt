-- Where the determining rows hold, the other rows hold exactly when the ten step conditions do. What the other rows say of a
-- cycle is the record `Others`: three of the conditions as they stand, and the rest over derived columns.
-- Assumes nothing.
use Rattle.std.specs.Prelude.{◌≡◌, refl, ◌↔◌, Bool, true, not, ◌&&◌, ℕ, ◌+◌, ◌*◌, ◌%◌, ◌^◌, ◌<◌, eqb}
use Rattle.std.proofs.Common.{sym, ap, ap₂, subst, ◌∙◌, arith, eqb-true, eq-eqb}
use Rattle.std.proofs.lemmas.Bool.{not-true}
use Rattle.base.specs.Bits.{digit, ◌⊻◌, word, Carries}
use Rattle.base.specs.Laws.Tests.{both}
use Rattle.base.specs.Laws.Adder.{wrapping-sum}
use Rattle.field.specs.declared.Gf128.{Gf128}
use Rattle.field.specs.Gf.{of_words}
use Rattle.layout.specs.Columns.{RS1, RD, LOAD-VAL, T1, T2, CARRY-OFF, ALU, SUB, WE, IS-LOAD, IS-ARITH, HALT, LD-BYTE, LD-HALF, LD-WORD, CA, CH, CH2, WNL, ZE16, ZE8}
use Rattle.step.specs.Step.{offset, byte, Condition, Step}
use Rattle.step.proofs.Laws.Step.{offset-lt}
use Rattle.step.proofs.Laws.Determined.{Determined}

-- where column x is 1, the words at y and z agree in their low n bits
abbrev pub Agree : (ℕ → Bool) → ℕ → ℕ → ℕ → ℕ → Type 0
Agree b n x y z = b x ≡ true → (i : ℕ) → i < n → b (y + i) ≡ b (z + i)

-- where it is, they are one number
abbrev pub Same : (ℕ → Bool) → ℕ → ℕ → ℕ → ℕ → Type 0
Same b n x y z = b x ≡ true → word b y n ≡ word b z n

-- the adder's bits: each is the sum of both words' and the carry
abbrev pub Summed : (ℕ → Bool) → Type 0
Summed b = (i : ℕ) → i < 64 → b (ALU + i) ≡ b (T1 + i) ⊻ b (T2 + i) ⊻ b (CARRY-OFF + i)

pub record Others (b : ℕ → Bool) (output : Gf128) : Type 0 where
  pub write : Same b 64 WNL ALU RD
  pub sum : b IS-ARITH ≡ true → Summed b
  pub output-is : b HALT ≡ true → output ≡ of_words (word b RD 64) 0
  pub halt : Same b 64 HALT RD RS1
  pub shift : Condition b output 2
  pub load_word : Condition b output 5
  pub byte_lane : (a : ℕ) → a < 8 → Same b 8 (CA + a) (LOAD-VAL + 8 * a) RD
  pub half-lane : (a : ℕ) → a < 8 → Same b 8 (CH + a) (LOAD-VAL + 8 * a) RD
  pub next-lane : (a : ℕ) → a < 8 → Same b 8 (CH2 + a) (LOAD-VAL + 8 * a) (RD + 8)
  pub extend16 : b ZE16 ≡ true → word b (RD + 16) 48 ≡ 0
  pub extend8 : b ZE8 ≡ true → word b (RD + 8) 8 ≡ 0
  pub address : Condition b output 10

-- the wrapping sum of condition 1, bit by bit: over the carries into each bit, as the carry columns hold them
pub sum-bits : (b : ℕ → Bool) (output : Gf128) (c : ℕ → Bool) → Carries 63 (λ i. b (T1 + i)) (λ i. b (T2 + i)) c → c 0 ≡ b SUB
    → Condition b output 1 ↔ (b IS-ARITH ≡ true → (i : ℕ) → i < 64 → b (ALU + i) ≡ b (T1 + i) ⊻ b (T2 + i) ⊻ c i)
sum-bits b output c h e =
    let k = wrapping-sum 63 (λ i. b (T1 + i)) (λ i. b (T2 + i)) c (λ i. b (ALU + i)) h in
    let s = ap (λ (x : Bool). (word b T1 64 + word b T2 64 + digit x) % 2 ^ 64) e in
    (λ g p. k.0 (g p ∙ sym s), λ g p. k.1 (g p) ∙ s)

and-of : {a b : Bool} → a ≡ true → b ≡ true → (a && b) ≡ true
and-of p q = ap₂ ◌&&◌ p q

module _ (b : ℕ → Bool) (output : Gf128) (f : Determined b) where
  sums : Condition b output 1 ↔ (b IS-ARITH ≡ true → Summed b)
  sums = sum-bits b output (λ i. b (CARRY-OFF + i)) f.carries f.first-carry

  at-lane : (x : Bool) (k : ℕ) → offset b ≡ k → x ≡ true → (eqb (offset b) k && x) ≡ true
  at-lane x k e p = and-of (eq-eqb (offset b) k e) p

  pub conditions-hold : Others b output → Step b output
  conditions-hold r =
      record {
        arithmetic = sums.1 r.sum;
        shift = r.shift;
        write = λ e l. sym (r.write (f.write-gate ∙ and-of e (ap not l)));
        system = λ e. let h = f.halt ∙ eq-eqb _ _ e in (r.halt h, r.output-is h);
        load_word = r.load_word;
        load_byte = λ e.
            sym (r.byte_lane (offset b) (offset-lt b) (f.byte_lane (offset b) (offset-lt b) ∙ at-lane (b LD-BYTE) (offset b) refl e));
        load-half = λ e. (
          sym (r.half-lane (offset b) (offset-lt b) (f.half-lane (offset b) (offset-lt b) ∙ at-lane (b LD-HALF) (offset b) refl e)),
          sym
              (r.next-lane ((offset b + 1) % 8) (omega arith)
              (f.next-lane ((offset b + 1) % 8) (omega arith) ∙ at-lane (b LD-HALF) (((offset b + 1) % 8 + 7) % 8)
              (omega (arith, offset-lt b)) e)),
        );
        upper-zero = λ e w. r.extend16 (f.extend16 ∙ and-of (ap not w) e);
        second-zero = λ e w h. r.extend8 (f.extend8 ∙ and-of (and-of (ap not w) (ap not h)) e);
        address = r.address;
      }

  lane-at : (x : Bool) (k : ℕ) → (eqb (offset b) k && x) ≡ true → (offset b ≡ k) × (x ≡ true)
  lane-at x k e = let p = both (eqb (offset b) k) x e in (eqb-true (offset b) k p.0, p.1)

  -- lane j of LOAD_VAL is a byte of RD, and lane a is lane j
  lane-moves : (o : ℕ) {j a : ℕ} → j ≡ a → word b o 8 ≡ byte b LOAD-VAL j → byte b LOAD-VAL a ≡ word b o 8
  lane-moves o e h = subst (λ (k : ℕ). byte b LOAD-VAL k ≡ word b o 8) e (sym h)

  pub others-hold : Step b output → Others b output
  others-hold s =
      record {
        write = λ e.
            let p = both (b WE) (not (b IS-LOAD)) (sym f.write-gate ∙ e) in sym (s.write p.0 (not-true (b IS-LOAD) p.1));
        sum = sums.0 s.arithmetic;
        output-is = λ e. (s.system (eqb-true _ _ (sym f.halt ∙ e))).1;
        halt = λ e. (s.system (eqb-true _ _ (sym f.halt ∙ e))).0;
        shift = s.shift;
        load_word = s.load_word;
        byte_lane = λ a l e. let k = lane-at (b LD-BYTE) a (sym (f.byte_lane a l) ∙ e) in lane-moves RD k.0 (s.load_byte k.1);
        half-lane = λ a l e. let k = lane-at (b LD-HALF) a (sym (f.half-lane a l) ∙ e) in lane-moves RD k.0 (s.load-half k.1).0;
        next-lane = λ a l e.
            let k = lane-at (b LD-HALF) ((a + 7) % 8) (sym (f.next-lane a l) ∙ e) in
            lane-moves (RD + 8) (omega (arith, k.0)) (s.load-half k.1).1;
        extend16 = λ e.
            let p = both (not (b LD-WORD)) (b IS-LOAD) (sym f.extend16 ∙ e) in s.upper-zero p.1 (not-true (b LD-WORD) p.0);
        extend8 = λ e.
            let p = both (not (b LD-WORD) && not (b LD-HALF)) (b IS-LOAD) (sym f.extend8 ∙ e) in
            let q = both (not (b LD-WORD)) (not (b LD-HALF)) p.0 in
            s.second-zero p.1 (not-true (b LD-WORD) q.0) (not-true (b LD-HALF) q.1);
        address = s.address;
      }
