-- What the determining rows come to, family by family: carries, lanes, gates, chains, comparisons and the mux, over bits.
-- Assumes nothing.
use Rattle.std.specs.Prelude.{◌≡◌, refl, Bool, true, false, not, List, [], ◌∷◌}
use Rattle.std.proofs.Math.Path.{sym, ap, ap₂}
use Rattle.std.proofs.Common.{◌∙◌, true≢false, add-zero, arith}
use Rattle.std.proofs.Math.Bool.{◌&&◌, and-true}
use Rattle.std.proofs.lemmas.Bool.{false≢true}
use Prim.Native.Nat.{ℕ, suc, ◌+◌, ◌-◌, ◌%◌, ◌<◌}
use Rattle.std.proofs.Math.Dec.{eqb}
use Rattle.base.specs.Bits.{val, bit_of, ◌⊻◌, word, is_set, majority, Carries, signed_less, alike}
use Rattle.base.specs.Lists.{All, from}
use Rattle.base.specs.Laws.Values.{no_bits}
use Rattle.base.specs.Laws.From.{all_from, all-each}
use Rattle.base.specs.Laws.Cases.{of_three, of_four, xor-false, xor-cancel}
use Rattle.base.specs.Laws.Numbers.{val-bits}
use Rattle.base.specs.Laws.Chain.{chain, two-stages}
use Rattle.layout.specs.Columns.{ONE-COL, RS1, RS2, T1, T2, CARRY-OFF, ALU, SUB, WE, IS-LOAD, HALT, LD-BYTE, LD-HALF, LD-WORD, TAKEN, OFF, FETCH-OP, FETCH-FUNCT3, EQA, PA, EQB, PB, CA, CH, CH2, NH, WNL, ZERO, OPSYS, OPBR, EQFM, EQF, LTSA, LTSB, LTUA, LTUB, CEQ, CLT, CLU, ZE16, ZE8}
use Rattle.circuit.specs.Rows.{Term}
use Rattle.circuit.specs.Circuit.{col, one_term, row, is, is_of, adder_row, offset_rows, lane_rows, conditional_rows, chain_start, chain_next, opcode_rows, funct3_rows}
use Rattle.verdict.specs.OverBits.{sum_bits}
use Rattle.step.specs.Step.{opcode, funct3, offset}
use Rattle.step.specs.Solve.{lacks, Holds}
use Rattle.step.specs.Determining.{before_halt, after_halt, determining_families}
use Rattle.step.proofs.Laws.Sides.{sum_one, sum_more, sum-two, sum-not, sum-three, sum-six, sum_is, sum-is_of}

pub record Determined (b : ℕ → Bool) : Type 0 where
  pub first-carry : b CARRY-OFF ≡ b SUB
  pub carries : Carries 63 (λ i. b (T1 + i)) (λ i. b (T2 + i)) (λ i. b (CARRY-OFF + i))
  pub byte_lane : (a : ℕ) → a < 8 → b (CA + a) ≡ (eqb (offset b) a && b LD-BYTE)
  pub half-lane : (a : ℕ) → a < 8 → b (CH + a) ≡ (eqb (offset b) a && b LD-HALF)
  pub next-lane : (a : ℕ) → a < 8 → b (CH2 + a) ≡ (eqb (offset b) ((a + 7) % 8) && b LD-HALF)
  pub extend16 : b ZE16 ≡ (not (b LD-WORD) && b IS-LOAD)
  pub extend8 : b ZE8 ≡ ((not (b LD-WORD) && not (b LD-HALF)) && b IS-LOAD)
  pub write-gate : b WNL ≡ (b WE && not (b IS-LOAD))
  pub zero-alu : b (ZERO + 63) ≡ eqb (word b ALU 64) 0
  pub halt : b HALT ≡ eqb (opcode b) 0x73
  pub branch : b (OPBR + 6) ≡ eqb (opcode b) 0x63
  pub funct3-is : (f : ℕ) → f < 8 → b (EQF + f) ≡ eqb (funct3 b) f
  pub less-signed : (b LTSA ⊻ b LTSB) ≡ signed_less (b (RS1 + 63)) (b (RS2 + 63)) (b (ALU + 63))
  pub no-carry-out : (b LTUA ⊻ b LTUB ⊻ true) ≡ not (majority (b (T1 + 63)) (b (T2 + 63)) (b (CARRY-OFF + 63)))
  pub equal-mux : b CEQ ≡ ((b EQF ⊻ b (EQF + 1)) && b (ZERO + 63))
  pub signed-mux : b CLT ≡ ((b (EQF + 4) ⊻ b (EQF + 5)) && (b LTSA ⊻ b LTSB))
  pub unsigned-mux : b CLU ≡ ((b (EQF + 6) ⊻ b (EQF + 7)) && (b LTUA ⊻ b LTUB ⊻ true))
  pub taken : b TAKEN ≡ (b (OPBR + 6) && (b CEQ ⊻ b (EQF + 1) ⊻ b CLT ⊻ b (EQF + 5) ⊻ b CLU ⊻ b (EQF + 7)))

-- ---- identities of bits

adder-says : (a b c d : Bool) → (((a ⊻ (c ⊻ false)) && (b ⊻ (c ⊻ false))) ⊻ (d ⊻ (c ⊻ false))) ≡ d ⊻ majority a b c
adder-says = of_four _ _ refl

linear : (a o : Bool) → o ≡ true → ((a && (o ⊻ false)) ⊻ false) ≡ false → a ≡ false
linear true true p e = absurd (true≢false e)
linear true false p e = absurd (false≢true p)
linear false o p e = refl

no-out : (a b c : Bool) → ((a && b) ⊻ (c && (a ⊻ b)) ⊻ true) ≡ not (majority a b c)
no-out = of_three _ _ refl

-- ---- sides and rows over bits, the one column 1

module _ (b : ℕ → Bool) (b1 : b ONE-COL ≡ true) where
  -- a row whose C is one column
  product-row : (l m : List Term) (p : ℕ) {x y : Bool} → sum_bits b l ≡ x → sum_bits b m ≡ y → Holds b (row l m (col p ∷ [])) → b p ≡ (x && y)
  unfolding lacks sum_bits
  product-row l m p e f h = sym (xor-cancel (sum_bits b l && sum_bits b m) (b p ⊻ false) h ∙ xor-false (b p)) ∙ ap₂ ◌&&◌ e f

  -- a row that sets a side to zero: B is the one column, and C is empty
  zero_row_lem : (l : List Term) → Holds b (row l (one_term ∷ []) []) → sum_bits b l ≡ false
  unfolding lacks sum_bits
  zero_row_lem l h = linear (sum_bits b l) (b ONE-COL) b1 h

  first-row : (x : ℕ) (test : List Term) → Holds b (chain_start x test) → b x ≡ sum_bits b test
  first-row x test h = xor-cancel (b x) (sum_bits b test) (sym (sum_more b b1 x test refl) ∙ zero_row_lem (col x ∷ test) h)

  -- ---- the families

  chain-rows : (x y n : ℕ) (k : ℕ → ℕ) (test : ℕ → List Term) → ((i : ℕ) → sum_bits b (test i) ≡ alike (b (y + i)) (is_set (k i)))
      → All (Holds b) (chain_start x (test 0) ∷ from 1 n (λ i. chain_next x i (test i)))
      → b (x + n) ≡ eqb (word b y (suc n)) (val (λ i. is_set (k i)) (suc n))
  chain-rows x y n k test e h =
      chain (λ i. b (y + i)) (λ i. is_set (k i)) n (λ i. b (x + i)) (
        ap b (add-zero x) ∙ first-row x (test 0) h.0 ∙ e 0,
        λ i l. product-row _ _ _ (sum_one b b1 (x + suc i - 1)) (e (suc i))
            ((all_from (Holds b) 1 n (λ i. chain_next x i (test i))).0 h.1 (suc i) (omega arith) (omega arith))
            ∙ ap (λ (c : ℕ). b c && alike (b (y + suc i)) (is_set (k (suc i)))) (omega arith),
      )

  opcode-rows : (x op : ℕ) → op < 128 → All (Holds b) (opcode_rows x op) → b (x + 6) ≡ eqb (opcode b) op
  opcode-rows x op l h =
      chain-rows x FETCH-OP 6 (bit_of op) (λ i. is_of (FETCH-OP + i) (bit_of op i)) (λ i. sum-is_of b b1 (FETCH-OP + i) (bit_of op i)) h
      ∙ ap (eqb (opcode b)) (val-bits 7 op l)

  offset-rows : (v p e : ℕ) → v < 8 → All (Holds b) (offset_rows v p e) → b e ≡ eqb (offset b) v
  offset-rows v p e l h =
      two-stages (λ i. b (OFF + i)) (λ i. is_set (bit_of v i)) (b p) (b e)
      (product-row _ _ _ (sum_is b b1 OFF (bit_of v 0)) (sum_is b b1 (OFF + 1) (bit_of v 1)) h.0)
      (product-row _ _ _ (sum_one b b1 p) (sum_is b b1 (OFF + 2) (bit_of v 2)) h.1.0)
      ∙ ap (eqb (offset b)) (val-bits 3 v l)

  funct3-rows : (f : ℕ) → f < 8 → All (Holds b) (funct3_rows f) → b (EQF + f) ≡ eqb (funct3 b) f
  funct3-rows f l h =
      two-stages (λ i. b (FETCH-FUNCT3 + i)) (λ i. is_set (bit_of f i)) (b (EQFM + f)) (b (EQF + f))
      (product-row _ _ _ (sum-is_of b b1 FETCH-FUNCT3 (bit_of f 0)) (sum-is_of b b1 (FETCH-FUNCT3 + 1) (bit_of f 1)) h.0)
      (product-row _ _ _ (sum_one b b1 (EQFM + f)) (sum-is_of b b1 (FETCH-FUNCT3 + 2) (bit_of f 2)) h.1.0)
      ∙ ap (eqb (funct3 b)) (val-bits 3 f l)

  adder-row : (i : ℕ) → Holds b (adder_row i) → b (CARRY-OFF + suc i) ≡ majority (b (T1 + i)) (b (T2 + i)) (b (CARRY-OFF + i))
  unfolding lacks sum_bits
  adder-row i h = xor-cancel _ _ (sym (adder-says (b (T1 + i)) (b (T2 + i)) (b (CARRY-OFF + i)) (b (CARRY-OFF + suc i))) ∙ h)

  pub determined : All (All (Holds b)) determining_families → Determined b
  unfolding before_halt after_halt
  determined h =
      let lanes : ((a : ℕ) → a < 8 → All (Holds b) (lane_rows a)) =
      λ a l. (all-each (Holds b) 0 8 lane_rows).0 h.1.1.1.0 a (omega arith) (omega arith) in
      let conditionals : ((a : ℕ) → a < 8 → All (Holds b) (conditional_rows a)) =
      λ a l. (all-each (Holds b) 0 8 conditional_rows).0 h.1.1.1.1.0 a (omega arith) (omega arith) in
      let gates = h.1.1.1.1.1 in
      let chains = gates.1.1.1 in
      let last = chains.1.1.1.1.1 in
      let compare = last.0 in
      let mux = last.1.0 in
      let lane : ((a : ℕ) → a < 8 → b (EQA + a) ≡ eqb (offset b) a) = λ a l. offset-rows a (PA + a) (EQA + a) l
      ((lanes a l).0, ((lanes a l).1.0, tt)) in
      let lane-before : ((a : ℕ) → a < 8 → b (EQB + a) ≡ eqb (offset b) ((a + 7) % 8)) =
      λ a l. offset-rows ((a + 7) % 8) (PB + a) (EQB + a) (omega arith) (lanes a l).1.1 in
      record {
        first-carry = product-row _ _ _ (sum_one b b1 SUB) (sum_one b b1 ONE-COL ∙ b1) h.0.0 ∙ and-true (b SUB);
        carries = λ i l. adder-row i ((all_from (Holds b) 0 63 adder_row).0 h.1.0 i (omega arith) (omega arith));
        byte_lane = λ a l. product-row _ _ _ (sum_one b b1 (EQA + a) ∙ lane a l) (sum_one b b1 LD-BYTE) (conditionals a l).0;
        half-lane = λ a l. product-row _ _ _ (sum_one b b1 (EQA + a) ∙ lane a l) (sum_one b b1 LD-HALF) (conditionals a l).1.0;
        next-lane = λ a l. product-row _ _ _ (sum_one b b1 (EQB + a) ∙ lane-before a l) (sum_one b b1 LD-HALF) (conditionals a l).1.1.0;
        extend16 = product-row _ _ _ (sum-not b b1 LD-WORD) (sum_one b b1 IS-LOAD) gates.1.0.0;
        extend8 =
            product-row _ _ _ (sum_one b b1 NH ∙ product-row _ _ _ (sum-not b b1 LD-WORD) (sum-not b b1 LD-HALF) gates.0.0)
            (sum_one b b1 IS-LOAD) gates.1.1.0.0;
        write-gate = product-row _ _ _ (sum_one b b1 WE) (sum-not b b1 IS-LOAD) last.1.1.1.0.0;
        zero-alu = chain-rows ZERO ALU 63 (λ i. 0) (λ i. is (ALU + i) 0) (λ i. sum_is b b1 (ALU + i) 0) chains.0
            ∙ ap (eqb (word b ALU 64)) (no_bits 64);
        halt =
            xor-cancel (b HALT) (b (OPSYS + 6)) (sym (sum-two b b1 HALT (OPSYS + 6)) ∙ zero_row_lem _ chains.1.1.1.0.0)
            ∙ opcode-rows OPSYS 0x73 (omega arith) chains.1.0;
        branch = opcode-rows OPBR 0x63 (omega arith) chains.1.1.0;
        funct3-is = λ f l. funct3-rows f l ((all-each (Holds b) 0 8 funct3_rows).0 chains.1.1.1.1.0 f (omega arith) (omega arith));
        less-signed =
            ap₂ ◌⊻◌ (product-row _ _ _ (sum-two b b1 (RS1 + 63) (RS2 + 63)) (sum_one b b1 (RS1 + 63)) compare.0)
            (product-row _ _ _ (sum-three b b1 (RS1 + 63) (RS2 + 63)) (sum_one b b1 (ALU + 63)) compare.1.0);
        no-carry-out =
            ap₂ (λ (x y : Bool). x ⊻ y ⊻ true) (product-row _ _ _ (sum_one b b1 (T1 + 63)) (sum_one b b1 (T2 + 63)) compare.1.1.0)
            (product-row _ _ _ (sum_one b b1 (CARRY-OFF + 63)) (sum-two b b1 (T1 + 63) (T2 + 63)) compare.1.1.1.0)
            ∙ no-out (b (T1 + 63)) (b (T2 + 63)) (b (CARRY-OFF + 63));
        equal-mux = product-row _ _ _ (sum-two b b1 EQF (EQF + 1)) (sum_one b b1 (ZERO + 63)) mux.0;
        signed-mux = product-row _ _ _ (sum-two b b1 (EQF + 4) (EQF + 5)) (sum-two b b1 LTSA LTSB) mux.1.0;
        unsigned-mux = product-row _ _ _ (sum-two b b1 (EQF + 6) (EQF + 7)) (sum-three b b1 LTUA LTUB) mux.1.1.0;
        taken = product-row _ _ _ (sum_one b b1 (OPBR + 6)) (sum-six b b1 CEQ (EQF + 1) CLT (EQF + 5) CLU (EQF + 7)) last.1.1.0.0;
      }
