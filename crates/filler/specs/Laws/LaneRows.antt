-- The rows of the byte lanes hold, where the columns are as the words say, and the gates beside them are what they say.
-- Assumes nothing.
use Rattle.std.specs.Prelude.{◌≡◌, ℕ, ◌+◌, ◌*◌, ◌%◌, ◌<◌, ◌≤◌, Bool, true, not, ◌&&◌, List}
use Rattle.std.proofs.Common.{sym, ◌∙◌, add_assoc, arith}
use Rattle.std.proofs.Math.Path.{ap}
use Rattle.base.specs.Bits.{digit, bit_of, bit_at}
use Rattle.base.specs.Lists.{All}
use Rattle.base.specs.Fields.{Field, field, pack}
use Rattle.base.specs.Laws.Lists.{◌and◌}
use Rattle.base.specs.Laws.Bits.{bit-digit}
use Rattle.base.specs.Laws.Fields.{flags-fit, Has, HasEach, has-each, gated, gated-lt}
use Rattle.layout.specs.Columns.{ONE-COL, WE, IS-LOAD, LD-BYTE, LD-HALF, LD-WORD, OFF, EQA, PA, EQB, PB, NH, WNL}
use Rattle.circuit.specs.Circuit.{product_row, is, offset_rows, lane_rows, conditional_rows}
use Rattle.step.specs.Step.{offset}
use Rattle.step.specs.Solve.{Holds}
use Rattle.step.proofs.Laws.Step.{offset-lt}
use Rattle.step.proofs.Laws.Sides.{sum_one, sum_is}
use Rattle.filler.specs.Lanes.{hot, pair, next}
use Rattle.filler.specs.Derive.{gate_bits, lane_fields, lane_word}
use Rattle.filler.specs.Met.{flags_at}
use Rattle.filler.specs.Laws.Lanes.{hot-lt, pair_lt, low_agree, third_agrees, pair-bit, hot-bit, pair-next, hot-next}
use Rattle.filler.specs.Laws.Derive.{ByWords}
use Rattle.filler.specs.Laws.Holds.{product-holds, stages-hold}

module _ (y : ℕ → Bool) (y1 : y ONE-COL ≡ true) (d : ByWords y) where
  abbrev x : ℕ
  x = offset y

  abbrev fields : List Field
  fields = lane_fields x (flags_at y)

  has-lanes : HasEach (pack fields) 0 fields
  has-lanes =
      let m : next x < 8 = omega arith in let l = offset-lt y in
      has-each fields
      (hot-lt x l and pair_lt x and hot-lt _ m and pair_lt _
      and gated-lt (y LD-BYTE) _ _ (hot-lt x l) and gated-lt (y LD-HALF) _ _ (hot-lt x l)
      and gated-lt (y LD-HALF) _ _ (hot-lt _ m) and flags-fit (gate_bits (flags_at y)))

  in-lanes : (o n v : ℕ) → Has (pack fields) o (field n v) → o + n ≤ 58 → (i : ℕ) → i < n → y (EQA + o + i) ≡ bit_at v i
  unfolding lane_word
  in-lanes o n v h l i m = ap y (add_assoc EQA o i) ∙ d.lanes (o + i) (omega arith) ∙ h i m

  eqa : (i : ℕ) → i < 8 → y (EQA + i) ≡ bit_at (hot x) i
  eqa = in-lanes 0 8 _ has-lanes.0 (omega arith)

  pa : (i : ℕ) → i < 8 → y (PA + i) ≡ bit_at (pair x) i
  pa = in-lanes 8 8 _ has-lanes.1.0 (omega arith)

  eqb : (i : ℕ) → i < 8 → y (EQB + i) ≡ bit_at (hot (next x)) i
  eqb = in-lanes 16 8 _ has-lanes.1.1.0 (omega arith)

  pb : (i : ℕ) → i < 8 → y (PB + i) ≡ bit_at (pair (next x)) i
  pb = in-lanes 24 8 _ has-lanes.1.1.1.0 (omega arith)

  -- whether OFF is v, in two stages
  offset-holds : (v p e : ℕ) → y p ≡ low_agree x v → y e ≡ (y p && third_agrees x v) → All (Holds y) (offset_rows v p e)
  offset-holds v p e = stages-hold y y1 OFF v p e (λ i. is (OFF + i) (bit_of v i)) (λ i. sum_is y y1 (OFF + i) (bit_of v i))

  pub lanes-hold : (a : ℕ) → a < 8 → All (Holds y) (lane_rows a)
  lanes-hold a l =
      let v = (a + 7) % 8 in
      let s = offset-holds a (PA + a) (EQA + a) (pa a l ∙ pair-bit x a (offset-lt y) l)
      (eqa a l ∙ hot-bit x a (offset-lt y) l ∙ ap (λ (b : Bool). b && third_agrees x a) (sym (pa a l))) in
      s.0
      and s.1.0
      and offset-holds v (PB + a) (EQB + a) (pb a l ∙ pair-next x a (offset-lt y) l)
      (eqb a l ∙ hot-next x a (offset-lt y) l ∙ ap (λ (b : Bool). b && third_agrees x v) (sym (pb a l)))

  -- lane a of a field that a flag gates
  conditional-holds : (column flag o lanes a : ℕ) → a < 8 → y (column + a) ≡ bit_at lanes a
      → Has (pack fields) o (field 8 (digit (y flag) * lanes)) → o + 8 ≤ 58
      → Holds y (product_row (column + a) flag (EQA + o + a))
  conditional-holds column flag o lanes a l here has m =
      product-holds y y1 _ _ _ (sum_one y y1 (column + a)) (sum_one y y1 flag)
      (in-lanes o 8 _ has m a l ∙ gated (y flag) lanes a ∙ ap (λ (v : Bool). v && y flag) (sym here))

  pub conditionals-hold : (a : ℕ) → a < 8 → All (Holds y) (conditional_rows a)
  conditionals-hold a l =
      let gates = has-lanes.1.1.1.1 in
      conditional-holds EQA LD-BYTE 32 (hot x) a l (eqa a l) gates.0 (omega arith)
      and conditional-holds EQA LD-HALF 40 (hot x) a l (eqa a l) gates.1.0 (omega arith)
      and conditional-holds EQB LD-HALF 48 (hot (next x)) a l (eqb a l) gates.1.1.0 (omega arith)
      and tt

  pub neither : y NH ≡ (not (y LD-WORD) && not (y LD-HALF))
  neither = in-lanes 56 1 _ has-lanes.1.1.1.1.1.1.1.0 (omega arith) 0 (omega arith) ∙ bit-digit _

  pub write-gate : y WNL ≡ (y WE && not (y IS-LOAD))
  write-gate = in-lanes 57 1 _ has-lanes.1.1.1.1.1.1.1.1.0 (omega arith) 0 (omega arith) ∙ bit-digit _
