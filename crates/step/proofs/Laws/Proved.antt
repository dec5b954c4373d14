-- Demand 3 proved: of any listing of the house rows and further bin rows, and so of the house listing and of the strict one.
-- Assumes nothing.
use Rattle.std.specs.Prelude.{◌≡◌, ◌↔◌, Bool, not, ℕ, ◌+◌, ◌*◌, ◌≤◌, ◌<◌, length, Ok}
use Rattle.std.proofs.Math.Path.{refl, ap}
use Rattle.std.proofs.Common.{sym, ◌∙◌, arith}
use Rattle.std.proofs.Math.Bool.{true, false, false≢true}
use mathlib.Core.List.{List}
use Rattle.std.proofs.Math.Dec.{eqb}
use Rattle.base.specs.Bits.{digit, word}
use Rattle.base.specs.Lists.{All}
use Rattle.base.specs.Laws.Values.{same_bits_lem}
use Rattle.base.specs.Laws.Cases.{no_true}
use Rattle.field.specs.declared.Gf128.{Gf128}
use Rattle.field.specs.Gf.{low, of_bit}
use Rattle.field.specs.Gf.Bits.{low_bit}
use Rattle.layout.specs.Columns.{ONE-COL, RS1, RS2, HALT, TAKEN}
use Rattle.layout.specs.Batch.{allowed, scratch_fits}
use Rattle.layout.specs.Laws.Sizes.{allowed-range}
use Rattle.circuit.specs.Rows.{Sides}
use Rattle.circuit.specs.Circuit.{circuit_words}
use Rattle.strict.specs.declared.Known.{Known}
use Rattle.strict.specs.declared.Known.TheVariants.{House, Strict}
use Rattle.strict.specs.Rows.{strict_words}
use Rattle.strict.specs.Known.{listing_of, further_rows}
use Rattle.verdict.specs.Row.{cycle_of, holds, bits_of}
use Rattle.verdict.specs.Check.{judged, checked}
use Rattle.step.specs.Step.{Step, opcode, funct3}
use Rattle.step.specs.Strict.{StrictStep, ConditionsOf}
use Rattle.step.specs.Derived.{derived_in}
use Rattle.step.specs.Solve.{Holds}
use Rattle.step.specs.Determining.{determining}
use Rattle.step.specs.Filling.{filling, count_fillings, filler_bits, filled}
use Rattle.step.specs.Demand3.{Premises, accepts, fails, Compares, TakesBranch, Demand3}
use Rattle.step.proofs.Laws.Taken.{halt-is, taken_is, taken-exactly}
use Rattle.step.proofs.Laws.Cycle.{all-bin}
use Rattle.step.proofs.Laws.Count.{count-one, count_none}
use Rattle.step.proofs.Laws.FillingElements.{filling-length}
use Rattle.step.proofs.Laws.Batch.{RowsHold, one_bit, same-given, of-bits, same-bits-as-filler, is-filled, split, filled-bit, filled-determined, rows-or-conditions, same-filled}
use Rattle.step.proofs.Laws.Listings.{judged-accepts, checked-answer, same-further, Listed, cycle-rows, listed}
use Rattle.step.proofs.Laws.Strict.{meaning as flags-mean}
use Rattle.field.specs.Gf as gf
use Rattle.layout.specs.Questions.{Answer}
use Rattle.verdict.specs.declared.Verdict.{Verdict}

module _ (listing : List ℕ) (further : List Sides) (l : Listed listing further)
    (Conditions : (ℕ → Bool) → Gf128 → Type 0)
    (meaning : (b : ℕ → Bool) (output : Gf128) → b ONE-COL ≡ true → Conditions b output ↔ (Step b output × All (Holds b) further))
    (cpi : ℕ) (size : allowed cpi ≡ true) (w scratch : List ℕ) (room : scratch_fits (length scratch) ≡ true) (p : Premises cpi w) where
  some : 0 < cpi
  some = (allowed-range cpi size).0

  abbrev verdict : List ℕ → Answer Verdict
  verdict u = (checked cpi listing u scratch).answer

  abbrev W : List ℕ
  W = filled cpi w

  is-judged : (v : ℕ → Bool) → verdict (filling cpi v w) ≡ Ok (judged cpi listing (filling cpi v w))
  is-judged v = checked-answer cpi listing (filling cpi v w) scratch size l.in_order room (filling-length cpi v w ∙ p.words)

  -- a filling is accepted exactly when every cycle's rows hold
  accepts-rows : (v : ℕ → Bool) → (accepts (verdict (filling cpi v w)) ≡ true)
      ↔ ((d : ℕ) → d < cpi → RowsHold (cycle_of cpi (filling cpi v w) d)
      × All (λ s. holds (cycle_of cpi (filling cpi v w) d) s ≡ true) further)
  accepts-rows v =
      let j = judged-accepts cpi listing (filling cpi v w) in let e = ap accepts (is-judged v) in (
        λ h d k. (cycle-rows listing further l (cycle_of cpi (filling cpi v w) d)).0 (j.0 (sym e ∙ h) d k),
        λ h. e ∙ j.1 (λ d k. (cycle-rows listing further l (cycle_of cpi (filling cpi v w) d)).1 (h d k)),
      )

  -- and fails otherwise: no filling is refused
  fails-else : (v : ℕ → Bool) → (accepts (verdict (filling cpi v w)) ≡ true → ⊥) → fails (verdict (filling cpi v w)) ≡ true
  fails-else v h = ap fails (is-judged v) ∙ ap not (no_true _ (λ e. h (ap accepts (is-judged v) ∙ e)))

  rows-determine : (v : ℕ → Bool) → accepts (verdict (filling cpi v w)) ≡ true
      → (d : ℕ) → d < cpi → All (Holds (bits_of cpi (filling cpi v w) d)) determining
  rows-determine v h d k = (split cpi some w p v d k ((accepts-rows v).0 h d k).0).0

  only-filled : (v : ℕ → Bool) → accepts (verdict (filling cpi v w)) ≡ true → filling cpi v w ≡ W
  only-filled v h = is-filled cpi some w p v (rows-determine v h)

  further-rows : (v : ℕ → Bool) (d : ℕ) → d < cpi
      → All (λ s. holds (cycle_of cpi (filling cpi v w) d) s ≡ true) further ↔ All (Holds (bits_of cpi w d)) further
  further-rows v d k =
      let u = filling cpi v w in
      let over = all-bin (cycle_of cpi u d) (bits_of cpi u d) (of-bits cpi some w p v d k) further l.over-bits in
      let same = same-given cpi some w p v d k in (
        λ h. same-further (bits_of cpi u d) (bits_of cpi w d) same further l.read-given (over.0 h),
        λ h. over.1 (same-further (bits_of cpi w d) (bits_of cpi u d) (λ c e. sym (same c e)) further l.read-given h),
      )

  accepted-is : (accepts (verdict W) ≡ true) ↔ ((d : ℕ) → d < cpi → Conditions (bits_of cpi w d) (cycle_of cpi w d (ONE-COL + 1)))
  unfolding filled
  accepted-is =
      let v = filler_bits cpi w in (
        λ h d k. let r = (accepts-rows v).0 h d k in
            (meaning (bits_of cpi w d) _ (one_bit cpi some w p d)).1 ((rows-or-conditions cpi some w p d k).0 r.0, (further-rows v d k).0 r.1),
        λ h. (accepts-rows v).1 (λ d k.
            let m = (meaning (bits_of cpi w d) _ (one_bit cpi some w p d)).0 (h d k) in ((rows-or-conditions cpi some w p d k).1 m.0, (further-rows v d k).1 m.1)),
      )

  counts : count_fillings cpi (λ u. accepts (verdict u)) w ≡ digit (accepts (verdict W))
  unfolding filled filling count_fillings
  counts = go (accepts (verdict W)) refl
    where
      go : (k : Bool) → accepts (verdict W) ≡ k → count_fillings cpi (λ u. accepts (verdict u)) w ≡ digit k
      go true e =
          count-one (derived_in cpi) (λ u. accepts (verdict u)) (2048 * cpi) 0 w (filler_bits cpi w) e
          (λ v h c _ m k. same-bits-as-filler cpi some w p v (rows-determine v h) c (omega arith) k)
      go false e =
          count_none (derived_in cpi) (λ u. accepts (verdict u)) (2048 * cpi) 0 w
          (λ v. no_true _ (λ h. false≢true (sym e ∙ ap (λ (u : List ℕ). accepts (verdict u)) (sym (only-filled v h)) ∙ h)))

  -- a column of the filler's batch is 1 exactly when its bit is
  is_one_lem : (d c : ℕ) → d < cpi → c ≤ ONE-COL → (cycle_of cpi W d c ≡ gf.one) ↔ (bits_of cpi W d c ≡ true)
  unfolding bits_of
  is_one_lem d c k m = (
    λ e. ap (λ (x : Gf128). eqb (low x) 1) e ∙ low_bit true,
    λ e. filled-bit cpi some w p d k c m ∙ ap (λ (b : Bool). of_bit b) e,
  )

  abbrev bits : ℕ → ℕ → Bool
  bits d = bits_of cpi W d

  halts : (d : ℕ) → d < cpi → (cycle_of cpi W d HALT ≡ gf.one) ↔ (opcode (bits d) ≡ 0x73)
  halts d k =
      let i = is_one_lem d HALT k (omega arith) in let j = halt-is (bits d) (filled-determined cpi some w p d k) in
      (λ e. j.0 (i.0 e), λ e. i.1 (j.1 e))

  takes : accepts (verdict W) ≡ true → (d : ℕ) → d < cpi → Compares (bits d) → (cycle_of cpi W d TAKEN ≡ gf.one) ↔ TakesBranch (bits d)
  unfolding filled
  takes h d k c =
      let i = is_one_lem d TAKEN k (omega arith) in
      let v = filler_bits cpi w in
      let others = (split cpi some w p v d k ((accepts-rows v).0 h d k).0).1 in
      let e = taken_is (bits d) (filled-determined cpi some w p d k) (same_bits_lem _ _ 64 c.t1) c.t2 c.subtract
      (others.sum c.arithmetic) in
      let tests = taken-exactly (opcode (bits d)) (funct3 (bits d)) (word (bits d) RS1 64) (word (bits d) RS2 64) in
      (λ q. tests.0 (sym e ∙ i.0 q), λ q. i.1 (e ∙ tests.1 q))

  pub proved : Demand3 listing Conditions cpi w scratch
  unfolding filled
  proved =
      record {
        written = (filler_bits cpi w, refl);
        whatever = same-filled cpi some w p;
        counted = counts;
        accepted = accepted-is;
        others = λ v n. fails-else v (λ h. n (only-filled v h));
        halt = λ h. halts;
        taken = takes;
      }

-- a listing that is known by name comes to its conditions
pub demand3-known : (k : Known) (cpi : ℕ) → allowed cpi ≡ true → (batch scratch : List ℕ) → scratch_fits (length scratch) ≡ true
    → Premises cpi batch → Demand3 (listing_of k) (ConditionsOf k) cpi batch scratch
demand3-known k = proved (listing_of k) (further_rows k) (listed k) (ConditionsOf k) (flags-mean k)

-- so one filling is accepted exactly when every cycle meets them, and else none
pub count-known : (k : Known) (cpi : ℕ) → allowed cpi ≡ true → (batch scratch : List ℕ) → scratch_fits (length scratch) ≡ true
    → Premises cpi batch
    → (count_fillings cpi (λ u. accepts (checked cpi (listing_of k) u scratch).answer) batch ≡ 1)
    ↔ ((d : ℕ) → d < cpi → ConditionsOf k (bits_of cpi batch d) (cycle_of cpi batch d (ONE-COL + 1)))
count-known k cpi size batch scratch room p =
    let d = demand3-known k cpi size batch scratch room p in (
      λ e. d.accepted.0 (is-one-digit _ (sym d.counted ∙ e)),
      λ h. d.counted ∙ ap (λ (t : Bool). digit t) (d.accepted.1 h),
    )
  where
    is-one-digit : (t : Bool) → digit t ≡ 1 → t ≡ true
    is-one-digit true e = refl
    is-one-digit false e = absurd (omega (arith, e))

-- the house listing to the ten step conditions
pub demand3 : (cpi : ℕ) → allowed cpi ≡ true → (batch scratch : List ℕ) → scratch_fits (length scratch) ≡ true → Premises cpi batch
    → Demand3 circuit_words Step cpi batch scratch
demand3 = demand3-known House

-- and the strict listing to the strict conditions
pub demand3-strict : (cpi : ℕ) → allowed cpi ≡ true → (batch scratch : List ℕ) → scratch_fits (length scratch) ≡ true → Premises cpi batch
    → Demand3 strict_words StrictStep cpi batch scratch
demand3-strict = demand3-known Strict
