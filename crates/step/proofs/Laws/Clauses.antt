-- The clauses of demand 3 at work, over the house listing and the strict one, of every size and in every cycle: halt, the count, the
-- other fillings, and that it does not matter what stood in the derived columns. (Branches has taken, StrictFlags what is strict.)
-- Assumes nothing.
use Rattle.std.proofs.Math.Path.{◌≡◌, refl, sym, ap}
use Rattle.std.proofs.Common.{ap₂, subst, ◌∙◌, eq-eqb, length-set, get_or-set_same, get_or-set_other}
use Rattle.std.specs.Prelude.{◌↔◌, Bool, ◌&&◌, length, set}
use Rattle.std.proofs.Math.Bool.{true, false, not, false≢true, true≢false}
use mathlib.Core.List.{List, [], ◌∷◌}
use Prim.Native.Nat.{ℕ, ◌+◌, ◌*◌, ◌<◌}
use native.Mathlib.Omega.{arith}
use Rattle.std.proofs.Math.Arith.{digits_lt, digits_div}
use Rattle.std.proofs.Math.Dec.{eqb}
use Rattle.base.specs.Bits.{digit, val}
use Rattle.base.specs.Laws.Cases.{no_true}
use Rattle.field.specs.declared.Gf128.{Gf128}
use Rattle.field.specs.Gf.{of_words, low, zero, one, of_bit}
use Rattle.field.specs.Gf.Bits.{low_bit}
use Rattle.field.specs.Gf.Laws.{words-zero}
use Rattle.layout.specs.Columns.{ONE-COL, SHIFT-OUT, HALT, IS-SHIFT, FETCH-OP}
use Rattle.layout.specs.Batch.{allowed, scratch_fits}
use Rattle.layout.specs.Laws.Sizes.{allowed-range}
use Rattle.strict.specs.declared.Known.{Known}
use Rattle.strict.specs.Known.{listing_of}
use Rattle.verdict.specs.Row.{element_at, cycle_of, bits_of}
use Rattle.verdict.specs.Check.{checked}
use Rattle.step.specs.Step.{Step, opcode}
use Rattle.step.specs.Strict.{ConditionsOf}
use Rattle.step.specs.Derived.{derived, derived_in}
use Rattle.step.specs.Filling.{SameElsewhere, filling, count_fillings, filler_bits, filled}
use Rattle.step.specs.Demand3.{accepts, fails, Demand3}
use Rattle.step.specs.Sheet.{has, number}
use Rattle.step.proofs.Laws.Derived.{derived-below}
use Rattle.step.proofs.Laws.Given.{same_word}
use Rattle.step.proofs.Laws.FillingElements.{filling-derived}
use Rattle.step.proofs.Laws.Batch.{filled_zero}
use Rattle.step.proofs.Laws.Proved.{demand3-known}
use Rattle.step.proofs.Laws.Strict.{the-ten, no-load}
use Rattle.step.proofs.Laws.Sheet.{no-shift-write-load}
use Rattle.step.proofs.Laws.Chosen.{batch_of, with_one, cycle-is, all-bits-of, premises-of, filled-given}

-- ---- batches that differ in a derived column alone

-- element x replaced by two words
abbrev pub replaced : List ℕ → ℕ → ℕ → ℕ → List ℕ
replaced w x l h = set (set w (2 * x) l) (2 * x + 1) h

pub replaced-length : (w : List ℕ) (x l h : ℕ) → length (replaced w x l h) ≡ length w
replaced-length w x l h = length-set (set w (2 * x) l) (2 * x + 1) h ∙ length-set w (2 * x) l

pub replaced-here : (w : List ℕ) (x l h : ℕ) → 2 * x + 1 < length w → element_at (replaced w x l h) x ≡ of_words l h
replaced-here w x l h m =
    ap₂ of_words
    (get_or-set_other (set w (2 * x) l) (2 * x + 1) (2 * x) h 0 (omega arith) ∙ get_or-set_same w (2 * x) l 0 (omega arith))
    (get_or-set_same (set w (2 * x) l) (2 * x + 1) h 0 (omega (arith, length-set w (2 * x) l)))

pub replaced-other : (w : List ℕ) (x l h y : ℕ) → (y ≡ x → ⊥) → element_at (replaced w x l h) y ≡ element_at w y
replaced-other w x l h y apart =
    ap₂ of_words
    (get_or-set_other (set w (2 * x) l) (2 * x + 1) (2 * y) h 0 (omega arith) ∙ get_or-set_other w (2 * x) (2 * y) l 0 (omega arith))
    (get_or-set_other (set w (2 * x) l) (2 * x + 1) (2 * y + 1) h 0 (omega arith) ∙ get_or-set_other w (2 * x) (2 * y + 1) l 0 (omega arith))

pub replaced-same : (cpi : ℕ) (w : List ℕ) (x l h : ℕ) → x < 2048 * cpi → derived_in cpi x ≡ true → SameElsewhere cpi (replaced w x l h) w
replaced-same cpi w x l h m e =
    record {
      lengths = replaced-length w x l h;
      elements = λ y n.
          replaced-other w x l h y (λ q. n (subst (λ (k : ℕ). k < 2048 * cpi) (sym q) m) (ap (derived_in cpi) q ∙ e));
    }

-- ---- the batches: every cycle a system call; every cycle idle; and cycle k alone one that shifts, with SHIFT_OUT 1 where ALU is 0, so
-- that condition 2 is not met there

abbrev pub system_bits : ℕ → Bool
system_bits = has (number FETCH-OP 7 0x73)

abbrev pub shifts_in : ℕ → ℕ → ℕ → Bool
shifts_in k d c = eqb d k && has (SHIFT-OUT ∷ IS-SHIFT ∷ []) c

abbrev pub systems : ℕ → List ℕ
systems cpi = batch_of cpi (λ d. system_bits)

abbrev pub idle : ℕ → List ℕ
idle cpi = batch_of cpi (λ d c. false)

-- ---- the statement

module _ (k : Known) (cpi : ℕ) (scratch : List ℕ) where
  -- is a batch accepted?
  abbrev pub is_accepted : List ℕ → Bool
  is_accepted u = accepts (checked cpi (listing_of k) u scratch).answer

  -- the filling with each bit that the filler does not write
  abbrev pub opposite : List ℕ → List ℕ
  opposite w = filling cpi (λ x. not (filler_bits cpi w x)) w

  pub record AtWork : Type 0 where
    -- halt is 1 in every cycle that is a system call, and 0 in every one that is none
    pub halts : (d : ℕ) → d < cpi → cycle_of cpi (filled cpi (systems cpi)) d HALT ≡ one
    pub halts-not : (d : ℕ) → d < cpi → cycle_of cpi (filled cpi (idle cpi)) d HALT ≡ zero
    -- one filling is accepted where the conditions are met, none where one cycle does not meet them
    pub one-filling : count_fillings cpi is_accepted (systems cpi) ≡ 1
    pub no-filling : (e : ℕ) → e < cpi → count_fillings cpi is_accepted (batch_of cpi (shifts_in e)) ≡ 0
    -- another filling fails, conditions met or not
    pub others-fail : fails (checked cpi (listing_of k) (opposite (systems cpi)) scratch).answer ≡ true
    pub others-fail-too : (e : ℕ) → e < cpi
        → fails (checked cpi (listing_of k) (opposite (batch_of cpi (shifts_in e))) scratch).answer ≡ true
    -- whatever two words stand in a derived column of a cycle, the filling is the same
    pub whatever-stood : (c d l h : ℕ) → derived c ≡ true → d < cpi → filled cpi (replaced (systems cpi) (c * cpi + d) l h)
        ≡ filled cpi (systems cpi)

-- ---- its proof

module _ (k : Known) (cpi : ℕ) (some : 0 < cpi) where
  -- cycles alike that meet the conditions where nothing is written, shifted or loaded
  module _ (b : ℕ → Bool) (meets : ConditionsOf k (with_one b) (of_words 0 0)) where
    output-is : (d : ℕ) → d < cpi → cycle_of cpi (batch_of cpi (λ d. b)) d (ONE-COL + 1) ≡ of_words 0 0
    output-is d l = cycle-is cpi some (λ d. b) d l (ONE-COL + 1) ∙ sym words-zero

    pub alike-meet : (d : ℕ) → d < cpi
        → ConditionsOf k (bits_of cpi (batch_of cpi (λ d. b)) d) (cycle_of cpi (batch_of cpi (λ d. b)) d (ONE-COL + 1))
    alike-meet d l =
        subst (ConditionsOf k (bits_of cpi (batch_of cpi (λ d. b)) d)) (sym (output-is d l))
        (subst (λ (z : ℕ → Bool). ConditionsOf k z (of_words 0 0)) (sym (all-bits-of cpi some (λ d. b) d l)) meets)

  pub idle-meets : (d : ℕ) → d < cpi → ConditionsOf k (bits_of cpi (idle cpi) d) (cycle_of cpi (idle cpi) d (ONE-COL + 1))
  unfolding val
  idle-meets =
      alike-meet (λ c. false)
      (no-load k _ _ (no-shift-write-load _ 0 refl refl refl refl refl refl refl refl refl refl (λ _. refl)) refl refl)

  systems-meet : (d : ℕ) → d < cpi → ConditionsOf k (bits_of cpi (systems cpi) d) (cycle_of cpi (systems cpi) d (ONE-COL + 1))
  unfolding has number val
  systems-meet =
      alike-meet system_bits
      (no-load k _ _ (no-shift-write-load _ 0 refl refl refl refl refl refl refl refl refl refl (λ _. refl)) refl refl)

  bits_in : (e : ℕ) → e < cpi → bits_of cpi (batch_of cpi (shifts_in e)) e ≡ with_one (has (SHIFT-OUT ∷ IS-SHIFT ∷ []))
  bits_in e l =
      all-bits-of cpi some (shifts_in e) e l ∙ ap (λ (t : Bool). with_one (λ c. t && has (SHIFT-OUT ∷ IS-SHIFT ∷ []) c)) (eq-eqb e e refl)

  pub shift-meets-not : (e : ℕ) → e < cpi
      → ((d : ℕ) → d < cpi → ConditionsOf k (bits_of cpi (batch_of cpi (shifts_in e)) d) (cycle_of cpi (batch_of cpi (shifts_in e)) d (ONE-COL + 1)))
      → ⊥
  unfolding has val
  shift-meets-not e l h =
      let z : ◌≡◌ {A = ℕ} 0 1 = (subst (λ (b : ℕ → Bool). Step b (cycle_of cpi (batch_of cpi (shifts_in e)) e (ONE-COL + 1))) (bits_in e l)
      (the-ten k (h e l))).shift refl in
      omega arith

module _ (k : Known) (cpi : ℕ) (size : allowed cpi ≡ true) (scratch : List ℕ) (room : scratch_fits (length scratch) ≡ true) where
  some : 0 < cpi
  some = (allowed-range cpi size).0

  -- of any choice of bits
  module _ (b : ℕ → ℕ → Bool) where
    abbrev w : List ℕ
    w = batch_of cpi b

    proved : Demand3 (listing_of k) (ConditionsOf k) cpi w scratch
    proved = demand3-known k cpi size w scratch room (premises-of cpi some b)

    -- it has another bit in HALT of cycle 0, and in every derived column
    not-filled : opposite k cpi scratch w ≡ filled cpi w → ⊥
    unfolding derived filled
    not-filled e =
        let words = (premises-of cpi some b).words in
        let here = filling-derived cpi (λ x. not (filler_bits cpi w x)) w HALT 0 some refl words in
        let there = filling-derived cpi (filler_bits cpi w) w HALT 0 some refl words in
        not_same (filler_bits cpi w (HALT * cpi + 0)) (sym here ∙ ap (λ (u : List ℕ). cycle_of cpi u 0 HALT) e ∙ there)
      where
        not_same : (t : Bool) → of_bit (not t) ≡ of_bit t → ⊥
        not_same true q = false≢true (sym (low_bit false) ∙ ap (λ (x : Gf128). eqb (low x) 1) q ∙ low_bit true)
        not_same false q = true≢false (sym (low_bit true) ∙ ap (λ (x : Gf128). eqb (low x) 1) q ∙ low_bit false)

    opposite-fails : fails (checked cpi (listing_of k) (opposite k cpi scratch w) scratch).answer ≡ true
    opposite-fails = proved.others (λ x. not (filler_bits cpi w x)) not-filled

    -- halt by the opcode, where the filler's batch is accepted
    halt-bit : ((d : ℕ) → d < cpi → ConditionsOf k (bits_of cpi w d) (cycle_of cpi w d (ONE-COL + 1))) → (d : ℕ) → d < cpi
        → (cycle_of cpi (filled cpi w) d HALT ≡ one) ↔ (opcode (with_one (b d)) ≡ 0x73)
    unfolding derived
    halt-bit met d l =
        let h = proved.halt (proved.accepted.1 met) d l in
        let same = same_word (bits_of cpi (filled cpi w) d) (with_one (b d)) (filled-given cpi some b d l) FETCH-OP 7 refl in
        (λ e. sym same ∙ h.0 e, λ e. h.1 (same ∙ e))

  idle-halts-not : (d : ℕ) → d < cpi → cycle_of cpi (filled cpi (idle cpi)) d HALT ≡ zero
  unfolding val
  idle-halts-not d l =
      filled_zero cpi some (idle cpi) (premises-of cpi some (λ d c. false)) d l HALT (omega arith) (λ e.
      let z : ◌≡◌ {A = ℕ} 0 0x73 = (halt-bit (λ d c. false) (idle-meets k cpi some) d l).0 e in omega arith)

  pub at-work : AtWork k cpi scratch
  unfolding has number val
  at-work =
      record {
        halts = λ d l. (halt-bit (λ d. system_bits) (systems-meet k cpi some) d l).1 refl;
        halts-not = idle-halts-not;
        one-filling = (proved (λ d. system_bits)).counted ∙ ap (λ (t : Bool). digit t)
            ((proved (λ d. system_bits)).accepted.1 (systems-meet k cpi some));
        no-filling = λ e l. (proved (shifts_in e)).counted
            ∙ ap (λ (t : Bool). digit t) (no_true _ (λ a. shift-meets-not k cpi some e l ((proved (shifts_in e)).accepted.0 a)));
        others-fail = opposite-fails (λ d. system_bits);
        others-fail-too = λ e l. opposite-fails (shifts_in e);
        whatever-stood = λ c d x h e l.
            (proved (λ d. system_bits)).whatever (replaced (systems cpi) (c * cpi + d) x h)
            (replaced-same cpi (systems cpi) (c * cpi + d) x h (digits_lt (derived-below c e) l) (ap derived (digits_div c l) ∙ e));
      }
