-- The strict conditions at work, of every size and in every cycle: all 32 choices of load, store, byte, half and word in one cycle, with 0
-- in every other given column of the batch. The house listing accepts each of them, the strict one the five that document 02 lets through.
-- Assumes nothing.
use Rattle.std.specs.Prelude.{◌≡◌, ◌↔◌, Bool, true, false, not, cond, ◌&&◌, ◌||◌, List, ℕ, ◌+◌, ◌<◌, eqb, length}
use Rattle.std.proofs.Math.Path.{refl}
use Rattle.std.proofs.Common.{sym, ap, subst, ◌∙◌, arith, eq-eqb}
use Rattle.std.proofs.lemmas.Bool.{false≢true}
use Rattle.base.specs.Bits.{digit, val}
use Rattle.base.specs.Laws.Cases.{of-five, no_true}
use Rattle.field.specs.Gf.{of_words}
use Rattle.field.specs.Gf.Laws.{words-zero}
use Rattle.layout.specs.Columns.{ONE-COL, IS-LOAD, IS-STORE, LD-BYTE, LD-HALF, LD-WORD}
use Rattle.layout.specs.Batch.{allowed, scratch_fits}
use Rattle.layout.specs.Laws.Sizes.{allowed-range}
use Rattle.circuit.specs.Circuit.{circuit_words}
use Rattle.strict.specs.declared.Known.{Known}
use Rattle.strict.specs.declared.Known.TheVariants.{House, Strict}
use Rattle.strict.specs.Rows.{strict_words}
use Rattle.strict.specs.Known.{listing_of}
use Rattle.verdict.specs.Row.{cycle_of, bits_of}
use Rattle.verdict.specs.Check.{checked}
use Rattle.step.specs.Step.{Step}
use Rattle.step.specs.Strict.{StrictStep, ConditionsOf}
use Rattle.step.specs.Filling.{count_fillings, filled}
use Rattle.step.specs.Demand3.{accepts, Demand3}
use Rattle.step.proofs.Laws.Strict.{flags_test, flags-clauses, no-load}
use Rattle.step.proofs.Laws.Proved.{demand3-known}
use Rattle.step.proofs.Laws.Sheet.{no-shift-write-load}
use Rattle.step.proofs.Laws.Chosen.{batch_of, with_one, cycle-is, all-bits-of, premises-of}

-- the five flags of a cycle, and 0 elsewhere
abbrev pub flag_bits : Bool → Bool → Bool → Bool → Bool → ℕ → Bool
flag_bits load store byte half word c =
    cond (eqb c IS-LOAD) load
    (cond (eqb c IS-STORE) store
    (cond (eqb c LD-BYTE) byte
    (cond (eqb c LD-HALF) half
    (cond (eqb c LD-WORD) word false))))

-- the batch with these flags in cycle e alone
abbrev pub flagged : ℕ → ℕ → Bool → Bool → Bool → Bool → Bool → List ℕ
flagged cpi e load store byte half word = batch_of cpi (λ d c. cond (eqb d e) (flag_bits load store byte half word c) false)

-- document 02's words, case by case: a load that does not store, of a byte, a half or a word; or no load, and no width
abbrev pub let_through : Bool → Bool → Bool → Bool → Bool → Bool
let_through load store byte half word =
    (load && not store && byte && not half && not word)
    || (load && not store && not byte && half && not word)
    || (load && not store && not byte && not half && word)
    || (not load && not byte && not half && not word)

pub record FlagsAtWork (cpi : ℕ) (scratch : List ℕ) : Type 0 where
  -- what is accepted of the filler's batch
  pub strict : (e : ℕ) → e < cpi → (load store byte half word : Bool)
      → accepts (checked cpi strict_words (filled cpi (flagged cpi e load store byte half word)) scratch).answer
      ≡ let_through load store byte half word
  pub house : (e : ℕ) → e < cpi → (load store byte half word : Bool)
      → accepts (checked cpi circuit_words (filled cpi (flagged cpi e load store byte half word)) scratch).answer ≡ true
  -- and how many of all its fillings
  pub counted : (e : ℕ) → e < cpi → (load store byte half word : Bool)
      → count_fillings cpi (λ u. accepts (checked cpi strict_words u scratch).answer) (flagged cpi e load store byte half word)
      ≡ digit (let_through load store byte half word)

-- ---- its proof

-- the tests are the conditions', by computing every case
let_through_lem : (l s y h w : Bool) → flags_test l s y h w ≡ let_through l s y h w
let_through_lem = of-five _ _ refl

-- two tests that are true alike
same_truth : (a b : Bool) → (a ≡ true) ↔ (b ≡ true) → a ≡ b
same_truth a true h = h.1 refl
same_truth a false h = no_true a (λ e. false≢true (h.0 e))

-- whatever the flags are, the ten conditions are met where nothing else is set
pub ten-met : (l s y h w : Bool) → Step (with_one (flag_bits l s y h w)) (of_words 0 0)
unfolding val
ten-met l s y h w =
    record {
      arithmetic = λ e. absurd (false≢true e);
      shift = λ e. absurd (false≢true e);
      write = λ e _. absurd (false≢true e);
      system = λ e. let z : ◌≡◌ {A = ℕ} 0 0x73 = e in absurd (omega arith);
      load_word = λ _. refl;
      load_byte = λ _. refl;
      load-half = λ _. (refl, refl);
      upper-zero = λ _ _. refl;
      second-zero = λ _ _ _. refl;
      address = λ _. refl;
    }

module _ (cpi : ℕ) (size : allowed cpi ≡ true) (scratch : List ℕ) (room : scratch_fits (length scratch) ≡ true) (e : ℕ) (inside : e < cpi)
    (l s y h w : Bool) where
  some : 0 < cpi
  some = (allowed-range cpi size).0

  abbrev batch : List ℕ
  batch = flagged cpi e l s y h w

  -- the bits of a cycle by whether it is cycle e
  abbrev cycle_bits : Bool → ℕ → Bool
  cycle_bits t c = cond t (flag_bits l s y h w c) false

  proved : (k : Known) → Demand3 (listing_of k) (ConditionsOf k) cpi batch scratch
  proved k = demand3-known k cpi size batch scratch room (premises-of cpi some (λ d. cycle_bits (eqb d e)))

  module _ (k : Known) (d : ℕ) (m : d < cpi) where
    -- the conditions of cycle d are those of its bits
    carried : ConditionsOf k (with_one (cycle_bits (eqb d e))) (of_words 0 0) → ConditionsOf k (bits_of cpi batch d) (cycle_of cpi batch d (ONE-COL + 1))
    carried c =
        subst (ConditionsOf k (bits_of cpi batch d)) (sym (cycle-is cpi some _ d m (ONE-COL + 1) ∙ sym words-zero))
        (subst (λ (b : ℕ → Bool). ConditionsOf k b (of_words 0 0)) (sym (all-bits-of cpi some _ d m)) c)

    -- a cycle that is not e is idle
    idle : ConditionsOf k (with_one (cycle_bits false)) (of_words 0 0)
    unfolding val
    idle = no-load k _ _ (no-shift-write-load _ 0 refl refl refl refl refl refl refl refl refl refl (λ _. refl)) refl refl

    by-cycle : ConditionsOf k (with_one (flag_bits l s y h w)) (of_words 0 0) → (t : Bool) → ConditionsOf k (with_one (cycle_bits t)) (of_words 0 0)
    by-cycle c true = c
    by-cycle c false = idle

    -- by whether it is e
    pub there : (t : Bool) → eqb d e ≡ t → ConditionsOf k (with_one (cycle_bits t)) (of_words 0 0)
        → ConditionsOf k (bits_of cpi batch d) (cycle_of cpi batch d (ONE-COL + 1))
    there t q c = carried (subst (λ (i : Bool). ConditionsOf k (with_one (cycle_bits i)) (of_words 0 0)) (sym q) c)

    pub idle-there : eqb d e ≡ false → ConditionsOf k (bits_of cpi batch d) (cycle_of cpi batch d (ONE-COL + 1))
    idle-there q = there false q idle

  accepted-where : (k : Known) → ConditionsOf k (with_one (flag_bits l s y h w)) (of_words 0 0)
      → accepts (checked cpi (listing_of k) (filled cpi batch) scratch).answer ≡ true
  accepted-where k c = (proved k).accepted.1 (λ d m. carried k d m (by-cycle k d m c (eqb d e)))

  pub bits-there : bits_of cpi batch e ≡ with_one (flag_bits l s y h w)
  bits-there = all-bits-of cpi some _ e inside ∙ ap (λ (t : Bool). with_one (cycle_bits t)) (eq-eqb e e refl)

  strict-flags : StrictStep (bits_of cpi batch e) (cycle_of cpi batch e (ONE-COL + 1)) → flags_test l s y h w ≡ true
  strict-flags c =
      let met = subst (λ (b : ℕ → Bool). StrictStep b (cycle_of cpi batch e (ONE-COL + 1))) bits-there c in
      (flags-clauses (with_one (flag_bits l s y h w))).1 (met.apart, (met.one_width, met.no-width))

  by-strict : accepts (checked cpi strict_words (filled cpi batch) scratch).answer ≡ let_through l s y h w
  by-strict =
      same_truth _ (flags_test l s y h w) (
        λ a. strict-flags ((proved Strict).accepted.0 a e inside),
        λ t. let c = (flags-clauses (with_one (flag_bits l s y h w))).0 t in
            accepted-where Strict (record { ten = ten-met l s y h w; apart = c.0; one_width = c.1.0; no-width = c.1.1 }),
      )
      ∙ let_through_lem l s y h w

pub flags-at-work : (cpi : ℕ) → allowed cpi ≡ true → (scratch : List ℕ) → scratch_fits (length scratch) ≡ true → FlagsAtWork cpi scratch
flags-at-work cpi size scratch room =
    record {
      strict = by-strict cpi size scratch room;
      house = λ e i l s y h w. accepted-where cpi size scratch room e i l s y h w House (ten-met l s y h w);
      counted = λ e i l s y h w.
          (proved cpi size scratch room e i l s y h w Strict).counted
          ∙ ap (λ (t : Bool). digit t) (by-strict cpi size scratch room e i l s y h w);
    }
