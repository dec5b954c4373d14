-- The bin rows over bits, as far as they are not solved as they stand: RAM address and zero extension determine nothing, and the two halt
-- rows are one.
-- Assumes nothing.
use Rattle.std.specs.Prelude.{◌≡◌, refl, ◌↔◌, Bool, true, false, ◌&&◌, [], ◌∷◌, ℕ, ◌+◌}
use Rattle.std.proofs.Math.Path.{sym}
use Rattle.std.proofs.Common.{◌∙◌, true≢false}
use Rattle.std.proofs.lemmas.Bool.{false≢true}
use Rattle.base.specs.Lists.{All, from}
use Rattle.base.specs.Bits.{◌⊻◌}
use Rattle.base.specs.Laws.Lists.{◌and◌, all-swap}
use Rattle.base.specs.Laws.Cases.{xor-false, xor-two, xor_self, xor-cancel}
use Rattle.layout.specs.Columns.{ONE-COL, RD, ALU, IS-LOAD, IS-STORE, HALT, RAM-ADDR, OPSYS, ZE16, ZE8}
use Rattle.circuit.specs.Rows.{Sides}
use Rattle.circuit.specs.Circuit.{address_row, extension_row, halt_rows, bin_families}
use Rattle.verdict.specs.OverBits.{sum_bits}
use Rattle.step.specs.Solve.{lacks, Holds}
use Rattle.step.specs.Determining.{halt_row, before_halt, after_halt, determining_bin}

gate : (a x : Bool) → (((a && x) ⊻ false) ≡ false) ↔ (a ≡ true → x ≡ false)
gate true x = (λ h e. sym (xor-false x) ∙ h, λ h. xor-false x ∙ h refl)
gate false x = (λ h e. absurd (false≢true e), λ h. refl)

module _ (b : ℕ → Bool) (one : b ONE-COL ≡ true) where
  pub address-row : (t : ℕ) → Holds b (address_row t) ↔ ((b IS-LOAD ⊻ b IS-STORE) ≡ true → b (RAM-ADDR + t) ≡ b (ALU + 3 + t))
  unfolding lacks sum_bits
  address-row t =
      let g = gate (b IS-LOAD ⊻ (b IS-STORE ⊻ false)) (b (RAM-ADDR + t) ⊻ (b (ALU + 3 + t) ⊻ false)) in
      let s = xor-two (b IS-LOAD) (b IS-STORE) in let d = xor-two (b (RAM-ADDR + t)) (b (ALU + 3 + t)) in (
        λ h e. xor-cancel (b (RAM-ADDR + t)) (b (ALU + 3 + t)) (sym d ∙ g.0 h (s ∙ e)),
        λ h. g.1 (λ e. d ∙ xor_self (b (RAM-ADDR + t)) (b (ALU + 3 + t)) (h (sym s ∙ e))),
      )

  pub extension-row : (x k : ℕ) → Holds b (extension_row x k) ↔ (b x ≡ true → b (RD + k) ≡ false)
  unfolding lacks sum_bits
  extension-row x k =
      let g = gate (b x ⊻ false) (b (RD + k) ⊻ false) in (
        λ h e. sym (xor-false (b (RD + k))) ∙ g.0 h (xor-false (b x) ∙ e),
        λ h. g.1 (λ e. xor-false (b (RD + k)) ∙ h (sym (xor-false (b x)) ∙ e)),
      )

  -- the two halt rows are one
  two : (x y o : Bool) → o ≡ true
      → (((((x ⊻ false) && (y ⊻ (o ⊻ false))) ⊻ false) ≡ false) × ((((x ⊻ (o ⊻ false)) && (y ⊻ false)) ⊻ false) ≡ false))
      ↔ ((((x ⊻ (y ⊻ false)) && (o ⊻ false)) ⊻ false) ≡ false)
  two x y false q = absurd (false≢true q)
  two true true true q = (λ _. refl, λ _. (refl, refl))
  two true false true q = (λ h. absurd (true≢false h.0), λ h. absurd (true≢false h))
  two false true true q = (λ h. absurd (true≢false h.1), λ h. absurd (true≢false h))
  two false false true q = (λ _. refl, λ _. (refl, refl))

  halt-rows : All (Holds b) halt_rows ↔ Holds b halt_row
  unfolding lacks sum_bits
  halt-rows = let k = two (b HALT) (b (OPSYS + 6)) (b ONE-COL) one in (λ h. k.0 (h.0, h.1.0), λ h. ((k.1 h).0, ((k.1 h).1, tt)))

  pub one-halt : All (All (Holds b)) (determining_bin halt_rows) ↔ All (All (Holds b)) (determining_bin (halt_row ∷ []))
  one-halt = all-swap (All (Holds b)) before_halt after_halt halt_rows (halt_row ∷ []) (λ h. (halt-rows.0 h, tt), λ h. halt-rows.1 h.0)

-- ---- the bin families: those that determine, and three more

pub record BinParts (P : Sides → Type 0) : Type 0 where
  pub determine : All (All P) (determining_bin halt_rows)
  pub address : All P (from 0 8 address_row)
  pub extend16 : All P (from 16 48 (extension_row ZE16))
  pub extend8 : All P (from 8 8 (extension_row ZE8))

pub bin-parts : (P : Sides → Type 0) → All (All P) bin_families ↔ BinParts P
unfolding bin_families before_halt after_halt
bin-parts P = (
  λ h. let lanes = h.1.1.1 in let gates = lanes.1.1 in let chains = gates.1.1.1.1.1 in
      record {
        determine = h.0 and h.1.0 and lanes.0 and lanes.1.0 and gates.0 and gates.1.0 and gates.1.1.0 and chains;
        address = h.1.1.0;
        extend16 = gates.1.1.1.0;
        extend8 = gates.1.1.1.1.0;
      },
  λ p. let h = p.determine in let gates = h.1.1.1.1 in
      h.0 and h.1.0 and p.address and h.1.1.0 and h.1.1.1.0 and gates.0 and gates.1.0 and gates.1.1.0 and p.extend16
      and p.extend8 and gates.1.1.1,
)
