-- The step conditions read given columns alone, so that what stands in the derived columns does not matter to them.
-- Assumes nothing.
use Rattle.std.specs.Prelude.{◌≡◌, Bool, true, false, not, ◌&&◌, ℕ, zero, suc, ◌+◌, ◌*◌, ◌%◌, ◌≤◌, ◌<◌}
use Rattle.std.proofs.Math.Path.{refl, sym, ap}
use Rattle.std.proofs.Common.{ap₂, subst, ◌∙◌, ⊎_elim, eq-or-lt_of_le, arith}
use Rattle.std.proofs.lemmas.Bool.{not-true}
use Rattle.base.specs.Bits.{◌⊻◌, word}
use Rattle.base.specs.Laws.Values.{val_same}
use Rattle.base.specs.Laws.Tests.{both}
use Rattle.field.specs.declared.Gf128.{Gf128}
use Rattle.field.specs.Gf.{of_words}
use Rattle.layout.specs.Columns.{RS1, RD, LOAD-VAL, SHIFT-OUT, T1, T2, ALU, SUB, WE, IS-LOAD, IS-STORE, IS-ARITH, IS-SHIFT, LD-BYTE, LD-HALF, LD-WORD, OFF, RAM-ADDR, FETCH-OP}
use Rattle.step.specs.Step.{Step, byte, offset}
use Rattle.step.specs.Derived.{derived}
use Rattle.step.proofs.Laws.Step.{offset-lt}

-- the columns o .. o + n - 1 are given
abbrev pub all_given : ℕ → ℕ → Bool
all_given o zero = true
all_given o (suc n) = not (derived o) && all_given (suc o) n

pub given-at : (n o c : ℕ) → all_given o n ≡ true → o ≤ c → c < o + n → derived c ≡ false
given-at zero o c t l m = absurd (omega arith)
given-at (suc n) o c t l m =
    let p = both (not (derived o)) (all_given (suc o) n) t in
    ⊎_elim (λ e. subst (λ (k : ℕ). derived k ≡ false) e (not-true (derived o) p.0)) (λ h. given-at n (suc o) c p.1 h (omega arith))
    (eq-or-lt_of_le l)

-- two cycles agree in their given columns
abbrev pub SameGiven : (ℕ → Bool) → (ℕ → Bool) → Type 0
SameGiven y z = (c : ℕ) → derived c ≡ false → y c ≡ z c

module _ (y z : ℕ → Bool) (h : SameGiven y z) where
  pub same_word : (o n : ℕ) → all_given o n ≡ true → word y o n ≡ word z o n
  same_word o n t = val_same _ _ n (λ i l. h (o + i) (given-at n o (o + i) t (omega arith) (omega arith)))

  same-lane : (a : ℕ) → a < 8 → byte y LOAD-VAL a ≡ byte z LOAD-VAL a
  unfolding derived
  same-lane a l = val_same _ _ 8 (λ i m. h (LOAD-VAL + 8 * a + i)
      (given-at 64 LOAD-VAL (LOAD-VAL + 8 * a + i) refl (omega arith) (omega arith)))

  same-offset : offset y ≡ offset z
  unfolding derived
  same-offset = same_word OFF 3 refl

  lane-off : byte y LOAD-VAL (offset y) ≡ byte z LOAD-VAL (offset z)
  lane-off = same-lane (offset y) (offset-lt y) ∙ ap (byte z LOAD-VAL) same-offset

  lane-next : byte y LOAD-VAL ((offset y + 1) % 8) ≡ byte z LOAD-VAL ((offset z + 1) % 8)
  lane-next = same-lane ((offset y + 1) % 8) (omega arith) ∙ ap (λ (k : ℕ). byte z LOAD-VAL ((k + 1) % 8)) same-offset

  abbrev carried : {a b c d : ℕ} → a ≡ c → b ≡ d → a ≡ b → c ≡ d
  carried p q e = sym p ∙ e ∙ q

  pub same_step : (output : Gf128) → Step y output → Step z output
  unfolding derived
  same_step output s =
      record {
        arithmetic = λ e.
            cc (same_word ALU 64 refl, same_word T1 64 refl, same_word T2 64 refl, h SUB refl, s.arithmetic (h IS-ARITH refl ∙ e));
        shift = λ e. carried (same_word ALU 64 refl) (same_word SHIFT-OUT 64 refl) (s.shift (h IS-SHIFT refl ∙ e));
        write = λ e l. carried (same_word RD 64 refl) (same_word ALU 64 refl) (s.write (h WE refl ∙ e) (h IS-LOAD refl ∙ l));
        system = λ e.
            let k = s.system (same_word FETCH-OP 7 refl ∙ e) in
            (carried (same_word RD 64 refl) (same_word RS1 64 refl) k.0, k.1 ∙ ap (λ (n : ℕ). of_words n 0) (same_word RD 64 refl));
        load_word = λ e. carried (same_word RD 64 refl) (same_word LOAD-VAL 64 refl) (s.load_word (h LD-WORD refl ∙ e));
        load_byte = λ e. carried (same_word RD 8 refl) lane-off (s.load_byte (h LD-BYTE refl ∙ e));
        load-half = λ e.
            let k = s.load-half (h LD-HALF refl ∙ e) in
            (carried (same_word RD 8 refl) lane-off k.0, carried (same_word (RD + 8) 8 refl) lane-next k.1);
        upper-zero = λ e w. sym (same_word (RD + 16) 48 refl) ∙ s.upper-zero (h IS-LOAD refl ∙ e) (h LD-WORD refl ∙ w);
        second-zero = λ e w m. sym (same_word (RD + 8) 8 refl) ∙ s.second-zero (h IS-LOAD refl ∙ e) (h LD-WORD refl ∙ w)
            (h LD-HALF refl ∙ m);
        address = λ e. carried (same_word RAM-ADDR 8 refl) (same_word (ALU + 3) 8 refl)
            (s.address (ap₂ ◌⊻◌ (h IS-LOAD refl) (h IS-STORE refl) ∙ e));
      }
