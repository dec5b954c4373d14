-- The branch reading: exactly when it gives which answer; P10 of the bench sheet; and given instructions, each funct3 among them.
-- Assumes nothing.
use Rattle.std.specs.Prelude.{◌≡◌, ℕ, ◌-◌, ◌%◌, ◌^◌, Bool, true, false, cond, not, ◌||◌, ◌⊎◌, ◌↔◌, ◌==◌, ◌≢◌, refl}
use Rattle.std.proofs.Common.{sym, ap, ◌∙◌, inl, inr, true≢false, mod-lt, mod-eq_of_lt, arith, eqb-true, eq-eqb, ne_eqb}
use Rattle.std.proofs.Math.Path.{subst}
use Rattle.std.proofs.lemmas.Bool.{false≢true, eqb-false}
use Rattle.base.specs.Bits.{signed}
use Rattle.base.specs.Laws.Cases.{no_true}
use Rattle.step.specs.Branch.{branch_holds}
use Rattle.witness.specs.declared.branch.BranchReading.{BranchReading}
use Rattle.witness.specs.declared.branch.BranchReading.TheVariants.{NoBranch, Taken, NotTaken, Reserved}
use Rattle.witness.specs.Reading.{is_reserved, reading, P10}

-- ---- the statement

pub record Exactly (opcode funct3 rs1 rs2 : ℕ) : Type 0 where
  pub no-branch : (reading opcode funct3 rs1 rs2 ≡ NoBranch) ↔ (opcode ≢ 0x63)
  pub reserved : (reading opcode funct3 rs1 rs2 ≡ Reserved) ↔ ((opcode ≡ 0x63) × ((funct3 % 8 ≡ 2) ⊎ (funct3 % 8 ≡ 3)))
  pub taken : (reading opcode funct3 rs1 rs2 ≡ Taken) ↔ ((opcode ≡ 0x63) × (branch_holds (funct3 % 8) rs1 rs2 ≡ true))
  pub not_taken : (reading opcode funct3 rs1 rs2 ≡ NotTaken)
      ↔ ((opcode ≡ 0x63) × (((funct3 % 8 ≢ 2) × (funct3 % 8 ≢ 3)) × (branch_holds (funct3 % 8) rs1 rs2 ≡ false)))

-- ---- the reserved ones

pub reserved-so : (f : ℕ) → (is_reserved f ≡ true) ↔ ((f ≡ 2) ⊎ (f ≡ 3))
reserved-so f = (go (f == 2) refl, back)
  where
    go : (k : Bool) → (f == 2) ≡ k → (k || f == 3) ≡ true → (f ≡ 2) ⊎ (f ≡ 3)
    go true e h = inl (eqb-true f 2 e)
    go false e h = inr (eqb-true f 3 h)

    back : (f ≡ 2) ⊎ (f ≡ 3) → is_reserved f ≡ true
    back (inl e) = ap is_reserved e
    back (inr e) = ap is_reserved e

pub reserved-not : (f : ℕ) → (is_reserved f ≡ false) ↔ ((f ≢ 2) × (f ≢ 3))
reserved-not f = (
  λ e. (λ q. true≢false (sym (ap is_reserved q) ∙ e), λ q. true≢false (sym (ap is_reserved q) ∙ e)),
  λ n. cc (ne_eqb f 2 n.0, ne_eqb f 3 n.1),
)

-- the ISA's condition holds of no two words there
pub no-condition : (f x y : ℕ) → is_reserved f ≡ true → branch_holds f x y ≡ false
unfolding branch_holds
no-condition f x y e = go ((reserved-so f).0 e)
  where
    go : (f ≡ 2) ⊎ (f ≡ 3) → branch_holds f x y ≡ false
    go (inl q) = ap (λ (n : ℕ). branch_holds n x y) q
    go (inr q) = ap (λ (n : ℕ). branch_holds n x y) q

-- ---- its proof: by the three tests

abbrev answer : Bool → Bool → Bool → BranchReading
answer p q r = cond (not p) NoBranch (cond q Reserved (cond r Taken NotTaken))

-- what each answer says of the tests
abbrev Says : Bool → Bool → Bool → BranchReading → Type 0
Says p q r NoBranch = p ≡ false
Says p q r Taken = (p ≡ true) × ((q ≡ false) × (r ≡ true))
Says p q r NotTaken = (p ≡ true) × ((q ≡ false) × (r ≡ false))
Says p q r Reserved = (p ≡ true) × (q ≡ true)

says : (p q r : Bool) → Says p q r (answer p q r)
says false q r = refl
says true true r = (refl, refl)
says true false true = (refl, (refl, refl))
says true false false = (refl, (refl, refl))

said : (p q r : Bool) (a : BranchReading) → Says p q r a → answer p q r ≡ a
said p q r NoBranch e = rw e
said p q r Taken e = rw (e.0, e.1.0, e.1.1)
said p q r NotTaken e = rw (e.0, e.1.0, e.1.1)
said p q r Reserved e = rw (e.0, e.1)

module _ (opcode funct3 rs1 rs2 : ℕ) where
  abbrev p : Bool
  p = opcode == 0x63

  abbrev q : Bool
  q = is_reserved (funct3 % 8)

  abbrev r : Bool
  r = branch_holds (funct3 % 8) rs1 rs2

  told : (a : BranchReading) → (reading opcode funct3 rs1 rs2 ≡ a) ↔ Says p q r a
  unfolding reading
  told a = (λ e. subst (Says p q r) e (says p q r), said p q r a)

  -- what is taken is not reserved
  held : r ≡ true → q ≡ false
  held e = no_true q (λ h. false≢true (sym (no-condition (funct3 % 8) rs1 rs2 h) ∙ e))

  pub exactly : Exactly opcode funct3 rs1 rs2
  exactly =
      record {
        no-branch = (λ e. eqb-false opcode 0x63 ((told NoBranch).0 e), λ n. (told NoBranch).1 (ne_eqb opcode 0x63 n));
        reserved = (
          λ e. let s = (told Reserved).0 e in (eqb-true opcode 0x63 s.0, (reserved-so (funct3 % 8)).0 s.1),
          λ h. (told Reserved).1 (eq-eqb opcode 0x63 h.0, (reserved-so (funct3 % 8)).1 h.1),
        );
        taken = (
          λ e. let s = (told Taken).0 e in (eqb-true opcode 0x63 s.0, s.1.1),
          λ h. (told Taken).1 (eq-eqb opcode 0x63 h.0, (held h.1, h.1)),
        );
        not_taken = (
          λ e. let s = (told NotTaken).0 e in (eqb-true opcode 0x63 s.0, ((reserved-not (funct3 % 8)).0 s.1.0, s.1.1)),
          λ h. (told NotTaken).1 (eq-eqb opcode 0x63 h.0, ((reserved-not (funct3 % 8)).1 h.1.0, h.1.1)),
        );
      }

-- of funct3 the low three bits count
pub low-three : (opcode funct3 rs1 rs2 : ℕ) → reading opcode funct3 rs1 rs2 ≡ reading opcode (funct3 % 8) rs1 rs2
unfolding reading
low-three opcode funct3 rs1 rs2 =
    ap (λ (f : ℕ). answer (opcode == 0x63) (is_reserved f) (branch_holds f rs1 rs2)) (sym (mod-eq_of_lt (mod-lt funct3 (omega arith))))

-- ---- P10, and given instructions

pub p10 : P10
unfolding reading branch_holds signed
p10 = record { blt = refl; bltu = refl; bge = refl }

-- 2^64 - 1 is the largest word unsigned, and -1 signed. Of funct3 of 32 bits, 2^32 - 6 and 2^32 - 5 end in 2 and 3.
pub record Given : Type 0 where
  pub beq : (reading 0x63 0 7 7 ≡ Taken) × (reading 0x63 0 7 8 ≡ NotTaken)
  pub bne : (reading 0x63 1 7 8 ≡ Taken) × (reading 0x63 1 7 7 ≡ NotTaken)
  pub blt : (reading 0x63 4 (2 ^ 64 - 1) 1 ≡ Taken) × (reading 0x63 4 1 (2 ^ 64 - 1) ≡ NotTaken)
  pub bge : (reading 0x63 5 1 (2 ^ 64 - 1) ≡ Taken) × (reading 0x63 5 (2 ^ 64 - 1) 1 ≡ NotTaken)
  pub bltu : (reading 0x63 6 1 (2 ^ 64 - 1) ≡ Taken) × (reading 0x63 6 (2 ^ 64 - 1) 1 ≡ NotTaken)
  pub bgeu : (reading 0x63 7 (2 ^ 64 - 1) 1 ≡ Taken) × (reading 0x63 7 1 (2 ^ 64 - 1) ≡ NotTaken)
  -- whatever the two words are
  pub two : (x y : ℕ) → (reading 0x63 2 x y ≡ Reserved) × (reading 0x63 (2 ^ 32 - 6) x y ≡ Reserved)
  pub three : (x y : ℕ) → (reading 0x63 3 x y ≡ Reserved) × (reading 0x63 (2 ^ 32 - 5) x y ≡ Reserved)
  -- under another opcode there is no branch, reserved or not: SUB, SLT and SLTU; an opcode with a further bit; and opcode 0
  pub sub : (x y : ℕ) → reading 0x33 0 x y ≡ NoBranch
  pub slt : (x y : ℕ) → reading 0x33 2 x y ≡ NoBranch
  pub sltu : (x y : ℕ) → reading 0x33 3 x y ≡ NoBranch
  pub longer : (x y : ℕ) → (reading 0xe3 2 x y ≡ NoBranch) × (reading 0xe3 3 x y ≡ NoBranch)
  pub nought : (x y : ℕ) → (reading 0 2 x y ≡ NoBranch) × (reading 0 3 x y ≡ NoBranch)

pub given : Given
unfolding reading branch_holds signed
given =
    record {
      beq = (refl, refl);
      bne = (refl, refl);
      blt = (refl, refl);
      bge = (refl, refl);
      bltu = (refl, refl);
      bgeu = (refl, refl);
      two = λ x y. (refl, refl);
      three = λ x y. (refl, refl);
      sub = λ x y. refl;
      slt = λ x y. refl;
      sltu = λ x y. refl;
      longer = λ x y. (refl, refl);
      nought = λ x y. (refl, refl);
    }
