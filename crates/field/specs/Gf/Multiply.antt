-- The recursion behind both products: its laws for any `up` that is linear, so that they are proved once.
use Rattle.std.specs.Prelude.{◌≡◌}
use Rattle.std.proofs.Math.Path.{refl, sym, ap}
use Rattle.std.proofs.Common.{ap₂, ◌∙◌, le_refl, not-suc-le-zero, arith}
use Prim.Native.Nat.{ℕ, zero, suc, ◌/◌, ◌%◌, ◌≤◌}
use Rattle.std.proofs.Math.Decide.{le_ind}
use Rattle.std.proofs.Math.Arith.{bin_ind, half_le}
use Rattle.field.specs.Gf.{◌⊕◌, scale, turns, multiply}
use Rattle.field.specs.Gf.Sum.{⊕-swap, ⊕-self, zero-⊕, ⊕-zero, ⊕-mod, ⊕-shr, ⊕-scale, scale-⊕}

module _ (up : ℕ → ℕ) where
  -- turns beyond b's bits add nothing
  turns_more : (n a b : ℕ) → b ≤ n → turns up (suc n) a b ≡ turns up n a b
  unfolding turns
  turns_more zero a zero h = refl
  turns_more zero a (suc b) h = absurd (not-suc-le-zero h)
  turns_more (suc n) a zero h = refl
  turns_more (suc n) a (suc b) h = ap (λ (x : ℕ). scale (suc b % 2) a ⊕ x) (turns_more n (up a) (suc b / 2) (half_le h))

  turns-enough : (n a b : ℕ) → b ≤ n → turns up n a b ≡ turns up b a b
  turns-enough n a b h = le_ind (λ (m : ℕ). turns up m a b ≡ turns up b a b) refl (λ m k e. turns_more m a b k ∙ e) n h

  pub multiply-zero : (a : ℕ) → multiply up a 0 ≡ 0
  unfolding multiply turns
  multiply-zero a = refl

  pub multiply-one : (a : ℕ) → multiply up a 1 ≡ a
  unfolding multiply turns scale
  multiply-one a = ⊕-zero a

  pub multiply-step : (a b : ℕ) → multiply up a b ≡ scale (b % 2) a ⊕ multiply up (up a) (b / 2)
  unfolding multiply turns scale ◌⊕◌
  multiply-step a zero = refl
  multiply-step a (suc b) =
      ap (λ (x : ℕ). scale (suc b % 2) a ⊕ x) (turns-enough b (up a) (suc b / 2) (half_le (le_refl (suc b))))

  pub multiply-scale : (a c b : ℕ) → scale c (multiply up a b) ≡ multiply up a (scale c b)
  unfolding scale
  multiply-scale a zero b = sym (multiply-zero a)
  multiply-scale a (suc c) b = refl

  module _ (linear : (a b : ℕ) → up (a ⊕ b) ≡ up a ⊕ up b) where
    up-zero : up 0 ≡ 0
    up-zero = ap up (sym (⊕-self 0)) ∙ linear 0 0 ∙ ⊕-self (up 0)

    up-scale : (c a : ℕ) → up (scale c a) ≡ scale c (up a)
    unfolding scale
    up-scale zero a = up-zero
    up-scale (suc c) a = refl

    pub multiply-up : (b a : ℕ) → multiply up (up a) b ≡ up (multiply up a b)
    multiply-up =
        bin_ind (λ (b : ℕ). (a : ℕ) → multiply up (up a) b ≡ up (multiply up a b)) (λ a. simp (multiply-zero, up-zero))
        (λ b ih a.
        multiply-step (up a) b ∙ ap₂ ◌⊕◌ (sym (up-scale (b % 2) a)) (ih (up a)) ∙ sym (linear _ _)
        ∙ ap up (sym (multiply-step a b)))

    -- Horner's form: t in front
    pub multiply-horner : (a b : ℕ) → multiply up a b ≡ scale (b % 2) a ⊕ up (multiply up a (b / 2))
    multiply-horner a b = multiply-step a b ∙ ap (λ (x : ℕ). scale (b % 2) a ⊕ x) (multiply-up (b / 2) a)

    pub ⊕-multiply : (b a c : ℕ) → multiply up (a ⊕ c) b ≡ multiply up a b ⊕ multiply up c b
    ⊕-multiply =
        bin_ind (λ (b : ℕ). (a c : ℕ) → multiply up (a ⊕ c) b ≡ multiply up a b ⊕ multiply up c b)
        (λ a c. simp (multiply-zero, zero-⊕))
        (λ b ih a c.
        multiply-step (a ⊕ c) b
        ∙ ap₂ ◌⊕◌ (scale-⊕ (b % 2) a c) (ap (λ (x : ℕ). multiply up x (b / 2)) (linear a c) ∙ ih (up a) (up c))
        ∙ ⊕-swap _ _ _ _ ∙ ap₂ ◌⊕◌ (sym (multiply-step a b)) (sym (multiply-step c b)))

    pub multiply-⊕ : (b a c : ℕ) → multiply up a (b ⊕ c) ≡ multiply up a b ⊕ multiply up a c
    multiply-⊕ =
        bin_ind (λ (b : ℕ). (a c : ℕ) → multiply up a (b ⊕ c) ≡ multiply up a b ⊕ multiply up a c)
        (λ a c. simp (multiply-zero, zero-⊕))
        (λ b ih a c.
        multiply-step a (b ⊕ c)
        ∙ ap₂ ◌⊕◌
        (ap (λ (d : ℕ). scale d a) (⊕-mod b c 1) ∙ ⊕-scale (b % 2) (c % 2) a (omega arith) (omega arith))
        (ap (multiply up (up a)) (⊕-shr b c 1) ∙ ih (up a) (c / 2))
        ∙ ⊕-swap _ _ _ _ ∙ ap₂ ◌⊕◌ (sym (multiply-step a b)) (sym (multiply-step a c)))

    pub zero-multiply : (b : ℕ) → multiply up 0 b ≡ 0
    zero-multiply b = ap (λ (x : ℕ). multiply up x b) (sym (⊕-self 0)) ∙ ⊕-multiply b 0 0 ∙ ⊕-self (multiply up 0 b)

    pub scale-multiply : (c a b : ℕ) → scale c (multiply up a b) ≡ multiply up (scale c a) b
    unfolding scale
    scale-multiply zero a b = sym (zero-multiply b)
    scale-multiply (suc c) a b = refl
