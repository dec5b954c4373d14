-- Identities of Booleans, by computing every case.
-- Assumes nothing.
use Rattle.std.specs.Prelude.{◌≡◌, refl, Bool, true, false, cond, ◌&&◌, ◌||◌, not}
use Rattle.std.proofs.Common.{sym, ap, true≢false}
use Rattle.std.specs.Bool.{beq}
use Rattle.std.proofs.lemmas.Bool.{false≢true}
use Rattle.base.specs.Bits.{◌⊻◌, majority, alike}
use Rattle.base.specs.Laws.Tests.{both}

beq-≡ : (a b : Bool) → beq a b ≡ true → a ≡ b
beq-≡ true true e = refl
beq-≡ true false e = absurd (false≢true e)
beq-≡ false true e = absurd (false≢true e)
beq-≡ false false e = refl

abbrev every : (Bool → Bool) → Bool
every f = f true && f false

at : (f : Bool → Bool) → every f ≡ true → (a : Bool) → f a ≡ true
at f e true = (both (f true) (f false) e).0
at f e false = (both (f true) (f false) e).1

pub of_two : (f g : Bool → Bool → Bool) → every (λ a. every λ b. beq (f a b) (g a b)) ≡ true → (a b : Bool) → f a b ≡ g a b
of_two f g e a b = beq-≡ (f a b) (g a b) (at (λ y. beq (f a y) (g a y)) (at (λ x. every λ y. beq (f x y) (g x y)) e a) b)

pub of_three : (f g : Bool → Bool → Bool → Bool) → every (λ a. every λ b. every λ c. beq (f a b c) (g a b c)) ≡ true
    → (a b c : Bool) → f a b c ≡ g a b c
of_three f g e a b c = of_two (f a) (g a) (at (λ x. every λ y. every λ z. beq (f x y z) (g x y z)) e a) b c

pub of_four : (f g : Bool → Bool → Bool → Bool → Bool) → every (λ a. every λ b. every λ c. every λ d. beq (f a b c d) (g a b c d))
    ≡ true
    → (a b c d : Bool) → f a b c d ≡ g a b c d
of_four f g e a b c d = of_three (f a) (g a) (at (λ x. every λ y. every λ z. every λ w. beq (f x y z w) (g x y z w)) e a) b c d

pub of-five : (f g : Bool → Bool → Bool → Bool → Bool → Bool)
    → every (λ a. every λ b. every λ c. every λ d. every λ e. beq (f a b c d e) (g a b c d e)) ≡ true
    → (a b c d e : Bool) → f a b c d e ≡ g a b c d e
of-five f g t a b c d e = of_four (f a) (g a) (at (λ x. every λ y. every λ z. every λ w. every λ v. beq (f x y z w v)
    (g x y z w v)) t a) b c d e

-- ---- exclusive or

pub xor-false : (x : Bool) → (x ⊻ false) ≡ x
xor-false true = refl
xor-false false = refl

pub xor-true : (x : Bool) → (x ⊻ true) ≡ not x
xor-true true = refl
xor-true false = refl

pub xor-two : (x y : Bool) → (x ⊻ (y ⊻ false)) ≡ x ⊻ y
xor-two = of_two _ _ refl

pub xor_self : (x y : Bool) → x ≡ y → (x ⊻ y) ≡ false
xor_self true y e = ap not (sym e)
xor_self false y e = sym e

pub xor-cancel : (x y : Bool) → (x ⊻ y) ≡ false → x ≡ y
xor-cancel true true e = refl
xor-cancel true false e = absurd (true≢false e)
xor-cancel false true e = absurd (true≢false e)
xor-cancel false false e = refl

pub alike-not : (x y : Bool) → alike x y ≡ not (x ⊻ y)
alike-not = of_two _ _ refl

-- ---- a choice, and two of three

pub either : (s a b : Bool) → ((s && a) ⊻ (not s && b)) ≡ cond s a b
either = of_three _ _ refl

pub two-of-three : (a b c : Bool) → ((a && b) || (a && c) || (b && c)) ≡ majority a b c
two-of-three = of_three _ _ refl

-- ---- what a Boolean is not

pub not-self : (b : Bool) → not b ≡ b → ⊥
not-self true e = false≢true e
not-self false e = true≢false e

pub no_true : (b : Bool) → (b ≡ true → ⊥) → b ≡ false
no_true true h = absurd (h refl)
no_true false h = refl
