-- What is so of every element, of lists put together, taken apart or mapped; and of every number below a limit.
-- Assumes nothing.
use Rattle.std.specs.Prelude.{◌≡◌, refl, Bool, true, not, ◌↔◌, ℕ, zero, suc, ◌<◌, length, get_or}
use Rattle.std.proofs.Common.{sym, subst, ⊎_elim, not-suc-le-zero, eq-or-lt_of_le, le_of_suc-le-suc}
use mathlib.Core.List.{List, [], ◌∷◌, ◌++◌, map}
use Rattle.std.proofs.lemmas.Bool.{not-true}
use Rattle.base.specs.Bits.{◌⊻◌}
use Rattle.base.specs.Lists.{All, joined, all_below}
use Rattle.base.specs.Laws.Tests.{both}
use Rattle.base.specs.Laws.Cases.{xor-cancel}

infixr 20 ◌and◌
-- facts side by side, as All asks for them
abbrev pub ◌and◌ : {A B : Type 0} → A → B → A × B
a and b = (a, b)

module _ {A : Type 0} (P : A → Type 0) where
  pub all_append : (xs ys : List A) → All P xs → All P ys → All P (xs ++ ys)
  all_append [] ys p q = q
  all_append (x ∷ xs) ys p q = (p.0, all_append xs ys p.1 q)

  pub all_left : (xs ys : List A) → All P (xs ++ ys) → All P xs
  all_left [] ys p = tt
  all_left (x ∷ xs) ys p = (p.0, all_left xs ys p.1)

  pub all_right : (xs ys : List A) → All P (xs ++ ys) → All P ys
  all_right [] ys p = p
  all_right (x ∷ xs) ys p = all_right xs ys p.1

  pub all-joined : (xss : List (List A)) → All P (joined xss) ↔ All (All P) xss
  unfolding joined
  all-joined [] = (λ h. h, λ h. h)
  all-joined (xs ∷ xss) = (
    λ h. (all_left xs (joined xss) h, (all-joined xss).0 (all_right xs (joined xss) h)),
    λ h. all_append xs (joined xss) h.0 ((all-joined xss).1 h.1),
  )

  -- one element in place of another that says the same
  pub all-swap : (xs ys : List A) (s t : A) → P s ↔ P t → All P (xs ++ (s ∷ ys)) ↔ All P (xs ++ (t ∷ ys))
  all-swap xs ys s t e = (
    λ h. let k = all_right xs (s ∷ ys) h in all_append xs (t ∷ ys) (all_left xs (s ∷ ys) h) (e.0 k.0, k.1),
    λ h. let k = all_right xs (t ∷ ys) h in all_append xs (s ∷ ys) (all_left xs (t ∷ ys) h) (e.1 k.0, k.1),
  )

  -- what is so of all there is
  pub all-every : ((x : A) → P x) → (xs : List A) → All P xs
  all-every f [] = tt
  all-every f (x ∷ xs) = (f x, all-every f xs)

-- what follows of each
pub all_then : {A : Type 0} (P Q : A → Type 0) → ((x : A) → P x → Q x) → (xs : List A) → All P xs → All Q xs
all_then P Q f [] p = tt
all_then P Q f (x ∷ xs) p = (f x p.0, all_then P Q f xs p.1)

-- and of two facts of each
pub all_two : {A : Type 0} (P Q R : A → Type 0) → ((x : A) → P x → Q x → R x) → (xs : List A) → All P xs → All Q xs → All R xs
all_two P Q R f [] p q = tt
all_two P Q R f (x ∷ xs) p q = (f x p.0 q.0, all_two P Q R f xs p.1 q.1)

pub all_map : {A B : Type 0} (P : B → Type 0) (f : A → B) (xs : List A) → All P (map f xs) ↔ All (λ x. P (f x)) xs
all_map P f [] = (λ h. h, λ h. h)
all_map P f (x ∷ xs) = let k = all_map P f xs in (λ h. (h.0, k.0 h.1), λ h. (h.0, k.1 h.1))

-- ---- every number below a limit

pub below_at : (n : ℕ) (f : ℕ → Bool) → all_below n f ≡ true → (i : ℕ) → i < n → f i ≡ true
below_at zero f t i l = absurd (not-suc-le-zero l)
below_at (suc n) f t i l =
    let p = both (f n) (all_below n f) t in
    ⊎_elim (λ e. subst (λ (k : ℕ). f k ≡ true) (sym e) p.0) (λ k. below_at n f p.1 i k) (eq-or-lt_of_le (le_of_suc-le-suc l))

-- two tests that are the same below n
pub same-below : (n : ℕ) (f g : ℕ → Bool) → all_below n (λ i. not (f i ⊻ g i)) ≡ true → (i : ℕ) → i < n → f i ≡ g i
same-below n f g t i l = xor-cancel (f i) (g i) (not-true (f i ⊻ g i) (below_at n (λ i. not (f i ⊻ g i)) t i l))

-- ---- what a list holds at an index inside

-- it does not depend on what is given outside
pub get_or-inside : {A : Type 0} (xs : List A) (i : ℕ) (a b : A) → i < length xs → get_or xs i a ≡ get_or xs i b
get_or-inside [] i a b h = absurd (not-suc-le-zero h)
get_or-inside (x ∷ xs) zero a b h = refl
get_or-inside (x ∷ xs) (suc i) a b h = get_or-inside xs i a b (le_of_suc-le-suc h)

pub get_or-mapped : {A B : Type 0} (f : A → B) (xs : List A) (i : ℕ) (a : A) (b : B) → i < length xs → get_or (map f xs) i b ≡ f (get_or xs i a)
get_or-mapped f [] i a b h = absurd (not-suc-le-zero h)
get_or-mapped f (x ∷ xs) zero a b h = refl
get_or-mapped f (x ∷ xs) (suc i) a b h = get_or-mapped f xs i a b (le_of_suc-le-suc h)
