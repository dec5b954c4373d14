-- A row's outcome depends on the columns that its terms of nonzero coefficient name, and on nothing else.
-- Assumes nothing.
use Rattle.std.specs.Prelude.{◌≡◌, ℕ}
use Rattle.std.proofs.Math.Path.{refl, ap₂}
use Rattle.std.proofs.Common.{ap}
use mathlib.Core.List.{List, [], ◌∷◌, ◌++◌}
use Rattle.base.specs.Lists.{All}
use Rattle.base.specs.Laws.Lists.{all_left, all_right}
use Rattle.field.specs.declared.Gf128.{Gf128}
use Rattle.field.specs.Gf.{added, product, power}
use Rattle.circuit.specs.declared.Coefficient.{Coefficient}
use Rattle.circuit.specs.declared.Coefficient.TheVariants.{Zero, Power}
use Rattle.circuit.specs.Rows.{Term, Sides}
use Rattle.verdict.specs.declared.Sums.{Sums}
use Rattle.verdict.specs.Row.{times, sum_of, balanced, holds}
use Rattle.verdict.specs.Named.{name, named, named_by}

module _ (z y : ℕ → Gf128) where
  abbrev Same : List ℕ → Type 0
  Same cs = All (λ c. z c ≡ y c) cs

  same-term : (k : Coefficient) (c : ℕ) → Same (name k c) → times k (z c) ≡ times k (y c)
  same-term Zero c p = refl
  same-term (Power k) c p = ap (λ x. product x (power k)) p.0

  pub sum-depends : (ts : List Term) → Same (named ts) → sum_of z ts ≡ sum_of y ts
  unfolding sum_of named
  sum-depends [] p = refl
  sum-depends (t ∷ ts) p =
      ap₂ added (same-term t.coefficient t.column (all_left _ (name t.coefficient t.column) (named ts) p))
      (sum-depends ts (all_right _ (name t.coefficient t.column) (named ts) p))

  pub holds-depends : (s : Sides) → Same (named_by s) → holds z s ≡ holds y s
  holds-depends s p =
      let q = all_right _ (named s.a) (named s.b ++ named s.c) p in
      ap balanced (sums (sum-depends s.a (all_left _ (named s.a) (named s.b ++ named s.c) p))
      (sum-depends s.b (all_left _ (named s.b) (named s.c) q)) (sum-depends s.c (all_right _ (named s.b) (named s.c) q)))
    where
      sums : {a b c d e f : Gf128} → a ≡ d → b ≡ e → c ≡ f
          → ◌≡◌ {A = Sums} (record { a = a; b = b; c = c }) (record { a = d; b = e; c = f })
      sums p q r = λ i. record { a = p i; b = q i; c = r i }
