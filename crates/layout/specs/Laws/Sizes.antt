-- What the allowed batch sizes have in common. A fact shown of each of the nine is a fact of every allowed cpi.
-- Assumes nothing.
use Rattle.std.specs.Prelude.{◌≡◌, refl, Bool, true, false, ◌||◌, List, [], ◌∷◌, ℕ, ◌≤◌, eqb}
use Rattle.std.proofs.Common.{sym, subst, eqb-true, lit≤}
use Rattle.std.proofs.lemmas.Bool.{false≢true}
use Rattle.base.specs.Lists.{All}
use Rattle.base.specs.Laws.Lists.{◌and◌}
use Rattle.layout.specs.Batch.{sizes, among, allowed, DEFAULT-CPI}

pub among-each : (P : ℕ → Type 0) (xs : List ℕ) → All P xs → (n : ℕ) → among n xs ≡ true → P n
among-each P [] h n e = absurd (false≢true e)
among-each P (x ∷ xs) h n e = by-test (eqb n x) refl e (λ f. among-each P xs h.1 n f)
  where
    by-test : (b : Bool) → eqb n x ≡ b → (b || among n xs) ≡ true → (among n xs ≡ true → P n) → P n
    by-test true q f later = subst P (sym (eqb-true n x q)) h.0
    by-test false q f later = later f

pub each-size : (P : ℕ → Type 0) → All P sizes → (cpi : ℕ) → allowed cpi ≡ true → P cpi
unfolding allowed
each-size P = among-each P sizes

pub allowed-range : (cpi : ℕ) → allowed cpi ≡ true → (1 ≤ cpi) × (cpi ≤ 256)
allowed-range =
    each-size (λ n. (1 ≤ n) × (n ≤ 256))
    ((lit≤ tt, lit≤ tt) and (lit≤ tt, lit≤ tt) and (lit≤ tt, lit≤ tt) and (lit≤ tt, lit≤ tt) and (lit≤ tt, lit≤ tt)
    and (lit≤ tt, lit≤ tt) and (lit≤ tt, lit≤ tt) and (lit≤ tt, lit≤ tt) and (lit≤ tt, lit≤ tt) and tt)

pub default-allowed : allowed DEFAULT-CPI ≡ true
unfolding allowed
default-allowed = refl
