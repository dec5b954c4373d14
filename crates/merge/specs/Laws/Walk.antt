-- The constraints of twice as many cycles are those of half as many, and the same again some cycles on; and the walk over those.
-- Assumes nothing.
use Rattle.std.specs.Prelude.{◌≡◌, Bool, true, false, cond}
use Rattle.std.proofs.Math.Path.{refl, sym, ap₂}
use Rattle.std.proofs.Common.{ap, ◌∙◌, mul-add}
use mathlib.Core.List.{List, [], ◌∷◌, ◌++◌, map, map-append}
use Prim.Native.Nat.{ℕ, zero, suc, ◌+◌, ◌*◌}
use native.Mathlib.Omega.{arith}
use Rattle.base.specs.Lists.{All, from_each}
use Rattle.base.specs.Laws.From.{each_append}
use Rattle.circuit.specs.Rows.{Row}
use Rattle.circuit.specs.Found.{rows_a_cycle}
use Rattle.circuit.specs.Batched.{batch_row}
use Rattle.verdict.specs.declared.Counts.{Counts}
use Rattle.verdict.specs.declared.Verdict.{Verdict}
use Rattle.verdict.specs.declared.Verdict.TheVariants.{Accepted, Failed}
use Rattle.verdict.specs.Counts.{counted}
use Rattle.verdict.specs.Check.{Constraint, in_cycle, in_cycles, failed_at, run}

-- the same row so many cycles on, and a verdict by the rows there
abbrev pub move_by : ℕ → Constraint → Constraint
move_by n k = in_cycle (n + k.cycle) k.row

abbrev pub moved_by : ℕ → Verdict → Verdict
moved_by n (Accepted m) = Accepted m
moved_by n (Failed rel row m) = Failed rel (batch_row rel n row) m

module _ (rs : List Row) where
  row_moved : (n d : ℕ) (qs : List Row) → map (in_cycle (n + d)) qs ≡ map (move_by n) (map (in_cycle d) qs)
  row_moved n d [] = refl
  row_moved n d (q ∷ qs) = ap (λ ls. in_cycle (n + d) q ∷ ls) (row_moved n d qs)

  cycles-moved : (n m d : ℕ) → in_cycles (n + d) m rs ≡ map (move_by n) (in_cycles d m rs)
  unfolding from_each
  cycles-moved n zero d = refl
  cycles-moved n (suc m) d =
      let s : suc (n + d) ≡ n + suc d = omega arith in
      ap₂ ◌++◌ (row_moved n d rs) (ap (λ (j : ℕ). in_cycles j m rs) s ∙ cycles-moved n m (suc d))
      ∙ sym (map-append (move_by n) (map (in_cycle d) rs) (in_cycles (suc d) m rs))

  pub twice-cycles : (cpi : ℕ) → in_cycles 0 (2 * cpi) rs ≡ in_cycles 0 cpi rs ++ map (move_by cpi) (in_cycles 0 cpi rs)
  twice-cycles cpi =
      let t : 2 * cpi ≡ cpi + cpi = omega arith in let s : 0 + cpi ≡ cpi + 0 = omega arith in
      ap (λ (n : ℕ). in_cycles 0 n rs) t ∙ each_append (λ e. map (in_cycle e) rs) cpi cpi 0
      ∙ ap (λ (j : ℕ). in_cycles 0 cpi rs ++ in_cycles j cpi rs) s ∙ ap (λ ls. in_cycles 0 cpi rs ++ ls) (cycles-moved cpi cpi 0)

-- a walk some cycles on, where the tests agree
pub run_moved : (f g : Constraint → Bool) (n : ℕ) (ks : List Constraint) (m : Counts) → All (λ k. f (move_by n k) ≡ g k) ks
    → run f m (map (move_by n) ks) ≡ moved_by n (run g m ks)
unfolding run
run_moved f g n [] m p = refl
run_moved f g n (k ∷ ks) m p =
    ap (λ (b : Bool). cond b (run f next (map (move_by n) ks)) (failed_at (move_by n k) next)) p.0
    ∙ by-test (g k) (run_moved f g n ks next p.1)
  where
    next : Counts
    next = counted k.row.relation m

    row_on : (q d r : ℕ) → q * (n + d) + r ≡ q * n + (q * d + r)
    row_on q d r = omega (arith, mul-add q n d)

    by-test : (b : Bool) → run f next (map (move_by n) ks) ≡ moved_by n (run g next ks)
        → cond b (run f next (map (move_by n) ks)) (failed_at (move_by n k) next) ≡ moved_by n (cond b (run g next ks) (failed_at k next))
    by-test true e = e
    by-test false e =
        ap (λ (i : ℕ). Failed k.row.relation i next) (row_on (rows_a_cycle k.row.relation) k.cycle k.row.number)
