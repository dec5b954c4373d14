-- `verdict::rows::row_sums` meets its contract: the three runs, one behind the other, are the sides that parsing gives.
-- Assumes nothing.
use mathlib.Core.Path.{◌≡◌, sym, ap, ◌∙◌}
use mathlib.Core.Bool.{true}
use mathlib.Core.List.{List}
use Prim.Native.Nat.{ℕ, ◌+◌}
use native.Mathlib.Omega.{arith}
use lib.ListN.{drop}
use lib.Seq.{drop-drop}
use Rattle.field.specs.declared.Gf128.{Gf128}
use Rattle.circuit.specs.declared.Side.{Side}
use Rattle.circuit.specs.declared.Side.TheVariants.{A, B, C}
use Rattle.circuit.specs.Parse.{rows_of}
use Rattle.verdict.specs.declared.rows.SideSum.{SideSum}
use Rattle.verdict.specs.Row.{sum_of}
use Rattle.verdict.specs.RowParts.{run_length, run_terms, sorted}
use Rattle.verdict.specs.Laws.RowParts.{row-rest, row-rows, row-sides}
use Rattle.verdict.specs.Promises.{SideSummed, RowSummed}
use Rattle.verdict.proofs.rows.row_sums.Goals as goal

-- the words behind a run
behind : (side : Side) (ws : List ℕ) (from end : ℕ) → end ≡ from + run_length side (drop from ws)
    → drop end ws ≡ drop (run_length side (drop from ws)) (drop from ws)
behind side ws from end e = ap (λ (n : ℕ). drop n ws) e ∙ sym (drop-drop (run_length side (drop from ws)) from ws)

module _ (z : ℕ → Gf128) (ws : List ℕ) (from : ℕ) (h : sorted 0 (drop from ws) ≡ true) (a b c : SideSum)
    (p : SideSummed z ws from A a) (q : SideSummed z ws a.end B b) (r : SideSummed z ws b.end C c) where
  abbrev next : Side → List ℕ → List ℕ
  next side xs = drop (run_length side xs) xs

  behind-a : drop a.end ws ≡ next A (drop from ws)
  behind-a = behind A ws from a.end p.end_is

  behind-b : drop b.end ws ≡ next B (next A (drop from ws))
  behind-b = behind B ws a.end b.end q.end_is ∙ ap (next B) behind-a

  behind-c : drop c.end ws ≡ next C (next B (next A (drop from ws)))
  behind-c = behind C ws b.end c.end r.end_is ∙ ap (next C) behind-b

  summed : RowSummed z ws from (record { sums = record { a = a.sum; b = b.sum; c = c.sum }; end = c.end })
  summed =
      record {
        sums-are =
            rw (
              row-sides (drop from ws) h,
              p.sum_is,
              q.sum_is ∙ ap (λ (xs : List ℕ). sum_of z (run_terms B xs)) behind-a,
              r.sum_is ∙ ap (λ (xs : List ℕ). sum_of z (run_terms C xs)) behind-b,
            );
        ends =
            record {
              rows_left = ap rows_of behind-c ∙ sym (row-rows (drop from ws) h);
              in_rows = ap (sorted 3) behind-c ∙ row-rest (drop from ws) h;
              onward = omega (arith, p.end_is, q.end_is, r.end_is);
              fits = r.fits;
            };
      }

pub returns : goal.returns
returns c =
    summed _ _ _ c.requires.1 _ _ _ c.side_sum-a.ensures
    c.side_sum-b.ensures
    c.side_sum-c.ensures
