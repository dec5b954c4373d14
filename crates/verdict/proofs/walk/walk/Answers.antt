-- `verdict::walk::walk` meets its contract: a listing in order splits into the words of its two relations, and their constraints are
-- the listing's.
-- Assumes nothing.
use mathlib.Core.Path.{◌≡◌, sym, ap, ap₂, subst, ◌∙◌}
use mathlib.Core.Bool.{true}
use mathlib.Core.List.{List, ◌++◌, append-nil}
use Prim.Native.Nat.{ℕ, ◌-◌, ◌≤◌}
use native.Mathlib.Omega.{arith}
use lib.ListN.{length, take, drop, length-drop}
use lib.Seq.{length-take-le, take_all}
use Rattle.base.specs.Lists.{from_each}
use Rattle.circuit.specs.Parse.{rows_of}
use Rattle.circuit.specs.Found.{until}
use Rattle.layout.specs.Laws.Sizes.{allowed-range}
use Rattle.verdict.specs.RowParts.{sorted}
use Rattle.verdict.specs.Counts.{none}
use Rattle.verdict.specs.Check.{in_cycles, constraints, met, judged, run}
use Rattle.verdict.specs.Order.{is_fld_mark}
use Rattle.verdict.specs.Laws.Split.{Split, InOrder, in_order}
use Rattle.verdict.specs.StillToTest.{all_parts}
use Rattle.verdict.specs.Row.{cycle_of}
use Rattle.verdict.proofs.walk.walk.Goals as goal

-- the words from an index on
tail : (ws : List ℕ) (n : ℕ) → take (length ws - n) (drop n ws) ≡ drop n ws
tail ws n = take_all (length ws - n) (drop n ws) (omega (arith, length-drop n ws))

same-constraints : (cpi : ℕ) (ws : List ℕ) (n : ℕ) → Split ws n → all_parts cpi (take n ws) (drop n ws) 0 ≡ constraints cpi (rows_of ws)
unfolding all_parts constraints from_each
same-constraints cpi ws n s =
    ap₂ (λ b f. in_cycles 0 cpi b ++ f) (sym s.bins) (append-nil _ ∙ ap (in_cycles 0 cpi) (sym s.flds))

-- what the loops ask of the two parts
parts : (ws : List ℕ) (n : ℕ) → n ≡ until is_fld_mark ws → InOrder ws
    → (length (take n ws) ≤ 16384)
    × ((length (take (length ws - n) (drop n ws)) ≤ 16384)
    × ((sorted 3 (take n ws) ≡ true) × (sorted 3 (take (length ws - n) (drop n ws)) ≡ true)))
parts ws n e o =
    let few = o.few in let inside = o.inside in
    rw (tail ws n) (
      omega (arith, length-take-le n ws (omega arith)),
      (
        omega (arith, length-drop n ws),
        (subst (λ k. sorted 3 (take k ws) ≡ true) (sym e) o.bin-rows, subst (λ k. sorted 3 (drop k ws) ≡ true) (sym e) o.fld-rows),
      ),
    )

pub slice_bounds-walk_parts-end : goal.slice_bounds-walk_parts-end
slice_bounds-walk_parts-end c =
    let e = c.first_fld-split.ensures in let o = in_order _ c.requires.1.1 in
    sym (length-take-le c.first_fld-split.result _ (omega (arith, o.inside)))

pub offset_bounds-listing-split : goal.offset_bounds-listing-split
offset_bounds-listing-split c =
    let e = c.first_fld-split.ensures in
    let o = in_order _ c.requires.1.1 in omega (arith, o.inside, o.few)

pub slice_bounds-walk_parts-count : goal.slice_bounds-walk_parts-count
slice_bounds-walk_parts-count c =
    let e = c.first_fld-split.ensures in let o = in_order _ c.requires.1.1 in omega (arith, o.inside)

pub slice_bounds-walk_parts-start : goal.slice_bounds-walk_parts-start
slice_bounds-walk_parts-start c =
    let e = c.first_fld-split.ensures in let o = in_order _ c.requires.1.1 in omega (arith, o.inside)

pub walk_parts-requires : goal.walk_parts-requires
walk_parts-requires c =
    let e = c.first_fld-split.ensures in let p = c.requires in
    let o = in_order _ p.1.1 in (
      (allowed-range _ p.0).1,
      (p.1.0, parts _ _ e o),
    )

pub returns : goal.returns
unfolding judged
returns c =
    let a = c.args in let e = c.first_fld-split.ensures in
    let o = in_order _ c.requires.1.1 in
    c.walk_parts.ensures
    ∙ ap (run (met (cycle_of a.cpi a.batch.now)) none)
    (ap (λ f. all_parts a.cpi (take c.first_fld-split.result a.listing.now) f 0) (tail a.listing.now c.first_fld-split.result)
    ∙ same-constraints a.cpi a.listing.now c.first_fld-split.result (subst (Split a.listing.now) (sym e) o.halves))
