-- What is left to be tested, from one loop to the next, and the verdict from there on.
-- Assumes nothing.
use Rattle.std.specs.Prelude.{◌≡◌, Bool, true, false, cond, ℕ, ◌+◌, ◌<◌, ◌≤◌, eqb, length, get_or}
use Rattle.std.proofs.Common.{sym, ◌∙◌, add-one, arith, drop_of_length-le, drop-cons}
use Rattle.std.proofs.Math.Path.{ap, ap₂}
use mathlib.Core.List.{List, [], ◌∷◌, ◌++◌, map, append_assoc}
use Rattle.std.proofs.Math.Nat.{sub-zero}
use Rattle.std.proofs.Math.ListN.{drop}
use Rattle.base.specs.Laws.Tests.{passed, refused}
use Rattle.base.specs.Laws.From.{each_step, each-end}
use Rattle.circuit.specs.declared.Relation.{Relation}
use Rattle.circuit.specs.Words.{is_mark}
use Rattle.circuit.specs.Parse.{parse, rows_of}
use Rattle.circuit.specs.Batched.{batch_row}
use Rattle.verdict.specs.declared.Counts.{Counts}
use Rattle.verdict.specs.declared.Verdict.{Verdict}
use Rattle.verdict.specs.declared.Verdict.TheVariants.{Failed}
use Rattle.verdict.specs.Promises.{RowEnds}
use Rattle.verdict.specs.Counts.{counted}
use Rattle.verdict.specs.Check.{Constraint, in_cycle, run}
use Rattle.verdict.specs.StillToTest.{part_at, all_parts, in_part, left_cycles, left_rows, row_at}
use Rattle.verdict.specs.Laws.RowParts.{rows-mark}

-- what is so of both
pub of_parts : (P : List ℕ → Type 0) (bin fld : List ℕ) → P bin → P fld → (r : ℕ) → P (part_at bin fld r)
of_parts P bin fld p q r = by-test (eqb r 0)
  where
    by-test : (b : Bool) → P (cond b bin fld)
    by-test true = p
    by-test false = q

-- ---- from one loop to the next

module _ (cpi : ℕ) (bin fld : List ℕ) where
  pub relation-step : (r : ℕ) → r < 2 → all_parts cpi bin fld r ≡ left_cycles cpi bin fld r 0
  unfolding all_parts left_cycles
  relation-step r h = rw (each_step (in_part cpi bin fld) 2 r h, sub-zero)

  pub relation-end : (r : ℕ) → r ≡ 2 → all_parts cpi bin fld r ≡ []
  unfolding all_parts
  relation-end r e = each-end (in_part cpi bin fld) 2 r (omega arith)

  pub cycle-step : (r d : ℕ) → d < cpi → (part : List ℕ) → part ≡ part_at bin fld r
      → left_cycles cpi bin fld r d ≡ left_rows cpi bin fld part r d 0
  unfolding left_cycles left_rows
  cycle-step r d h part e = rw (each_step (λ e. map (in_cycle e) (rows_of (part_at bin fld r))) cpi d h, append_assoc, e)

  pub cycle-end : (r d : ℕ) → cpi ≤ d → left_cycles cpi bin fld r d ≡ all_parts cpi bin fld (r + 1)
  unfolding left_cycles
  cycle-end r d h = rw (each-end (λ e. map (in_cycle e) (rows_of (part_at bin fld r))) cpi d h)

  pub row-end : (part : List ℕ) (r d at : ℕ) → length part ≤ at → left_rows cpi bin fld part r d at ≡ left_cycles cpi bin fld r (d + 1)
  unfolding left_rows parse
  row-end part r d at h = rw (drop_of_length-le part h)

  -- the row whose mark stands at an index, with what is left behind it
  pub row_here : (part : List ℕ) (r d at end : ℕ) → at < length part → is_mark (get_or part at 0) ≡ true → RowEnds part (at + 1) end
      → left_rows cpi bin fld part r d at ≡ in_cycle d (row_at part at) ∷ left_rows cpi bin fld part r d end
  unfolding left_rows
  row_here part r d at end h m e =
      ap (λ rs. map (in_cycle d) rs ++ left_cycles cpi bin fld r (d + 1))
      (ap rows_of (drop-cons part at 0 h) ∙ ap (λ n. rows_of (get_or part at 0 ∷ drop n part)) (sym (add-one at))
      ∙ rows-mark (get_or part at 0) (drop (at + 1) part) m ∙ ap (λ rs. row_at part at ∷ rs) (sym e.rows_left))

-- ---- the verdict from there on

module _ (test : Constraint → Bool) (n : Counts) where
  -- carried along an equation of what is left
  pub along : {ks ls : List Constraint} {v : Verdict} → ks ≡ ls → run test n ks ≡ v → run test n ls ≡ v
  along e h = ap (run test n) (sym e) ∙ h

  module _ {k : Constraint} {ks ls : List Constraint} {v : Verdict} (e : ks ≡ k ∷ ls) (h : run test n ks ≡ v) where
    pub run_on : {m : Counts} → m ≡ counted k.row.relation n → test k ≡ true → run test m ls ≡ v
    unfolding run
    run_on more t = ap (λ (i : Counts). run test i ls) more ∙ passed _ _ _ t ∙ along e h

    pub run-stop : {rel : Relation} {row : ℕ} {m : Counts} → rel ≡ k.row.relation → row ≡ batch_row rel k.cycle k.row.number
        → m ≡ counted rel n → test k ≡ false → Failed rel row m ≡ v
    unfolding run
    run-stop {rel} of row_is more t =
        ap₂ (Failed rel) row_is more ∙ ap (λ (q : Relation). Failed q (batch_row q k.cycle k.row.number) (counted q n)) of
        ∙ refused _ _ _ t ∙ along e h
