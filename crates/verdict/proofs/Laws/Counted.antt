-- Bin and fld are counted apart in every verdict, and their sum is the count of all that was tested; so of every call.
-- Assumes nothing.
use Rattle.std.specs.Prelude.{◌≡◌, Bool, true, false, cond, ℕ, suc, ◌+◌, ◌*◌, length, Err, Ok}
use Rattle.std.proofs.Math.Path.{refl, sym}
use Rattle.std.proofs.Common.{ap, ap₂, subst, ◌∙◌, add-zero, arith}
use mathlib.Core.List.{List, [], ◌∷◌, ◌++◌}
use Rattle.std.proofs.Math.Nat.{zero-add}
use Rattle.base.specs.Lists.{All}
use Rattle.base.specs.Laws.Tests.{passed, refused}
use Rattle.layout.specs.Batch.{batch_asked}
use Rattle.layout.specs.Questions.{if_yes, Asked}
use Rattle.circuit.specs.declared.Relation.{Relation}
use Rattle.circuit.specs.declared.Relation.TheVariants.{Bin, Fld}
use Rattle.circuit.specs.Batched.{batch_row}
use Rattle.circuit.specs.Rows.{Row, same_relation, of_relation}
use Rattle.circuit.specs.Parse.{rows_of}
use Rattle.strict.specs.declared.Known.{Known}
use Rattle.strict.specs.Known.{listing_of}
use Rattle.verdict.specs.declared.Counts.{Counts}
use Rattle.verdict.specs.declared.Verdict.{Verdict}
use Rattle.verdict.specs.declared.Verdict.TheVariants.{Accepted, Failed}
use Rattle.verdict.specs.Row.{cycle_of}
use Rattle.verdict.specs.Counts.{counts, none, counted, rows, counts_of}
use Rattle.verdict.specs.Check.{Constraint, constraints, met, failed_at, run, judged, asked, checked, known_checked}
use Rattle.verdict.specs.Counted.{tested, in_relation, rows_in, tested_in, CountedApart}
use Rattle.verdict.specs.Laws.Counts.{plus, plus_none, none-plus, counted-first, rows-counted, rows-every, of_one, counted-one, tally, tally-cycles}
use Rattle.verdict.specs.Laws.Run.{run_past, met-run, run-stops}
use Rattle.verdict.specs.Laws.Verdicts.{in-cycles}
use Rattle.verdict.proofs.Laws.Scratch.{told}

-- ---- the walk: its counts add up to what is tested

module _ (test : Constraint → Bool) where
  run-rows : (ks : List Constraint) (n : Counts) → rows (counts_of (run test n ks)) ≡ rows n + tested test ks
  unfolding run tested
  run-rows [] n = sym (add-zero (rows n))
  run-rows (k ∷ ks) n = by-test (test k) (run-rows ks next)
    where
      next : Counts
      next = counted k.row.relation n

      up : rows next ≡ rows n + 1
      up = rows-counted k.row.relation n

      by-test : (b : Bool) → rows (counts_of (run test next ks)) ≡ rows next + tested test ks
          → rows (counts_of (cond b (run test next ks) (failed_at k next))) ≡ rows n + cond b (suc (tested test ks)) 1
      by-test true e = e ∙ omega (arith, up)
      by-test false e = up

  none_of_lem : (rel : Relation) → none ≡ of_one rel 0
  none_of_lem Bin = refl
  none_of_lem Fld = refl

  -- ---- a walk over constraints of one relation, where n were tested before: all are met, or it ends there

  pub data Walked (rel : Relation) (n : Counts) (ks : List Constraint) : Type 0 where
    whole : run test n ks ≡ Accepted (plus n (tally ks)) → of_one rel (tested test ks) ≡ tally ks → Walked rel n ks
    ended : (row : ℕ) → run test n ks ≡ Failed rel row (plus n (of_one rel (tested test ks))) → Walked rel n ks

  walked : (rel : Relation) (ks : List Constraint) → All (λ k. k.row.relation ≡ rel) ks → (n : Counts) → Walked rel n ks
  unfolding run tested tally
  walked Bin [] h n = whole (ap Accepted (sym (plus_none n))) refl
  walked Fld [] h n = whole (ap Accepted (sym (plus_none n))) refl
  walked rel (k ∷ ks) h n = by-test (test k) refl (walked rel ks h.1 next)
    where
      next : Counts
      next = counted k.row.relation n

      -- one more before is one more behind
      onward : (m : ℕ) → plus next (of_one rel m) ≡ plus n (of_one rel (suc m))
      onward m =
          counted-first k.row.relation n (of_one rel m)
          ∙ ap (plus n) (ap (λ (q : Relation). counted q (of_one rel m)) h.0 ∙ counted-one rel m)

      by-test : (b : Bool) → test k ≡ b → Walked rel next ks → Walked rel n (k ∷ ks)
      by-test true e (whole p q) =
          whole (sym (passed (test k) _ _ e) ∙ p ∙ ap Accepted (counted-first k.row.relation n (tally ks)))
          (ap (of_one rel) (sym (passed (test k) (suc (tested test ks)) 1 e)) ∙ sym (counted-one rel (tested test ks))
          ∙ ap₂ counted (sym h.0) q)
      by-test true e (ended row p) =
          ended row (sym (passed (test k) _ _ e) ∙ p
          ∙ ap (Failed rel row) (onward (tested test ks) ∙ ap (λ (m : ℕ). plus n (of_one rel m)) (passed (test k) (suc (tested test ks)) 1 e)))
      by-test false e o =
          ended (batch_row k.row.relation k.cycle k.row.number)
          (sym (refused (test k) _ _ e)
          ∙ ap₂ (λ (q : Relation) (m : Counts). Failed q (batch_row k.row.relation k.cycle k.row.number) m) h.0
          (sym (plus_none next) ∙ ap (plus next) (none_of_lem rel) ∙ onward 0
          ∙ ap (λ (m : ℕ). plus n (of_one rel m)) (refused (test k) (suc (tested test ks)) 1 e)))

-- ---- a batch: its bin rows, and then its fld rows

of-relation : (rel : Relation) (rs : List Row) → All (λ r. r.relation ≡ rel) (of_relation rel rs)
unfolding of_relation
of-relation rel [] = tt
of-relation rel (r ∷ rs) = by-relation r.relation rel refl (of-relation rel rs)
  where
    by-relation : (q p : Relation) → r.relation ≡ q → All (λ s. s.relation ≡ p) (of_relation p rs)
        → All (λ s. s.relation ≡ p) (cond (same_relation q p) (r ∷ of_relation p rs) (of_relation p rs))
    by-relation Bin Bin e h = (e, h)
    by-relation Fld Fld e h = (e, h)
    by-relation Bin Fld e h = h
    by-relation Fld Bin e h = h

module _ (cpi : ℕ) (listing batch : List ℕ) where
  abbrev pub test : Constraint → Bool
  test = met (cycle_of cpi batch)

  abbrev pub all : Relation → ℕ
  all rel = cpi * rows_in listing rel

  abbrev seen : Relation → ℕ
  seen rel = tested_in cpi batch (in_relation cpi listing rel)

  -- the verdict is one of three
  data Ends (v : Verdict) : Type 0 where
    bin-fails : (row : ℕ) → v ≡ Failed Bin row (counts (seen Bin) 0) → Ends v
    fld-fails : (row : ℕ) → v ≡ Failed Fld row (counts (all Bin) (seen Fld)) → seen Bin ≡ all Bin → Ends v
    none-fails : v ≡ Accepted (counts (all Bin) (all Fld)) → seen Bin ≡ all Bin → Ends v

  pub relation-walked : (rel : Relation) (n : Counts) → Walked test rel n (in_relation cpi listing rel)
  relation-walked rel n =
      walked test rel (in_relation cpi listing rel)
      ((in-cycles (λ k. k.row.relation ≡ rel) (of_relation rel (rows_of listing)) cpi 0).1 (λ e l u. of-relation rel (rows_of listing))) n

  pub in_all : (rel : Relation) → tally (in_relation cpi listing rel) ≡ of_one rel (all rel)
  in_all rel = tally-cycles rel (rows_of listing) cpi 0

  ends : Ends (judged cpi listing batch)
  unfolding judged constraints
  ends = by-bin (relation-walked Bin none)
    where
      bins : List Constraint
      bins = in_relation cpi listing Bin

      flds : List Constraint
      flds = in_relation cpi listing Fld

      by-fld : run test none (bins ++ flds) ≡ run test (plus none (tally bins)) flds → seen Bin ≡ all Bin
          → Walked test Fld (plus none (tally bins)) flds → Ends (run test none (bins ++ flds))
      by-fld e s (whole p q) =
          none-fails (e ∙ p ∙ ap Accepted (ap₂ (λ (m k : Counts). plus (plus none m) k) (in_all Bin) (in_all Fld)
          ∙ ap₂ counts (omega arith) (omega arith))) s
      by-fld e s (ended row p) =
          fld-fails row (e ∙ p ∙ ap (Failed Fld row) (ap (λ (m : Counts). plus (plus none m) (of_one Fld (seen Fld))) (in_all Bin)
          ∙ ap₂ counts (omega arith) (omega arith))) s

      by-bin : Walked test Bin none bins → Ends (run test none (bins ++ flds))
      by-bin (whole p q) =
          by-fld (run_past test bins flds none (met-run test bins none _ p)) (ap (λ (m : Counts). m.bin) (q ∙ in_all Bin))
          (relation-walked Fld (plus none (tally bins)))
      by-bin (ended row p) =
          bin-fails row (run-stops test bins flds none p ∙ ap (Failed Bin row) (none-plus (of_one Bin (seen Bin))))

  all_tested : rows (counts_of (judged cpi listing batch)) ≡ tested_in cpi batch (constraints cpi (rows_of listing))
  unfolding judged
  all_tested = run-rows test (constraints cpi (rows_of listing)) none ∙ zero-add _

  pub counted-apart : CountedApart cpi listing batch (judged cpi listing batch)
  counted-apart =
      record { sum = all_tested; bin = bin ends; in-bin = λ row n. in-bin row n ends; in-fld = λ row n. in-fld row n ends; accepted = λ n. accepted n ends; accepted-sum = accepted-sum }
    where
      v : Verdict
      v = judged cpi listing batch

      bin : Ends v → (counts_of v).bin ≡ seen Bin
      bin (bin-fails row p) = ap (λ (w : Verdict). (counts_of w).bin) p
      bin (fld-fails row p s) = ap (λ (w : Verdict). (counts_of w).bin) p ∙ sym s
      bin (none-fails p s) = ap (λ (w : Verdict). (counts_of w).bin) p ∙ sym s

      in-bin : (row : ℕ) (n : Counts) → Ends v → v ≡ Failed Bin row n → n.fld ≡ 0
      in-bin row n (bin-fails other p) e = ap (λ (w : Verdict). (counts_of w).fld) (sym e ∙ p)
      in-bin row n (fld-fails other p s) e = let z : ◌≡◌ {A = ℕ} 0 1 = cc in absurd (omega arith)
      in-bin row n (none-fails p s) e = let z : ◌≡◌ {A = ℕ} 0 1 = cc in absurd (omega arith)

      in-fld : (row : ℕ) (n : Counts) → Ends v → v ≡ Failed Fld row n → (n.bin ≡ all Bin) × (n.fld ≡ seen Fld)
      in-fld row n (bin-fails other p) e = let z : ◌≡◌ {A = ℕ} 0 1 = cc in absurd (omega arith)
      in-fld row n (fld-fails other p s) e =
          (ap (λ (w : Verdict). (counts_of w).bin) (sym e ∙ p), ap (λ (w : Verdict). (counts_of w).fld) (sym e ∙ p))
      in-fld row n (none-fails p s) e = let z : ◌≡◌ {A = ℕ} 0 1 = cc in absurd (omega arith)

      accepted : (n : Counts) → Ends v → v ≡ Accepted n → (n.bin ≡ all Bin) × (n.fld ≡ all Fld)
      accepted n (bin-fails other p) e = let z : ◌≡◌ {A = ℕ} 0 1 = cc in absurd (omega arith)
      accepted n (fld-fails other p s) e = let z : ◌≡◌ {A = ℕ} 0 1 = cc in absurd (omega arith)
      accepted n (none-fails p s) e =
          (ap (λ (w : Verdict). (counts_of w).bin) (sym e ∙ p), ap (λ (w : Verdict). (counts_of w).fld) (sym e ∙ p))

      accepted-sum : (n : Counts) → v ≡ Accepted n → rows n ≡ cpi * length (rows_of listing)
      accepted-sum n e =
          let h = accepted n ends e in ap₂ ◌+◌ h.0 h.1 ∙ rows-every cpi (rows_of listing)

-- ---- so of every call that answers with a verdict

-- a verdict behind questions is the verdict
told-verdict : (q : Asked) (w v : Verdict) → if_yes Err q (Ok w) ≡ Ok v → w ≡ v
told-verdict (Ok _) w v e = cc
told-verdict (Err r) w v e = let z : ◌≡◌ {A = ℕ} 0 1 = cc in absurd (omega arith)

pub call-counted : (cpi : ℕ) (listing batch scratch : List ℕ) (v : Verdict) → (checked cpi listing batch scratch).answer ≡ Ok v
    → CountedApart cpi listing batch v
unfolding checked
call-counted cpi listing batch scratch v e =
    let q = asked cpi listing (length batch) (length scratch) in
    subst (CountedApart cpi listing batch) (told-verdict q (judged cpi listing batch) v (sym (told q (judged cpi listing batch) scratch) ∙ e))
    (counted-apart cpi listing batch)

pub known-counted : (k : Known) (cpi : ℕ) (batch : List ℕ) (v : Verdict) → known_checked k cpi batch ≡ Ok v
    → CountedApart cpi (listing_of k) batch v
unfolding known_checked
known-counted k cpi batch v e =
    subst (CountedApart cpi (listing_of k) batch) (told-verdict (batch_asked cpi (length batch)) (judged cpi (listing_of k) batch) v e)
    (counted-apart cpi (listing_of k) batch)
