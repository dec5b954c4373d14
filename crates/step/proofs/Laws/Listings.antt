-- Listings that the theorem speaks of: the house rows with further bin rows that read given columns and the one column alone. The house
-- listing is the case of none, and the strict one has eight. What an accepted batch says of their rows.
-- Assumes nothing.
use Rattle.std.specs.Prelude.{◌≡◌, refl, ◌↔◌, Bool, true, ◌&&◌, List, [], ◌∷◌, ◌++◌, ℕ, length, Ok}
use Rattle.std.proofs.Common.{sym, ap, subst, ◌∙◌}
use Rattle.std.proofs.lemmas.Bool.{false≢true}
use Rattle.base.specs.Lists.{joined, All}
use Rattle.base.specs.Laws.Tests.{both}
use Rattle.base.specs.Laws.Lists.{all_append, all_left, all_right}
use Rattle.field.specs.declared.Gf128.{Gf128}
use Rattle.layout.specs.Batch.{allowed, batch_words, scratch_fits}
use Rattle.circuit.specs.declared.Relation.TheVariants.{Bin, Fld}
use Rattle.circuit.specs.Rows.{Sides, Row, numbered}
use Rattle.circuit.specs.Circuit.{bin_families, fld_families}
use Rattle.circuit.specs.Parse.{rows_of}
use Rattle.circuit.specs.Valid.{validated}
use Rattle.circuit.specs.Laws.Families.{all-numbered}
use Rattle.strict.specs.declared.Known.{Known}
use Rattle.strict.specs.declared.Known.TheVariants.{House, Strict}
use Rattle.strict.specs.Rows.{flag_rows, rows_with}
use Rattle.strict.specs.Known.{listing_of, further_rows}
use Rattle.strict.proofs.Laws.Known.{in_order, rows_are}
use Rattle.verdict.specs.declared.Verdict.{Verdict}
use Rattle.verdict.specs.declared.Verdict.TheVariants.{Accepted, Failed}
use Rattle.verdict.specs.Row.{holds}
use Rattle.verdict.specs.OverBits.{plain}
use Rattle.verdict.specs.Named.{named}
use Rattle.verdict.specs.Check.{judged, checked}
use Rattle.verdict.specs.Laws.Verdicts.{EveryRowHolds}
use Rattle.step.specs.Derived.{derived}
use Rattle.step.specs.Solve.{Holds}
use Rattle.step.specs.Demand3.{accepted_verdict}
use Rattle.step.proofs.Laws.Solvable.{reads_row, same-lacks}
use Rattle.step.proofs.Laws.Determining.{known-given}
use Rattle.step.proofs.Laws.Given.{SameGiven}
use Rattle.step.proofs.Laws.Cycle.{all_over_bits}
use Rattle.step.proofs.Laws.Batch.{RowsHold}
use Rattle.verdict.specs.Laws.Verdicts as verdicts

-- ---- the check's answer

pub judged-accepts : (cpi : ℕ) (listing u : List ℕ) → (accepted_verdict (judged cpi listing u) ≡ true) ↔ EveryRowHolds cpi listing u
judged-accepts cpi listing u = (λ e. go (judged cpi listing u) refl e, λ h. ap accepted_verdict (verdicts.accepts cpi listing u h))
  where
    go : (r : Verdict) → judged cpi listing u ≡ r → accepted_verdict r ≡ true → EveryRowHolds cpi listing u
    go (Accepted n) q e = verdicts.accepted cpi listing u n q
    go (Failed rel row n) q e = absurd (false≢true e)

-- every question is answered with yes
pub checked-answer : (cpi : ℕ) (listing u scratch : List ℕ) → allowed cpi ≡ true → validated listing ≡ Ok tt → scratch_fits (length scratch)
    ≡ true → length u ≡ batch_words cpi
    → (checked cpi listing u scratch).answer ≡ Ok (judged cpi listing u)
checked-answer cpi listing u scratch size valid room words = ap (λ c. c.answer)
    (verdicts.answered-yes cpi listing u scratch size valid room words)

-- ---- further bin rows

-- a row reads given columns and the one column alone
abbrev pub all_read_given : List Sides → Bool
all_read_given [] = true
all_read_given (s ∷ ss) = reads_row [] s && all_read_given ss

pub same-further : (y z : ℕ → Bool) → SameGiven y z → (ss : List Sides) → all_read_given ss ≡ true → All (Holds y) ss → All (Holds z) ss
same-further y z h [] e a = tt
same-further y z h (s ∷ ss) e a =
    let p = both (reads_row [] s) (all_read_given ss) e in
    (same-lacks [] s z y p.0 (λ c k. sym (h c (known-given c k))) ∙ a.0, same-further y z h ss p.1 a.1)

-- a listing of the house rows and further bin rows
pub record Listed (listing : List ℕ) (further : List Sides) : Type 0 where
  pub in_order : validated listing ≡ Ok tt
  pub rows_are : rows_of listing ≡ rows_with further
  pub over-bits : all_over_bits further ≡ true
  pub read-given : all_read_given further ≡ true

module _ (listing : List ℕ) (further : List Sides) (l : Listed listing further) where
  -- every row of a cycle: the house rows, and the further ones
  pub cycle-rows : (z : ℕ → Gf128) → All (λ r. holds z r.sides ≡ true) (rows_of listing)
      ↔ (RowsHold z × All (λ s. holds z s ≡ true) further)
  cycle-rows z = (
    λ h. let a = subst (All Met) l.rows_are h in
        let b = (all-numbered Holding Bin 0 (joined bin_families ++ further)).0 (all_left Met bins flds a) in
        let f = (all-numbered Holding Fld 0 (joined fld_families)).0 (all_right Met bins flds a) in
        ((all_left Holding (joined bin_families) further b, f), all_right Holding (joined bin_families) further b),
    λ h. subst (All Met) (sym l.rows_are)
        (all_append Met bins flds
        ((all-numbered Holding Bin 0 (joined bin_families ++ further)).1 (all_append Holding (joined bin_families) further h.0.0 h.1))
        ((all-numbered Holding Fld 0 (joined fld_families)).1 h.0.1)),
  )
    where
      Holding : Sides → Type 0
      Holding s = holds z s ≡ true

      Met : Row → Type 0
      Met r = holds z r.sides ≡ true

      bins : List Row
      bins = numbered Bin 0 (joined bin_families ++ further)

      flds : List Row
      flds = numbered Fld 0 (joined fld_families)

-- a listing that is known by name is one, by computed tests on the rows that it adds
known-over-bits : (k : Known) → all_over_bits (further_rows k) ≡ true
unfolding flag_rows plain named
known-over-bits House = refl
known-over-bits Strict = refl

known-read-given : (k : Known) → all_read_given (further_rows k) ≡ true
unfolding flag_rows derived
known-read-given House = refl
known-read-given Strict = refl

pub listed : (k : Known) → Listed (listing_of k) (further_rows k)
listed k = record { in_order = in_order k; rows_are = rows_are k; over-bits = known-over-bits k; read-given = known-read-given k }
