-- The check over a listing that is named answers as the check does that is lent that listing and scratch that fits; and what it accepts, it
-- accepts with all rows of the listing counted for each cycle, bin and fld apart.
-- Assumes nothing.
use Rattle.std.specs.Prelude.{◌≡◌, true, List, ℕ, ◌*◌, length, Err, Ok}
use Rattle.std.proofs.Common.{sym, ap, ◌∙◌, arith}
use Rattle.layout.specs.Batch.{batch_asked, scratch_fits}
use Rattle.layout.specs.Questions.{if_yes}
use Rattle.strict.specs.declared.Known.{Known}
use Rattle.strict.specs.declared.Known.TheVariants.{House, Strict}
use Rattle.strict.specs.Known.{listing_of}
use Rattle.strict.proofs.Laws.Known.{in_order}
use Rattle.verdict.specs.declared.Counts.{Counts}
use Rattle.verdict.specs.declared.Verdict.TheVariants.{Accepted}
use Rattle.verdict.specs.Counts.{rows, counts_of, every_row_of}
use Rattle.verdict.specs.Check.{judged, checked, known_checked}
use Rattle.verdict.specs.Laws.Known.{every-known}
use Rattle.verdict.proofs.Laws.Scratch.{answer-fits}
use Rattle.verdict.specs.Laws.Verdicts.{accepts, accepted}

pub known-agrees : (k : Known) (cpi : ℕ) (batch scratch : List ℕ) → scratch_fits (length scratch) ≡ true
    → known_checked k cpi batch ≡ (checked cpi (listing_of k) batch scratch).answer
unfolding known_checked
known-agrees k cpi batch scratch s =
    sym
    (answer-fits cpi (listing_of k) batch scratch s
    ∙ ap (λ q. if_yes Err (batch_asked cpi (length batch)) (if_yes Err q (Ok (judged cpi (listing_of k) batch)))) (in_order k))

-- whatever stands in the batch
pub accepted-counts : (k : Known) (cpi : ℕ) (batch : List ℕ) (n : Counts) → judged cpi (listing_of k) batch ≡ Accepted n
    → n ≡ every_row_of k cpi
accepted-counts k cpi batch n e =
    ap counts_of (sym e ∙ accepts cpi (listing_of k) batch (accepted cpi (listing_of k) batch n e)) ∙ every-known k cpi

-- together 514 rows a cycle, or 522: document 02's request 6 by the sum
abbrev pub rows_together : Known → ℕ
rows_together House = 514
rows_together Strict = 522

pub accepted-rows : (k : Known) (cpi : ℕ) (batch : List ℕ) (n : Counts) → judged cpi (listing_of k) batch ≡ Accepted n
    → rows n ≡ rows_together k * cpi
accepted-rows k cpi batch n e = ap rows (accepted-counts k cpi batch n e) ∙ together k
  where
    together : (j : Known) → rows (every_row_of j cpi) ≡ rows_together j * cpi
    together House = omega arith
    together Strict = omega arith
