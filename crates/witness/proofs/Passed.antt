-- What the questions of assembly have shown of them.
-- Assumes nothing.
use Rattle.std.proofs.Common.{◌≡◌, ℕ, ◌+◌, ◌*◌, ◌≤◌, eqb, List, length, arith, eqb-true}
use Rattle.layout.specs.Batch.{batch_words}
use Rattle.layout.specs.Laws.Questions.{answered, both_yes}
use Rattle.layout.specs.Laws.Sizes.{allowed-range}
use Rattle.witness.specs.Upper.{public_asked}
use Rattle.witness.specs.Laws.Upper.{public-yes}
use Rattle.witness.specs.Assembly.{assembly_asked, Lent}
use Rattle.std.specs.Prelude.{Ok}

-- all four questions were answered with yes
pub all-passed : (cpi public : ℕ) (cycles batch : List ℕ) → assembly_asked cpi (length cycles) public (length batch) ≡ Ok tt
    → Lent cpi cycles × ((length batch ≡ batch_words cpi) × (4096 * cpi + 2 + public ≤ batch_words cpi))
unfolding assembly_asked
all-passed cpi public cycles batch e =
    let first = both_yes (public_asked cpi public (length batch)) _ e in let is = public-yes cpi public (length batch) first.0 in
    let last = answered (eqb (length cycles) (4096 * cpi)) _ _ first.1 in let some = (allowed-range cpi is.0).0 in
    (record { size = is.0; words = eqb-true _ _ last.0 }, (is.1.0, omega (arith, is.1.1)))
