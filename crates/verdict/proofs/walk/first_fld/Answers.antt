-- `verdict::walk::first_fld` meets its contract: the count is what `position` finds.
-- Assumes nothing.
use Rattle.std.proofs.Common.{◌≡◌, true, false, ◌∙◌, sym, rules}
use Rattle.std.proofs.lemmas.Iterator.{IsFirst-from_position, YieldsList-from_slice}
use borrow.Author.Tests.{tests}
use Rattle.circuit.proofs.Laws.First.{until_first}
use Rattle.verdict.specs.Order.{is_fld_mark}
use Rattle.verdict.proofs.walk.first_fld.Goals as goal

pub returns : goal.returns
returns c =
    let f = IsFirst-from_position _ _ _ (λ w. is_fld_mark w ≡ true) (λ w. is_fld_mark w ≡ false) c.position.ensures.ran (YieldsList-from_slice _ cc)
    (λ x q k. search (rules, tests)) (λ x q k. search (rules, tests)) in
    c.unwrap_or.ensures ∙ sym (until_first is_fld_mark _ _ f)
